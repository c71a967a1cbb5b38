-- `claim_fits`: the path of a claim lies in its block.
use Rattle.demo.proofs.Claims.{claim_fits}
use Rattle.demo.proofs.tell.Goals as goal

pub tell_claim-requires : goal.tell_claim-requires
tell_claim-requires c =
    claim_fits c.args.block _ c.read.ensures c.in-Claim.is
