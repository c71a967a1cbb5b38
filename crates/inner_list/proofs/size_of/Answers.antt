-- Carried by `size_sum`: the size of the entries is the sum of their sizes.
use Rattle.std.proofs.Common.{◌∙◌, ◌≡◌, ◌+◌, ◌%◌, sum, map, rules}
use Rattle.inner_list.proofs.Ways.{size_sum}
use Rattle.inner_list.proofs.size_of.Goals as goal

pub returns : goal.returns
returns c =
    let e : c.sum.result ≡ sum (map (λ x. 3 + x % 512) c.args.spans.now) = search rules in
    e ∙ size_sum c.args.spans.now
