-- Carried by the record `Going`: registering what is left gives the whole.
use Rattle.mount_install.proofs.Walks.{Going}
use Rattle.mount_install.proofs.register_claims.Given as goal

abbrev pub invariant-loop-i : goal.invariant-loop-i
invariant-loop-i l = Going l.rows.nums.now l.rows.names.now l.rows.cap l.n l.rows.n l.dir_cap l.d l.initial.dirs l.dirs l.e l.i
