-- The last component carries the key: `key_is`, `key_none`.
use Rattle.path.proofs.Keys.{key_none, key_is}
use Rattle.path.proofs.key.Goals as goal

pub returns-in-None : goal.returns-in-None
returns-in-None c =
    key_none _ _ c.in-None.ensures c.text_key.ensures

pub returns-in-Some : goal.returns-in-Some
returns-in-Some c =
    key_is _ _ _ _ c.in-Some.ensures c.text_key-in-Some.ensures
