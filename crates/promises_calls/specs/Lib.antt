-- What the customer would ask next, of the public calls as the contract of the flat call gives them (`call_p`); crate promises says that the
-- face is the same. Each statement is proved in proofs/, under its name in small letters.

-- What a mount and an adoption leave on the card: the bytes of every file that they leave.
pub mod Mounts
-- A blank card: what a mount of slots that hold no header comes to.
pub mod Blank
-- What was written is read, and what was synced is found.
pub mod Bytes
