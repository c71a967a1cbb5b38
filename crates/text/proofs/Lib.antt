-- Contents of proofs/, beside a folder for each function: what its proofs cite, and laws that crates above cite.

-- One turn of each loop: what the bytes from i on give is what byte i and those behind it give.
pub mod Turns
-- Why the test decides the grammar: what is due behind each first byte, what a walk that ends between two characters has read.
pub mod Steps
-- The test decides the grammar: `is_text s ≡ true` exactly if `Text s`, of every list of numbers.
pub mod Grammar
-- The examples of RFC 3629, section 7, and what sections 3, 4 and 10 refuse.
pub mod Examples
