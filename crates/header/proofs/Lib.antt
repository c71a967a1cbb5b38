-- Contents of proofs/, beside a folder for each function: what its proofs cite, and laws that crates above cite.

-- What the encoder's steps give, one behind the other.
pub mod Encode
-- What the decoder answers, one law a way out, each under the tests that were passed before it.
pub mod Decode
-- The statements of specs/RoundTrip.antt.
pub mod RoundTrip
-- Laws of the header block that the layers above cite.
pub mod BlockLaws
