-- Contents of specs/: the definitions that the contracts cite, their examples, and theorems.

-- 01, The header block: the bytes of a header, and what a block says.
pub mod Block
-- What holds of the codec, as statements. proofs/RoundTrip.antt proves each under its name.
pub mod RoundTrip
