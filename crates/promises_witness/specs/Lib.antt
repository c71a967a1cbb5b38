-- Examples in which the premises of what is promised hold.

-- Demand 3: two claims of one path, and a release that fails.
pub mod TwoClaims
-- Table P: P1, P6 and P7.
pub mod Edges
