-- What the face is asked, what it leaves, and its contract.

-- The contract of `pool::call`: what is lent to it and what it is asked for, what it replies and leaves, and how the two hang together.
pub mod Face
