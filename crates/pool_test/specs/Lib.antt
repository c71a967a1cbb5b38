-- Contents of specs/: the definitions that the contracts cite, their examples, and theorems.

-- Whether lent buffers are a pool (01, "A pool"), as a test.
pub mod Test
-- What passes between the parts of the test: the sizes in words, keys worked out once, and what is known of a directory that passed.
pub mod Keys
