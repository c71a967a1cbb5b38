-- What an arm of the match comes to.

-- An arm of a match over the calls: what it came to is what the call that is asked for comes to.
pub mod Arms
