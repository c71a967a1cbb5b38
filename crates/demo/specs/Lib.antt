-- Contents of specs/: the definitions that the contracts cite, their examples, and theorems.

-- What the story is told by: what a slot's header block says.
pub mod Story
