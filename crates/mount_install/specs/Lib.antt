-- Contents of specs/: the definitions that the contracts cite, their examples, and theorems.

-- What a mount makes of the rows that it has staged, in the words of survey's Staged: 01, "Mount, adopt".
pub mod Install
