-- Contents of specs/: the definitions that the contracts cite, their examples, and theorems.

-- 01's "Rename": what comes before the device, the file's new header, and the holder of `to` that gives way.
pub mod Rename
