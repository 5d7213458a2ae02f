-- What the functions that write a part of a line promise.
pub mod Written
-- The two parts of a command's line after its word.
pub mod Parts
-- The run of a file on a new store.
pub mod NewRun
