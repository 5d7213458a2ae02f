-- The numbers in a file's bytes.
pub mod Fields
-- What is shown of a call's answer is its reading.
pub mod Proper
-- Where a command's answer is counted.
pub mod Counting
-- The table of commands.
pub mod CommandTable
-- The first bad command.
pub mod Finding
-- The whole-file check.
pub mod Checks
-- The call of each code.
pub mod Named
-- A call's outcome as its command's.
pub mod Outcome
-- A command other than compress has no rows.
pub mod Rows
-- A count of a run's tally is at most the number of its steps.
pub mod Counts
-- A run in general: what its next command leaves, and what an accepted file says of its numbers.
pub mod Starting
-- What a step leaves, in any journal.
mod Stepping
-- A command writes no more rows than its journal has.
pub mod Moved
-- A run in any journal.
pub mod Running
-- A run keeps the lengths of the tables.
pub mod Lengths
-- The number of each step of a run, and the length of its tally.
mod Steps
