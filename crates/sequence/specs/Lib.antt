-- What is shown of a find's, an advance's and a drain's answer.
pub mod Shown
-- A count raised that has 32 bits.
pub mod Counted
-- The command at fault.
pub mod Fault
-- The tests before the commands.
pub mod Head
-- A step with the journal lent as columns.
pub mod LentStep
-- How a run begins, and what it leaves with the journal lent as columns.
pub mod LentRun
-- What the answer of a run stands for.
pub mod Tallied
