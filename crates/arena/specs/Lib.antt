-- A table's word at a place, for words of any type.
pub mod Words
-- A place that is found.
pub mod Found
-- What an audit finds, with the places of the chain that it looked at.
pub mod Looked
-- The journal as plain columns.
pub mod Columns
-- What every form of the journal keeps.
pub mod Journal
-- The columns with rows written are the journal with those rows written.
pub mod Journaled
-- Both forms of the journal keep its laws.
pub mod Laws
-- The journal as a slice of rows, and as lent columns.
pub mod Lent
-- The rows of messages that are moved.
pub mod Moved
-- Places popped at the end of a stack.
pub mod Popped
