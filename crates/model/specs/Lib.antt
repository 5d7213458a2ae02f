-- Document 01, section by section: a file or two for each. Letters, where a definition does not say otherwise: s a
-- store, d the destination of two; t tables; h a header; k marks, l links, g generations or a generation, v values or
-- a value; p a place or a handle, i an index; c a cursor or a command; b a file's bytes or a book; q a state or the
-- handle answered; m a stack's length, C a number of places; n a number, such as a refusal's, a reserve's or that of a
-- journal's rows.

-- "The sequence file"
pub mod Codes
pub mod Sequence
pub mod Run
-- "The store"
pub mod Store
pub mod Freelist
-- "The calls"
pub mod Tests
pub mod Answer
pub mod Calls
pub mod Audit
pub mod Perform
-- "Turned down, in checking order"
pub mod Refusals
-- "One listing, whole", and an example of it
pub mod Listing
pub mod Worked
-- "Each place and its form"
pub mod Answers
