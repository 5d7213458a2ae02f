-- The claim over every list of calls, top to bottom. Letters as in `model`, and: e an entry, es a list of them, c a
-- call, f an effect or a file's bytes, b a book, l a line, q the handle answered, r what a run has come to.

-- Section "The book".
pub mod Book
-- Its list, and what a machine makes of it.
pub mod Machine
-- What the list leaves out.
pub mod Covered
-- The claim.
pub mod Claim
-- What the claim says that handles show, for a sequence's run.
pub mod Sequences
-- The empty machines, and the machines that are wrong in less, of each of which the claim is false.
pub mod Empty
pub mod Near
-- Why the list leaves calls out, and that it leaves out no other.
pub mod LeftOut
pub mod Every
-- What holds of the store besides.
pub mod Sound
