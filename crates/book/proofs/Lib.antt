-- The proof of the claim.

-- The invariant.
pub mod Kept
-- Laws of the book's lines, and of the handles given out.
pub mod Lines
pub mod Handles
-- What the invariant says of a store's tests, and of the places that its lines take.
pub mod Tested
pub mod Taken
pub mod Counted
pub mod Fullness
-- Each change that a call makes keeps the invariant.
pub mod Placing
pub mod Insertion
pub mod Removal
pub mod Transfer
pub mod Access
pub mod Ordering
pub mod Clearing
pub mod Gathering
pub mod Compression
pub mod Generations
pub mod Accepted
pub mod Performed
-- What the invariant says of get, of other messages' places, of the chain and of a store laid out afresh.
pub mod Shows
pub mod Apart
pub mod Chain
pub mod Highest
pub mod Afresh
-- The theorem.
pub mod Theorem
-- The store is sound after every list.
pub mod Sound
-- What the claim says of a sequence's run.
pub mod Sequences
-- The empty stores that the claim rules out, and stores that are wrong in less; why the list leaves calls out, and
-- that it leaves out no other.
pub mod Computing
pub mod Empty
pub mod Near
pub mod LeftOut
pub mod Every
