-- A range of places.
pub mod Ranges
-- A table whose first places are zero.
mod Zeroing
-- What a search over the places finds.
pub mod Searching
-- The loop that walks the chain.
mod Walking
-- The length of fit tables.
mod Short
-- The moves that are left to a cursor.
mod Moves
-- A removal is a drain of a place.
mod Draining
-- The loop that writes a row for each message.
mod Writing
-- The loop that moves the messages of a stack down, the loop that pops the places above them, and what the two come to.
mod MovingDown
mod Popping
mod Gathering
-- The loop over the places of the source.
mod Copying
-- The loop that moves messages.
mod Transferring
-- The n-th message of a stack, and its row.
mod Nth
-- A `&mut` slice that is lent again for the time of a call, and comes back.
pub mod Again
