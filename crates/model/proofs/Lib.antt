-- What is shown of the definitions.

-- Laws that every proof cites: the tests, the words of places, the lowest live place, one turn of what goes
-- from place to place or lays messages and rows, the generation step, and what a test that fails says of a store.
pub mod Tests
pub mod Places
pub mod Live
pub mod Freelist
pub mod Laying
pub mod Width
pub mod Refusals
-- Every call keeps the tables' lengths.
pub mod Lengths
-- No call changes the words above the stack, but by a push, and none reads them.
pub mod Above
pub mod Agree
pub mod Alike
pub mod AlikeAfter
pub mod Unread
-- What a refusal leaves.
pub mod Refused
-- A new store is sound.
pub mod Sound
-- Each removal of a transfer steps the generation once.
pub mod Removals
-- The bounds of an advance and of a decimal number cut nothing off; what the first look of an advance comes to.
pub mod Advance
pub mod Decimal
-- A run that is accepted is never turned down.
pub mod Runs
-- No two cases of an answer enum read alike.
pub mod Readings
-- The worked listing.
pub mod Worked
-- The laws of the free chain. Throughout, k is the marks, l the links and m the stack's length.

-- A chain, and what leaves it as it is.
pub mod Linked
-- Which places are live, and how many.
pub mod LivePlaces
pub mod Count
-- A store's shape, and the verdict that says so.
pub mod Shape
-- Each change of a call keeps it.
pub mod Changes
-- The chain meets each free place once.
pub mod Meets
-- What order makes of the stack and the chain.
pub mod Words
pub mod Trim
pub mod Relink
pub mod Ordered
-- What is laid into an emptied store.
pub mod Laid
