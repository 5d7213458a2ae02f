-- The parts of a line, one after the other.
pub mod Texts
-- The digits of a number.
pub mod Digits
-- A command's line in its parts.
pub mod LineParts
-- The sum of a column of the tally.
pub mod Sums
-- A line written into a part of the buffer; how long a line can be; the lines of a run, one after the other; what
-- `runseq` lends, and how much of a file it has to read.
pub mod ListedParts
pub mod Short
pub mod Lines
pub mod Lent
pub mod Long
-- The first part of a buffer that a listing was written into.
pub mod Whole
