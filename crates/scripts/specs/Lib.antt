-- The numbers that a line spells.
pub mod Numbers
-- The words of places and of the journal's rows, and how they, headers and answers are printed.
pub mod Words
-- A table whose first words are lent, and what becomes of it.
pub mod Lending
