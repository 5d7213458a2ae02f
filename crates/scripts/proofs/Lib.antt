-- One byte of a line read.
pub mod Turns
-- The words of the first places given, place by place.
pub mod Giving
