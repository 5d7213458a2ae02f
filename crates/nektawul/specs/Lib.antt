-- Answers and headers for C and Rust.
pub mod Answer
-- A cursor as C and Rust have it.
pub mod Cursor
