-- What an exported call hands back, and that nothing of an answer is lost in it.
pub mod HandedBack
pub mod Exact
-- What these calls show and hand back.
mod Shown
