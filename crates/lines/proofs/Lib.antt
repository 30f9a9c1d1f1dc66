-- Laws of the lines of a source, for this crate and those above it.
pub mod LineChars
pub mod LoopLaws
pub mod CheckLaws
