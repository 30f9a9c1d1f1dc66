-- Laws of digits, for this crate and those above it.
pub mod DigitLaws
