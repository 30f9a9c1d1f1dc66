-- Laws of a text cut at its LFs, for this crate and those above it.
pub mod LineCuts
