-- Laws of a line's step, for this crate and those above it.
pub mod HoldsLaws
pub mod KeptLaws
pub mod LoneLaws
