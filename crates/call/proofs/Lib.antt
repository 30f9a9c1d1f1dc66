-- Laws of the call, for this crate and those above it.
pub mod CallLaws
