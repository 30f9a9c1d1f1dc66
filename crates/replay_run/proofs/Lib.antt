-- Laws that the proofs cite.
pub mod ListLaws
pub mod Spelled
pub mod RunLaws
