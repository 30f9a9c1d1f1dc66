-- The laws that this crate's proofs and the crates above share.
pub mod ListLaws
pub mod EndingLaws
