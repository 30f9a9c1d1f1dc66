-- The laws that this crate's proofs and the crates above share.
pub mod RegionLaws
pub mod OverLaws
pub mod AgreeLaws
pub mod RepeatLaws
pub mod WriteLaws
pub mod LoopLaws
pub mod CopyLaws
