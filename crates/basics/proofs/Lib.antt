-- The laws that this crate's proofs and the crates above share.
pub mod StartsLaws
pub mod OnlyLaws
pub mod ClassPicks
pub mod TableLaws
pub mod ScanSteps
pub mod SplitLaws
