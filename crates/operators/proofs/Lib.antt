-- The laws that this crate's proofs and the crates above share.
pub mod OperatorLaws
pub mod StrengthLaws
pub mod FirstLaws
pub mod EveryByte
