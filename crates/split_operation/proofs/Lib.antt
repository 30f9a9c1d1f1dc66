-- The laws that this crate's proofs share.
pub mod WordLaws
pub mod PassLaws
pub mod RunLaws
pub mod ClassLaws
pub mod OperationLaws
