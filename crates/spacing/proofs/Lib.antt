-- The laws that this crate's proofs share.
pub mod SpacingLaws
pub mod KeptLaws
pub mod QuietLaws
pub mod SaidLaws
