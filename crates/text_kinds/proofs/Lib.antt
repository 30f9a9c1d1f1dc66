-- The laws that this crate's proofs share.
pub mod PlaceLaws
pub mod FillLaws
pub mod ClassLaws
pub mod LineLaws
pub mod ReadLaws
pub mod KindsCall
