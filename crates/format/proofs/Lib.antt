-- The laws that this crate's proofs and the crates above share.
pub mod BoolPicks
pub mod WordLaws
pub mod ElseLaws
pub mod MarkerLaws
