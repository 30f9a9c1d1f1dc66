-- The laws that this crate's proofs share.
pub mod KindBytes
pub mod KindLines
pub mod KindMarks
pub mod KindCall
