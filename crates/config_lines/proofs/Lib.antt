-- Laws.
pub mod WordLaws
pub mod LineBytes
pub mod PartLaws
pub mod WholeLaws
pub mod ValueLaws
pub mod KindLaws
pub mod PairLaws
