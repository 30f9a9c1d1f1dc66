-- Laws.
pub mod MarkLaws
pub mod SettledLaws
pub mod ReadLaws
pub mod RawLaws
