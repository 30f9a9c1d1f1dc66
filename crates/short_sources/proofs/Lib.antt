-- Laws of the definitions.
pub mod InputLaws
pub mod SizeLaws
pub mod SourceLaws
pub mod PageLaws
