-- Laws of the definitions.
pub mod SameLaws
pub mod CheckLaws
