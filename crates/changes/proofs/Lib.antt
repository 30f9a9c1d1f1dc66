-- Laws of changes.
pub mod Examples
pub mod WalkLaws
pub mod PassLaws
pub mod ChangeLaws
pub mod ListLaws
