-- Laws.
pub mod StepLaws
pub mod WalkLaws
