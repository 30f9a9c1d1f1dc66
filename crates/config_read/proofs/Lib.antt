-- Laws.
pub mod LevelLaws
pub mod RefusalLaws
pub mod CallExamples
