-- Laws of the functions for the runs.
pub mod LevelLaws
