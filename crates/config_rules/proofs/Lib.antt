-- Computed examples.
pub mod Computing
pub mod GlobExamples
pub mod ConfigExamples
