-- Laws that the proofs cite.
pub mod ProgramLaws
pub mod ProgramExamples
