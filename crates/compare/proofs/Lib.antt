-- Laws of the definitions.
pub mod CommonLaws
pub mod CellLaws
pub mod WriterLaws
