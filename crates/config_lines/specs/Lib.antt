-- What the contracts cite besides the definitions.
pub mod Words
pub mod Whole
pub mod Kinds
