-- What the contracts cite besides the definitions.
pub mod Levels
pub mod Refusals
pub mod ConfigAnswered
