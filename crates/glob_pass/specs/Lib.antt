-- What the contracts cite besides the definitions.
pub mod Kinds
pub mod Held
pub mod Pass
