-- What the contracts cite besides the rules.
pub mod Holds
pub mod Lone
pub mod Scratch
