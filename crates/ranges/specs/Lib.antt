-- What the contracts cite besides the definitions.
pub mod Slots
pub mod Ranges
