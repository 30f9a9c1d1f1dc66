-- What the contracts cite besides the definitions.
pub mod Walk
pub mod Steps
