-- What the contracts cite besides the definitions.
pub mod Read
pub mod Braces
