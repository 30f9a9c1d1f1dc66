-- What the contracts cite besides the rules.
pub mod Words
pub mod Else
