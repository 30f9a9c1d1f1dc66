-- What the contracts cite.
pub mod Ran
