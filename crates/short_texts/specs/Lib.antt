-- What the contracts cite.
pub mod Texts
pub mod Steps
