-- What the contracts cite.
pub mod Changes
pub mod Passing
pub mod Writing
