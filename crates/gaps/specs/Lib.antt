-- What the contracts cite.
pub mod Gaps
