-- What the contracts cite.
pub mod Measure
pub mod Text
