-- What the contracts cite.
pub mod Pass
pub mod Operation
