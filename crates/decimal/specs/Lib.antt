-- What the contracts cite.
pub mod Decimal
