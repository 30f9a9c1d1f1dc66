-- What the contracts cite besides the rules.
pub mod First
pub mod Places
