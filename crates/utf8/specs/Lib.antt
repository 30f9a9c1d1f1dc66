-- Unicode and UTF-8: the definitions that the contracts cite.
pub mod Unicode
pub mod Places
