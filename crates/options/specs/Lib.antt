-- What the contracts cite.
pub mod Held
pub mod Endings
pub mod Indents
pub mod Numbers
