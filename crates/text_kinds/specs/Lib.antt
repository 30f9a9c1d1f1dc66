-- What the contracts cite.
pub mod Places
pub mod Reading
pub mod KindsAnswered
