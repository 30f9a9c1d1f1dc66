-- The text as its lines, and what the code holds of it.
pub mod Text
