-- What the contracts cite; a file for each exported contract.
pub mod Text
pub mod CaretCall
pub mod CaretAnswered
pub mod ChangesCall
pub mod ChangesAnswered
