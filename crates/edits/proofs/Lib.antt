-- Laws of the calls.
pub mod TextLaws
pub mod CaretCalls
pub mod ChangesCalls
pub mod Examples
