-- What the contracts cite besides the rules.
pub mod Tests
pub mod Formatted
pub mod Styled
pub mod Ran
pub mod FormatAnswered
