-- What contracts above cite besides the rules.
pub mod Region
pub mod Closers
pub mod Depth
