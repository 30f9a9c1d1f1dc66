-- Tests of many places at once: the definitions that the contracts cite.
pub mod Blocks
pub mod Marks
