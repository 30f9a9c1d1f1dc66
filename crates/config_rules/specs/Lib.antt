-- C-12, as docs/EDITORCONFIG.md says it: a path and eight texts, the nearest first, to the values that count.
pub mod Sets
pub mod Numbers
pub mod Name
pub mod Globs
pub mod Lines
pub mod Values
pub mod Sections
pub mod Texts
pub mod Call
