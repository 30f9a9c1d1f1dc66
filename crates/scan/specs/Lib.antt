pub mod Classified
pub mod CodeEnd
pub mod Stretch
pub mod Within
pub mod Marked
