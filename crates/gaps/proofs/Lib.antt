-- Laws of gaps.
pub mod GapLaws
pub mod ScanLaws
