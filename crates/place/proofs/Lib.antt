-- Laws of putting a line into the text.
pub mod PlaceLaws
pub mod FitLaws
pub mod LayLaws
pub mod BreakLaws
