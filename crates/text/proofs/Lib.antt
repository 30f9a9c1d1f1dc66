-- Laws of the text, for this crate and those above it.
pub mod LinesLaws
pub mod PadLaws
pub mod StepLaws
