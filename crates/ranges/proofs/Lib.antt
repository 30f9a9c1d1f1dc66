-- Laws.
pub mod OrderLaws
pub mod InRange
pub mod SlotLaws
pub mod EndLaws
pub mod StepLaws
