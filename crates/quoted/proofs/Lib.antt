-- Laws of quoted text.
pub mod Marks
pub mod Separators
pub mod Strings
pub mod SpacedStrings
pub mod White
pub mod Through
pub mod Endings
pub mod Carries
pub mod Lines
pub mod Among
pub mod Place
pub mod StringLines
pub mod Text
pub mod Openings
pub mod OpeningLines
pub mod Prefabs
pub mod Source
pub mod Order
pub mod C22
-- computed
pub mod BlockExamples
