-- Laws of the definitions.
pub mod Choose
pub mod TestLaws
pub mod Computing
pub mod Examples
-- the measure
pub mod Columns
-- on the bytes of a text as on the text
pub mod StartsBytes
pub mod Leading
pub mod ScanBytes
pub mod CellsLaws
pub mod SpacingBytes
pub mod BracketsBytes
pub mod LinesBytes
pub mod Scalars
pub mod WordsBytes
pub mod OperatorsBytes
-- demand 3
pub mod Struck
pub mod SpacingLaws
pub mod SplitOperationLaws
pub mod SplitImportLaws
pub mod LineLaws
pub mod Demand3
pub mod RefusalLaws
pub mod CallLaws
-- the respaced line
pub mod SpacedLine
-- the lines of the stack's entries change no text
pub mod Unaffected
-- the rounds of a break
pub mod Rounds
pub mod Prefix
pub mod StrengthRounds
-- the lines of a split
pub mod SplitLines
pub mod SplitSizes
-- readings and calls, computed
pub mod Readings
pub mod OperatorReadings
pub mod BlockReadings
pub mod CallExamples
pub mod RulerExamples
pub mod QuotedExamples
