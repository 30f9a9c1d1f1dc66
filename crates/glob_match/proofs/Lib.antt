-- Laws.
pub mod SlotsLaws
pub mod PathLaws
pub mod NameLaws
