-- Laws.
pub mod TokenLaws
pub mod BraceLaws
pub mod PassLaws
pub mod SetLaws
