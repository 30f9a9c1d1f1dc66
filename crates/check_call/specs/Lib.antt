-- What the contracts cite.
pub mod CheckCall
pub mod CheckAnswered
