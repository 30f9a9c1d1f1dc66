-- What the contracts cite.
pub mod Stored
pub mod Replay
