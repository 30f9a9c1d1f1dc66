-- The laws that this crate's proofs share.
pub mod SettingLaws
