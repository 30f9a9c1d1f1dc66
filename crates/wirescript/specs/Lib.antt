-- What the contracts cite.
pub mod Config
pub mod Settings
pub mod SettingsAnswered
