-- What the contracts cite.
pub mod Buffer
pub mod Repeat
pub mod Copy
pub mod Pad
