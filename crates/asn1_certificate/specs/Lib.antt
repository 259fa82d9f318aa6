pub mod Sequences
pub mod Types
pub mod Held
pub mod Reading
pub mod Items
pub mod Parts
