pub mod Search
pub mod Lines
pub mod Digits
pub mod Layouts
pub mod Decoded
pub mod Symbols
pub mod Spelled
