pub mod Decoded
pub mod Forms
pub mod Known
pub mod Texts
pub mod Objects
pub mod Shown
pub mod Written
