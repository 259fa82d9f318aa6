-- Lemmas of JSON.
pub mod Texts
pub mod Chars
pub mod Written
pub mod Walk
