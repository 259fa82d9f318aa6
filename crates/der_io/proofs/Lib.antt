mod Escapes
pub mod Written
