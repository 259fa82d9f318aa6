pub mod Rows
pub mod Parts
pub mod Printing
pub mod Texts
