pub mod Blocks
pub mod Texts
pub mod Outcomes
pub mod Inputs
pub mod Growing
