pub mod Identifiers
pub mod Wide
pub mod Strings
