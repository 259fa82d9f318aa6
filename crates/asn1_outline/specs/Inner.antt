-- What private contracts name, but no public contract.
pub mod InEntries
