-- What private contracts and ghost members of types name, but no public contract.
pub mod Natural
pub mod Whole
pub mod Sinks
pub mod ArraySinks
pub mod Comparisons
