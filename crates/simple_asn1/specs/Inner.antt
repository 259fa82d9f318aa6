-- What private contracts and ghost members of types name, but no public contract.
pub mod PointLaws
pub mod Algorithm
pub mod Constructed
pub mod Encodings
