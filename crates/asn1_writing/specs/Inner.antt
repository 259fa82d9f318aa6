-- What private contracts name, but no public contract.
pub mod WriteWalk
pub mod InPlace
pub mod CanonicalEncoding
pub mod Checking
pub mod Failing
pub mod Sizes
