pub mod Refused
pub mod Spellings
pub mod DerTrees
pub mod Laws
pub mod Signed
