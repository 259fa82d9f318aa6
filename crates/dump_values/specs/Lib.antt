pub mod Faults
pub mod Values
pub mod Times
pub mod Tags
