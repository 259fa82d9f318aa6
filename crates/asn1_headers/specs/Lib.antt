pub mod Fault
pub mod Header
pub mod Front
pub mod HeaderFault
pub mod Indefinite
pub mod Names
pub mod Reading
