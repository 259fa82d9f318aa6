-- Contents octets, a file for each kind.
pub mod Boolean
pub mod Integer
pub mod BitString
pub mod Text
pub mod ObjectIdentifier
pub mod Moment
pub mod UtcTime
pub mod GeneralizedTime
