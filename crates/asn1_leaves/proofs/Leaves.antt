-- The modules of what is known of each kind of leaf, for `contents` and `asn1_blocks`.
pub mod Boolean
pub mod Integer
pub mod BitString
pub mod Text
pub mod ObjectIdentifier
pub mod Known
pub mod Digits
pub mod UtcTime
pub mod GeneralizedTime
