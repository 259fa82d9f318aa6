pub mod Octets
pub mod Base128
pub mod TwosComplement
pub mod Decimal
pub mod FittingNumbers
pub mod Inner
