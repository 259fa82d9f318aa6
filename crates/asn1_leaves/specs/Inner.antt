-- What private contracts name, but no public one.
pub mod DigitFields
pub mod IdentifierForms
