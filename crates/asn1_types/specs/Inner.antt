-- What private contracts alone name.
pub mod Encodings
