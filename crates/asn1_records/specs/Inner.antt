-- What private contracts name, but no public one.
pub mod Prepended
pub mod InRecords
pub mod TripleRecords
pub mod Named
pub mod FieldRecords
pub mod CertificateRecords
pub mod RequestRecords
pub mod ListRecords
