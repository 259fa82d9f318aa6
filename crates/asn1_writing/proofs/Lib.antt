pub mod Totality
pub mod Shapes
pub mod WriteSteps
pub mod Writable
pub mod Placed
pub mod Rewritten
pub mod Surviving
pub mod CanonicalDocuments
pub mod InPlace
mod FrequentEncodings
mod Without80
mod Failures
mod Checked
mod LeafSizes
mod Sizes
