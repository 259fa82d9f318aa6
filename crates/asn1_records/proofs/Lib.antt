mod Headers
mod OffsetLeaves
mod HeldBits
pub mod TwoEach
pub mod TwoEachHeader
pub mod Outcomes
mod CanonicalRecords
mod Spellings
pub mod Entries
mod ShortHeaders
mod Triples
mod TripleParts
mod TextOctets
pub mod Rooms
mod FittingComponents
mod PushedNumerals
mod PathSteps
mod SideBySide
mod LaterShapes
mod NamedEntries
mod FoundFields
mod CertificateFields
mod HeldTrees
mod RequestFields
mod ListFields
pub mod ListedDepartures
