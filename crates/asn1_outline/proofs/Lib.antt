pub mod Structures
pub mod Entries
pub mod Begun
pub mod Standing
pub mod Listed
pub mod Iterating
mod Answered
pub mod Values
mod Fields
mod Lent
mod BlockRefs
mod IteratedTrees
mod InsideStrings
mod Roots
mod Built
mod BuildSteps
pub mod ShapesAlone
mod Walks
pub mod Fronts
mod ShapesWithin
mod SignedHeaders
mod CanonicalEntries
mod StrictOutlines
