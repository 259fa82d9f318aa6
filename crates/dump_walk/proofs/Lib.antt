pub mod Pieces
pub mod Positions
mod ByOffset
pub mod Cursors
pub mod HeaderFronts
mod JoinedSegments
pub mod Walks
