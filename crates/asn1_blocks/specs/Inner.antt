-- What private contracts and the laws of `==` name. A public contract names `same_block` alone, as what `==` returns,
-- and says without that name too what `==` returns.
pub mod LeafEquality
pub mod Equality
pub mod EqualityLaws
pub mod TreeOrder
pub mod FaithfulWalk
pub mod LeafBlocks
pub mod OwnContents
pub mod Postponed
pub mod BlockFault
pub mod OpenFrames
pub mod ReaderSteps
pub mod TreeBuilding
