-- The builder of trees: what its frames hold as blocks and as postponed blocks, for `read`.
pub mod Holding
pub mod Adding
pub mod Ending
