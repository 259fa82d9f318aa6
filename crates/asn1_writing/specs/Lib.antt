pub mod Canonical
pub mod ReadBack
pub mod Unfaithful
pub mod Strict
pub mod Inner
