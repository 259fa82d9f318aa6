-- The definitions that the contracts of this crate name, in the order in which to read them.
pub mod Grammar
pub mod Lines
