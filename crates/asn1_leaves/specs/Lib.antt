pub mod StringKind
pub mod Contents
pub mod DottedDecimal
pub mod Inner
