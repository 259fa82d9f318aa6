-- The trees of fields, from which those of types are made.
pub mod FieldTrees
pub mod LastFieldTrees
-- That no two values have the same tree.
pub mod Laws
pub mod FieldLaws
pub mod GroupLaws
pub mod TagLaws
pub mod EnumeratedLaws
pub mod DefaultLaws
pub mod ChoiceLaws
-- What is read of a value's trees is the value.
pub mod WholeLaws
-- How a type whose values are trees is stored.
pub mod TreeCode
-- The order of a SET OF.
pub mod SetOrder
pub mod Inner
