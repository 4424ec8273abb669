-- The definitions that the contracts of f66_names cite.
pub mod Shapes
pub mod Declaring
pub mod Sorts
pub mod Uses
pub mod Kinds
pub mod NameRules
pub mod StoreRules
pub mod BuiltActs
pub mod Rules
pub mod UseViews
pub mod ActViews
pub mod DeclarationViews
