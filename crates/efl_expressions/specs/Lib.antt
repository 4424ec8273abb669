-- The definitions that the contracts of efl_expressions cite.
pub mod Forms
pub mod FirstRule
pub mod Checks
pub mod TypeViews
pub mod NameViews
