-- The definitions that the contracts of efl_blocks cite.
pub mod Within
pub mod Made
pub mod DeclaredViews
pub mod OuterViews
pub mod ProcedureViews
pub mod HomeViews
