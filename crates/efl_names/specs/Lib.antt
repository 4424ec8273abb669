-- The definitions that the contracts of efl_names cite.
pub mod NameViews
