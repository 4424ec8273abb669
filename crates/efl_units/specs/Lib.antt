-- The definitions that the contracts of efl_units cite.
pub mod Groups
pub mod Homes
pub mod NamesSeen
pub mod Numbered
pub mod Numbers
pub mod Once
pub mod Results
pub mod TypedViews
pub mod Units
