-- The definitions that the contracts of name_alloc cite.
pub mod Numbers
pub mod MadeNames
