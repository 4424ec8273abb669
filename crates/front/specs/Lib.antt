-- The definitions that the contracts of front cite.
pub mod Checked
pub mod Meant
pub mod Ratfor
pub mod Efl
pub mod Verdict
pub mod Programs
pub mod Translated
pub mod Laws
