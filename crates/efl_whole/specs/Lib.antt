-- The definitions that the contracts of efl_whole cite.
pub mod Roles
pub mod RoleViews
pub mod Calls
pub mod CallViews
pub mod Names
