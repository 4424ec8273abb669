-- The lemmas of spared_units.
pub mod Among
pub mod SameSizes
pub mod Notes
pub mod Units
pub mod Places
pub mod CallKinds
pub mod Closed
pub mod Blocks
pub mod Programs
pub mod Rules
pub mod Limit
pub mod Numbers
pub mod Wholes
pub mod TwinUnits
