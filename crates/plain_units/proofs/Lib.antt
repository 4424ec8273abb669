-- The lemmas of plain_units.
pub mod Places
pub mod Named
pub mod Forms
pub mod Ranges
pub mod Ordered
pub mod Flow
pub mod Found
pub mod Uses
pub mod Roles
pub mod Declared
pub mod Values
pub mod Statements
pub mod Sound
