-- The lemmas of efl_lower.
pub mod Ranks
pub mod Ranked
pub mod Serving
pub mod FewExpressions
pub mod FewStatements
pub mod FewUnits
pub mod Limited
pub mod Legal
