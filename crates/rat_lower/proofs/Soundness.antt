-- The unit that a unit without a fault becomes breaks no rule of X3.9-1966.
--
--   what the source says  ── kept by jumps, tests and stores of the spare name ──▶  what the unit's statements say
--
-- A rule on one statement holds of the unit where it holds of what the source says, since the statements that are made besides
-- are jumps, tests of conditions and stores of the spare name (Kept, Says). The rules of flow ask where statements
-- lead: each branch goes to a statement that is executed, into no DO range from without (Targets), specifications come first
-- (Early), formats are named (FormatsNamed), and BLOCK DATA has specifications and DATA alone (BlockData); so none is broken
-- (FlowRules, FlowUnits). The rules of names read the whole unit: names have the same forms and types in the unit as in its source
-- (Alike), each is used in its class (Roles), none is declared again (Redeclared), and the spare name, which is none of them
-- (SpareNames), is an integer variable (Lines). CleanUnits puts all together.
--
-- That each statement fits its cards is kept the same way: a condition, a value or the words of a DO leave room for what is put
-- around them (Texts, PrintedUnits).
pub mod Kept
pub mod Says
pub mod Targets
pub mod Early
pub mod FormatsNamed
pub mod FlowRules
pub mod BlockData
pub mod FlowUnits
pub mod Roles
pub mod Redeclared
pub mod Alike
pub mod Lines
pub mod SpareNames
pub mod CleanUnits
pub mod Texts
pub mod PrintedUnits
