-- The lemmas of rat_shapes.
--
--   a text that passes no limit ── Openings ──▶ what is open at each part ── Depths, Parts, Made, Splits, Productions, Trees ──▶ its depth
--   the depth of commands ── Codes, ShallowUnits ──▶ that of their statements
--   each part is whole: Wholes, WholeUnits ── Codes ──▶ so is each statement
pub mod Depths
pub mod Parts
pub mod Made
pub mod Splits
pub mod Openings
pub mod Productions
pub mod Trees
pub mod Codes
pub mod ShallowUnits
pub mod Wholes
pub mod WholeUnits
