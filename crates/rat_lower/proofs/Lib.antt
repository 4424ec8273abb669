-- The lemmas of rat_lower: the unit that a unit of Ratfor becomes does what it means, and is sound.
--
--   no fault ── Accepted ──▶ built, left from within, landing ── Simulation ──▶ agrees, and is never lost ──┐
--       └───────────────── Soundness ──▶ breaks no rule ───────────────────────────────────────────────────┴─ Units, Serving ──▶ serves
--   the code that is put ── Emitting ──▶ the unit's statements are those of the definition
pub mod Emitting
pub mod Accepted
pub mod Simulation
pub mod Soundness
pub mod Checks
pub mod Units
mod Serving
mod Examples
