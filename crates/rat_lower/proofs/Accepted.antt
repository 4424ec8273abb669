-- What is known of a unit whose checks find no fault.
--
--   first fault = none  ──▶  no part breaks a rule (NoFault)  ──▶  each command is as its meaning wants it (Clear)
--
-- The checks go through a unit part by part and tell the first part that breaks a rule. Where they tell none, each part keeps
-- each rule, whatever stands before it: so statements are built, loops are left from within, jumps land in a list around them
-- (Reached), no label stands twice (PartLabels), each WRITE names a FORMAT (PartNotes), and a name that is not there is named
-- nowhere (ActNames).
pub mod NoFault
pub mod Reached
pub mod PartLabels
pub mod PartNotes
pub mod ActNames
pub mod Clear
