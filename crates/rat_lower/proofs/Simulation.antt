-- The units of a program and those that they become, side by side.
--
--   source:  state s  ──── meaning of a command, to the work w ────▶  state s1, and how the command is left
--               ║                                                        ║
--   target:  its code ──────── d statements, d + x ≤ 32 * w ──────▶  the code where that leads
--
-- The two states are equal but for the target's spare storage units, one for each unit with a switch, whose value it holds
-- (Spared); no name of the source reads them. Within a statement the target does the same (Tracks, Turns, Values). From statement to
-- statement (Follows) a command that goes on has the target at the code behind it; one that jumps, at the label's place, which is one
-- place since each label stands once (Labels, Distinct); one that leaves or turns a loop, at the labels of that loop. x is what had
-- begun before. Where the source stops because a loop has made its b turns, the target has begun b statements and goes on.
--
-- Each form of a command keeps this (Parts, Loops, Lists, Statements, Switches), so a unit does (Whole). Units have ranks, and
-- each call is of a unit of lesser rank: it leaves the spare units of its callers as they are. The RETURN at its end is one statement
-- more than its work pays for only where it has executed nothing (Idle). Then the node or the statement that it stands in pays, which
-- has counted; or it stands in a unit beside the program's own, where nodes don't count (Beside), and its value is not there. So by how
-- deep calls go every unit does what its source does, and that is never lost (Exits, Fits): a program of such units agrees with its
-- source (Programs), and a unit that is checked is such a unit (CheckedUnits).
--
-- TwoUnits is a small program with a call. A linked program is such a program (Linked), whose contexts on both sides differ in the
-- declarations of spare names alone (SpareNotes, LinkedUnits), and whose calls are those of its lines (NamesBack). ThreeUnits is one.
-- The source's linkage follows from the target's (OneLinkage).
pub mod Spared
pub mod Tracks
pub mod Turns
pub mod Values
pub mod Idle
pub mod Follows
pub mod Counts
pub mod Labels
pub mod Parts
pub mod Wider
pub mod Words
pub mod Loops
pub mod Lists
pub mod Statements
pub mod Switches
pub mod Distinct
pub mod Notes
pub mod Whole
pub mod Exits
pub mod Beside
pub mod Fits
pub mod CheckedUnits
pub mod Programs
pub mod SpareNotes
pub mod NamesBack
pub mod LinkedUnits
pub mod Linked
pub mod OneLinkage
mod TwoUnits
mod ThreeUnits
