-- The forms of statements that the rules on order, labels and DO ranges tell apart (X3.9-1966, section 7).
use Rattle.std.specs.Prelude.{ℕ, Bool, true, false, not, ◌||◌, List, [], ◌∷◌}
use Rattle.f66_tree.specs.Syntax.{Header, DataUnit, Act, Goto, Computed, Sign, When, Loop, Stop, Return, Read, Write, Format, Typed, Dimension, Common, Equivalence, Preset}
use Rattle.f66_tree.specs.Units.{is_note}

-- an executable statement (7.1)
abbrev pub is_executable : Act → Bool
is_executable a = not (is_note a)

-- a type statement, DIMENSION, COMMON or EQUIVALENCE (7.2.1)
abbrev pub is_specification : Act → Bool
is_specification (Typed t ds) = true
is_specification (Dimension ds) = true
is_specification (Common areas) = true
is_specification (Equivalence es) = true
is_specification _ = false

-- DATA (7.2.2)
abbrev pub is_data : Act → Bool
is_data (Preset ps) = true
is_data _ = false

-- FORMAT (7.2.3)
abbrev pub is_format : Act → Bool
is_format (Format f) = true
is_format _ = false

-- a statement that BLOCK DATA does not have, which has specifications and DATA alone (7.2.2 and 8.5)
abbrev pub is_misplaced : Header → Act → Bool
is_misplaced DataUnit a = is_executable a || is_format a
is_misplaced _ a = false

-- a unit has an executable statement, unless it is BLOCK DATA (9.1.1)
abbrev pub needs_executable : Header → Bool
needs_executable DataUnit = false
needs_executable _ = true

-- a statement behind which no other one comes: GO TO, computed GO TO, arithmetic IF, RETURN or STOP (7.1.2)
abbrev pub is_transfer : Act → Bool
is_transfer (Goto l) = true
is_transfer (Computed ls x) = true
is_transfer (Sign e l m k) = true
is_transfer Return = true
is_transfer (Stop n) = true
is_transfer _ = false

-- a statement that no range may end with: a transfer, a DO, or a logical IF that holds one of these (7.1.2.8)
abbrev pub ends_no_range : Act → Bool
ends_no_range (Loop l x a b c) = true
ends_no_range (When e a) = ends_no_range a
ends_no_range a = is_transfer a

-- the labels that a statement may branch to, also under a logical IF (7.1.2.1 to 7.1.2.3)
abbrev pub branches : Act → List ℕ
branches (Goto l) = l ∷ []
branches (Computed ls x) = ls
branches (Sign e l m k) = l ∷ m ∷ k ∷ []
branches (When e a) = branches a
branches _ = []

-- the labels of formats that a statement names, also under a logical IF (7.1.3.2)
abbrev pub formats_named : Act → List ℕ
formats_named (Read p l es) = l ∷ []
formats_named (Write p l es) = l ∷ []
formats_named (When e a) = formats_named a
formats_named _ = []
