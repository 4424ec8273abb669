-- Labels and the DO loops that end at them, as they are in memory.
use Rattle.std.specs.Prelude.{◌≡◌, ℕ, ◌+◌, nat_eq, if◌then◌else◌, List, [], ◌∷◌, ◌++◌, drop, map, Option, Some, None, Vec}
use Rattle.std.specs.Borrow.{Bor}
use Rattle.std.specs.HashMap.{HashMap, get}
use Rattle.std.specs.declared.alloc.Global.{Global}
use Rattle.rule_table.specs.Words.{first_place}
use Rattle.f66_tree.specs.Syntax.{Text, Act, Loop, Line}
use Rattle.f66_tree.specs.Execution.{Closer, has_label}
use Rattle.code_emit.specs.declared.coded_unit.Turn.{Turn}

-- a loop of a unit with these statements
abbrev pub closer_in : List Line → Turn → Closer
closer_in lines turn = record { variable = turn.variable.now; inner = drop turn.behind lines }

-- a loop by its variable and the number of the statement behind it
abbrev pub turn_seen : Turn → Text × ℕ
turn_seen turn = (turn.variable.now, turn.behind)

abbrev pub loop_by : ℕ → Act → ℕ → List (Text × ℕ) → List (Text × ℕ)
loop_by l (Loop m x a b c) behind found = if nat_eq m l then (found ++ (x, behind) ∷ []) else found
loop_by l _ behind found = found

-- the loops that end at a label, the innermost first, of statements of which the first has the number n
abbrev pub loops_from : ℕ → ℕ → List Line → List (Text × ℕ)
loops_from l n [] = []
loops_from l n (s ∷ rest) = loop_by l s.act (n + 1) (loops_from l (n + 1) rest)

-- one more loop behind those that were found, where there is one and it ends at the label
abbrev pub loop_of : ℕ → Option (ℕ × Bor (List ℕ)) → ℕ → List (Text × ℕ) → List (Text × ℕ)
loop_of l None behind found = found
loop_of l (Some (m, x)) behind found = if nat_eq m l then (found ++ (x.now, behind) ∷ []) else found

abbrev pub listed : Option (Vec Turn Global) → List Turn
listed None = []
listed (Some turns) = turns.items

-- the loops that a table has at a label
abbrev pub noted : {S : Type 0} → ℕ → HashMap ℕ (Vec Turn Global) S → List Turn
noted l table = listed (get nat_eq table l)

-- a table has the loops of some statements by their labels, of which the first has the number n
abbrev pub AreNoted : {S : Type 0} → HashMap ℕ (Vec Turn Global) S → ℕ → List Line → Type 0
AreNoted table n lines = (l : ℕ) → map turn_seen (noted l table) ≡ loops_from l n lines

-- a table has the number of the first of these statements with each label
abbrev pub AreNumbered : {S : Type 0} → HashMap ℕ ℕ S → List Line → Type 0
AreNumbered table lines = (l : ℕ) → get nat_eq table l ≡ first_place (λ s. has_label l s.label) lines
