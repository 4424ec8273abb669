-- The formats of units, numbered as they stand, one unit behind the other.
use Rattle.std.specs.Prelude.{◌≡◌, ℕ, ◌+◌, nat_eq, if◌then◌else◌, List, [], ◌∷◌, ◌++◌, Option, Some, None, unwrap_or}
use Rattle.f66_tree.specs.Fields.{Fields}
use Rattle.f66_tree.specs.Syntax.{Act, Format, Line}
use Rattle.code_gen.specs.Layout.{Layout}
use Rattle.code_gen.specs.LayingOut.{before}

-- how many formats a statement is
abbrev pub format_count : Act → ℕ
format_count (Format fs) = 1
format_count _ = 0

abbrev pub formats_count : List Line → ℕ
formats_count [] = 0
formats_count (s ∷ rest) = format_count s.act + formats_count rest

abbrev pub format_then : Act → List Fields → List Fields
format_then (Format fs) rest = fs ∷ rest
format_then _ rest = rest

-- the formats of some statements
abbrev pub formats_in : List Line → List Fields
formats_in [] = []
formats_in (s ∷ rest) = format_then s.act (formats_in rest)

abbrev pub plan_by : ℕ → Option ℕ → Act → ℕ → Option ℕ → Option ℕ
plan_by l (Some m) (Format fs) n other = if nat_eq m l then Some n else other
plan_by l _ _ n other = other

-- the number of the first format with a label, if the first format of these statements has the number n
abbrev pub find_plan : ℕ → ℕ → List Line → Option ℕ
find_plan l n [] = None
find_plan l n (s ∷ rest) = plan_by l s.label s.act n (find_plan l (n + format_count s.act) rest)

abbrev pub plan_in : ℕ → List Line → ℕ → ℕ
plan_in n lines l = unwrap_or (find_plan l n lines) 0

-- ---- the units of a program ----

abbrev pub all_formats : (ℕ → List Line) → List ℕ → List Fields
all_formats lines [] = []
all_formats lines (u ∷ us) = formats_in (lines u) ++ all_formats lines us

-- the formats of each unit have the numbers behind those of the units before it
abbrev pub plan_at : (ℕ → List Line) → List ℕ → ℕ → ℕ → ℕ
plan_at lines us u l = plan_in (before (λ v. formats_count (lines v)) us u) (lines u) l

abbrev pub ArePlanned : Layout → ℕ → List ℕ → Type 0
ArePlanned y n [] = Unit {0}
ArePlanned y n (u ∷ us) = ((l : ℕ) → y.plan u l ≡ plan_in n (y.lines u) l) × ArePlanned y (n + formats_count (y.lines u)) us
