-- The flat code of a format, the places in it, and the edits that are ahead of each place.
use Rattle.std.specs.Prelude.{◌≡◌, ◌≤◌, ℕ, zero, suc, ◌+◌, ◌-◌, List, [], ◌∷◌, ◌++◌, Option, Some, None, get_or, nat_lt, max, drop, map, if◌then◌else◌}
use Rattle.f66_tree.specs.declared.editing.Way.{Way}
use Rattle.f66_tree.specs.declared.editing.Mark.{Mark}
use Rattle.std.specs.Borrow.{Bor}
use Rattle.format_io.specs.declared.code.Laid.{Laid}
use Rattle.format_io.specs.declared.code.Piece.{Piece}
use Rattle.format_io.specs.declared.code.Piece.TheVariants as pieces
use Rattle.format_io.specs.declared.code.Op.{Op}
use Rattle.format_io.specs.declared.code.Op.TheVariants as ops
use Rattle.f66_tree.specs.Fields.{Step, Takes, Blanks, Chars, Slash, Fields, NoField, Single, Group, copies, steps, again, has_item}
use Rattle.f66_tree.specs.Turns.{Hand}

-- an edit with its count; a group of a level begins, with its count and the size of what is inside; it ends
pub data Code : Type 0 where
  Once : ℕ → Step → Code
  Enter : ℕ → ℕ → ℕ → Code
  Leave : ℕ → ℕ → Code

abbrev pub size : Fields → ℕ
size NoField = 0
size (Single n s fs) = suc (size fs)
size (Group n inside fs) = suc (size inside + suc (size fs))

abbrev pub code : ℕ → Fields → List Code
code lv NoField = []
code lv (Single n s fs) = Once n s ∷ code lv fs
code lv (Group n inside fs) = Enter lv n (size inside) ∷ (code (suc lv) inside ++ Leave lv (size inside) ∷ code lv fs)

-- what the walk does: an edit, or a turn of the walk alone
pub data Move : Type 0 where
  Does : Step → Move
  Turns : Move

abbrev pub moves : Fields → List Move
moves NoField = []
moves (Single n s fs) = copies n (Does s ∷ []) ++ Turns ∷ moves fs
moves (Group n inside fs) = Turns ∷ (copies n (Turns ∷ moves inside) ++ Turns ∷ moves fs)

-- the moves ahead of a place: at an instruction, past so many of its edits, with so many turns left of the
-- group of each level
abbrev pub moves_at : ℕ → Fields → ℕ → ℕ → List ℕ → List Move
moves_at lv NoField pc past counts = []
moves_at lv (Single n s fs) zero past counts = copies (n - past) (Does s ∷ []) ++ Turns ∷ moves fs
moves_at lv (Single n s fs) (suc pc) past counts = moves_at lv fs pc past counts
moves_at lv (Group n inside fs) zero past counts = moves (Group n inside fs)
moves_at lv (Group n inside fs) (suc pc) past counts =
    if nat_lt (size inside) pc then moves_at lv fs (pc - suc (size inside)) past counts
    else moves_at (suc lv) inside pc past counts ++ (copies (get_or counts lv 0) (Turns ∷ moves inside) ++ Turns ∷ moves fs)

-- the fields that a code stands for, and what follows the groups that it ends, the innermost first
abbrev pub first_of_rest : List Fields → Fields
first_of_rest [] = NoField
first_of_rest (f ∷ fs) = f

abbrev pub parsed : List Code → Fields × List Fields
parsed [] = (NoField, [])
parsed (Once n s ∷ is) = (Single n s (parsed is).0, (parsed is).1)
parsed (Enter l n z ∷ is) = (Group n (parsed is).0 (first_of_rest (parsed is).1), drop 1 (parsed is).1)
parsed (Leave l z ∷ is) = (NoField, (parsed is).0 ∷ (parsed is).1)

-- how deep groups nest
abbrev pub depth : Fields → ℕ
depth NoField = 0
depth (Single n s fs) = depth fs
depth (Group n inside fs) = max (suc (depth inside)) (depth fs)

abbrev pub visible : List Move → List Step
visible [] = []
visible (Does s ∷ ms) = s ∷ visible ms
visible (Turns ∷ ms) = visible ms

-- where control goes back to
abbrev pub last_place : ℕ → ℕ → Fields → ℕ
last_place found pc NoField = found
last_place found pc (Single n s fs) = last_place found (suc pc) fs
last_place found pc (Group n inside fs) = last_place pc (suc (pc + suc (size inside))) fs

-- what an Edit keeps
pub record Stand : Type 0 where
  pub way : Way
  pub pc : ℕ
  pub past : ℕ
  pub counts : List ℕ
  pub line : List ℕ
  pub mark : Mark

abbrev pub ahead : Fields → Stand → List Move
ahead fs s = moves_at 0 fs s.pc s.past s.counts

-- what an Edit means with its format
abbrev pub hand_of : Fields → Stand → Hand
hand_of fs s = record { way = s.way; rest = visible (ahead fs s); cycle = steps (again fs); line = s.line; mark = s.mark }

-- ---- the plan in memory ----

abbrev pub step_of : Piece → Step
step_of (pieces.Takes k w) = Takes k w
step_of (pieces.Blanks n) = Blanks n
step_of (pieces.Chars text) = Chars text
step_of pieces.Slash = Slash

abbrev pub plan_code : Op → Code
plan_code (ops.Once n piece) = Once n (step_of piece)
plan_code (ops.Enter l n z) = Enter l n z
plan_code (ops.Leave l z) = Leave l z

-- the fields of a plan
abbrev pub format : Laid → Fields
format p = (parsed (map plan_code p.ops.items)).0

-- a plan is the code of its fields
pub record IsPlan (p : Laid) : Type 0 where
  pub same : map plan_code p.ops.items ≡ code 0 (format p)
  pub back : p.start ≡ last_place 0 0 (format p)
  pub goes_on : p.cycles ≡ has_item (steps (again (format p)))
  pub shallow : depth (format p) ≤ 2

pub record IsPlanOf (fs : Fields) (p : Laid) : Type 0 where
  pub plan : IsPlan p
  pub fields : format p ≡ fs

-- what comes next of the edits ahead
abbrev pub NextIs : List Step → Option Step → List Step → Type 0
NextIs [] (Some s) left = ⊥
NextIs [] None left = left ≡ []
NextIs (t ∷ ts) (Some s) left = (s ≡ t) × (left ≡ ts)
NextIs (t ∷ ts) None left = ⊥

abbrev pub step_now : Option (Bor Piece) → Option Step
step_now None = None
step_now (Some p) = Some (step_of p.now)
