-- The stack code of the statements of a unit. Each place in the code is told by its distance from the unit's end.
use Rattle.std.specs.Prelude.{ℕ, suc, ◌+◌, ◌-◌, Bool, true, false, List, [], ◌∷◌, ◌++◌, length, Option, Some, None, if◌then◌else◌}
use Rattle.ground.specs.declared.place.Place.{Place}
use Rattle.ground.specs.declared.value.Kind.{Kind}
use Rattle.ground.specs.Content.{Content}
use Rattle.f66_tree.specs.declared.editing.Way.{Way}
use Rattle.f66_tree.specs.declared.editing.Way.TheVariants.{Reading, Writing}
use Rattle.f66_tree.specs.Syntax.{Text, Formula, Ref, Item, Entry, One, Many, Entries, NoEntry, AndEntry, Read, Write, Par, Act, Assign, Goto, Computed, Sign, When, Loop, Invoke, Stop, Return, Line}
use Rattle.f66_tree.specs.Units.{Context, is_note, is_main, kind_of, sizes_of}
use Rattle.f66_tree.specs.Execution.{runnable, from_label, Closer, closers_at}
use Rattle.stack_code.specs.Instructions as i
use Rattle.stack_code.specs.Instructions.{Instruction}
use Rattle.code_gen.specs.Layout.{Layout}
use Rattle.code_gen.specs.Expressions.{count, room_of, base_code, variable_code, par_code, pars_code, value_code, actuals_code, place_code}

-- the units that keep the limit and the step of a DO, by the number of statements behind it
abbrev pub limit_unit : Layout → ℕ → ℕ → ℕ
limit_unit y u key = y.loops u + (key + key)

abbrev pub step_unit : Layout → ℕ → ℕ → ℕ
step_unit y u key = suc (y.loops u + (key + key))

abbrev pub leave : Bool → Instruction
leave true = i.Halt None
leave false = i.Return

abbrev pub leave_code : Layout → ℕ → Instruction
leave_code y u = leave (is_main (y.linked.context u).header)

-- a DO begins: its variable, its parameters
abbrev pub start_code : Layout → ℕ → Text → Par → Par → Par → ℕ → ℕ → List Instruction
start_code y u x a b d limit step = base_code y u x ∷ (par_code y u a ++ (par_code y u b ++ (par_code y u d ++ i.LoopStart limit step ∷ [])))

abbrev pub start_size : Layout → ℕ → Par → Par → Par → ℕ
start_size y u a b d = 1 + (length (par_code y u a) + (length (par_code y u b) + (length (par_code y u d) + 1)))

-- ---- READ and WRITE ----

-- a variable, or an array whole
abbrev pub whole_code : Layout → ℕ → Way → Kind → List Par → List Instruction
whole_code y u way k [] = i.Item way k ∷ []
whole_code y u way k (n ∷ ns) = pars_code y u (n ∷ ns) ++ i.Row way k (length (n ∷ ns)) ∷ []

abbrev pub item_code : Layout → ℕ → Way → Formula → List Instruction
item_code y u way (Ref x) = base_code y u x ∷ whole_code y u way (kind_of (y.linked.context u) x) (sizes_of x (y.linked.context u).notes)
item_code y u way (Item x es) = place_code y u (Item x es) ++ i.Item way (kind_of (y.linked.context u) x) ∷ []
item_code y u way _ = []

-- how many spare units a list takes: two for each implied DO, above those of its items
abbrev mutual
  pub entries_room : Context → Entries → ℕ
  entries_room c NoEntry = 0
  entries_room c (AndEntry e es) = entry_room c e + entries_room c es

  pub entry_room : Context → Entry → ℕ
  entry_room c (One e) = room_of c e
  entry_room c (Many es x a b d) = entries_room c es + 2

abbrev mutual
  pub items_size : Layout → ℕ → Way → Entries → ℕ
  items_size y u way NoEntry = 0
  items_size y u way (AndEntry e es) = entry_size y u way e + items_size y u way es

  pub entry_size : Layout → ℕ → Way → Entry → ℕ
  entry_size y u way (One e) = length (item_code y u way e)
  entry_size y u way (Many es x a b d) = start_size y u a b d + suc (items_size y u way es + 2)

-- a turn of an implied DO: its Step, its items, and then the next turn or the end
abbrev pub turn_code : Layout → ℕ → Text → ℕ → ℕ → List Instruction → List Instruction
turn_code y u x q turn items = i.Step ∷ (items ++ (base_code y u x ∷ i.LoopTurn q (suc q) turn ∷ []))

-- the items of a list, of which the first instruction stands at a place
abbrev mutual
  pub items_code : Layout → ℕ → Way → ℕ → Entries → List Instruction
  items_code y u way at NoEntry = []
  items_code y u way at (AndEntry e es) = entry_code y u way at e ++ items_code y u way (at + entry_size y u way e) es

  pub entry_code : Layout → ℕ → Way → ℕ → Entry → List Instruction
  entry_code y u way at (One e) = item_code y u way e
  entry_code y u way at (Many es x a b d) =
      start_code y u x a b d (y.spare u + entries_room (y.linked.context u) es) (suc (y.spare u + entries_room (y.linked.context u) es)) ++ turn_code y u x (y.spare u + entries_room (y.linked.context u) es) (at + start_size y u a b d) (items_code y u way (suc (at + start_size y u a b d)) es)

abbrev pub record_size : Layout → ℕ → Way → Par → Entries → ℕ
record_size y u way a es = length (par_code y u a) + (items_size y u way es + 2)

abbrev pub record_code : Layout → ℕ → Way → ℕ → Par → ℕ → Entries → List Instruction
record_code y u way at a plan es = par_code y u a ++ (i.Start way plan ∷ (items_code y u way (suc (at + length (par_code y u a))) es ++ i.Finish ∷ []))

-- ---- how long code is ----

abbrev pub invoked_code : Layout → ℕ → Option ℕ → ℕ → List Instruction → List Instruction
invoked_code y u None n actuals = []
invoked_code y u (Some v) n actuals = actuals ++ i.Call (y.entry v) n ∷ []

abbrev pub act_size : Layout → ℕ → Act → ℕ
act_size y u (Assign x e) = length (place_code y u x) + (length (value_code y u e) + 1)
act_size y u (Goto l) = 1
act_size y u (Computed ls x) = 3
act_size y u (Sign e n m k) = length (value_code y u e) + 1
act_size y u (When e a) = length (value_code y u e) + (2 + act_size y u a)
act_size y u (Loop l x a b d) = start_size y u a b d
act_size y u (Invoke x es) = length (invoked_code y u (y.linked.find x) (count es) (actuals_code y u es))
act_size y u (Stop n) = 1
act_size y u Return = 1
act_size y u (Read a l es) = record_size y u Reading a es
act_size y u (Write a l es) = record_size y u Writing a es
act_size y u _ = 0

-- the DO loops that end at a statement; a DO ends none
abbrev pub ends_by : Act → List Closer → List Closer
ends_by (Loop l x a b d) ks = []
ends_by _ ks = ks

abbrev pub enders : Layout → ℕ → Line → List Closer
enders y u s = ends_by s.act (closers_at s.label (y.lines u))

abbrev pub turns_size : List Closer → ℕ
turns_size [] = 0
turns_size (k ∷ ks) = 2 + turns_size ks

abbrev pub line_size : Layout → ℕ → Line → ℕ
line_size y u s = suc (act_size y u s.act + turns_size (enders y u s))

-- from these statements to the unit's end
abbrev pub body_size : Layout → ℕ → List Line → ℕ
body_size y u [] = 1
body_size y u (s ∷ rest) = if is_note s.act then body_size y u rest else (line_size y u s + body_size y u rest)

-- ---- what stands at an entry ----

abbrev pub preset_code : List (ℕ × Content) → List Instruction
preset_code [] = []
preset_code (p ∷ ps) = i.PushSpot p.0 1 ∷ i.Push p.1 ∷ i.Store ∷ preset_code ps

-- no DO is in progress where a unit begins
abbrev pub reset_by : Layout → ℕ → Act → ℕ → List Instruction → List Instruction
reset_by y u (Loop l x a b d) key more =
    i.PushSpot (limit_unit y u key) 1 ∷ i.Forget ∷ i.PushSpot (step_unit y u key) 1 ∷ i.Forget ∷ more
reset_by y u _ key more = more

abbrev pub reset_code : Layout → ℕ → List Line → List Instruction
reset_code y u [] = []
reset_code y u (s ∷ rest) = reset_by y u s.act (length rest) (reset_code y u rest)

-- the main's initial values, or what another unit forgets
abbrev pub first_by : Bool → Layout → ℕ → List Instruction
first_by true y u = preset_code y.presets
first_by false y u = reset_code y u (y.lines u)

abbrev pub first_code : Layout → ℕ → List Instruction
first_code y u = first_by (is_main (y.linked.context u).header) y u

-- it is done behind the Begin of the first statement, which is then gone past
abbrev pub prologue_size : List Instruction → List Line → ℕ
prologue_size [] rest = 0
prologue_size is' [] = 0
prologue_size is' (s ∷ rest) = 2 + length is'

abbrev pub unit_size : Layout → ℕ → ℕ
unit_size y u = prologue_size (first_code y u) (runnable (y.lines u)) + body_size y u (y.lines u)

abbrev pub stop : Layout → ℕ → ℕ
stop y u = y.entry u + unit_size y u

-- where the code of these statements begins
abbrev pub place_of : Layout → ℕ → List Line → ℕ
place_of y u rest = stop y u - body_size y u rest

abbrev pub target : Layout → ℕ → ℕ → ℕ
target y u l = place_of y u (from_label l (y.lines u))

abbrev pub targets : Layout → ℕ → List ℕ → List ℕ
targets y u [] = []
targets y u (l ∷ ls) = target y u l ∷ targets y u ls

-- ---- code ----

-- after a statement's Begin; it goes on at a place
abbrev pub act_code : Layout → ℕ → ℕ → ℕ → Place → Act → List Instruction
act_code y u key next place (Assign x e) = place_code y u x ++ (value_code y u e ++ i.Store ∷ [])
act_code y u key next place (Goto l) = i.Jump (target y u l) ∷ []
act_code y u key next place (Computed ls x) = variable_code y u x ++ i.JumpTable (targets y u ls) ∷ []
act_code y u key next place (Sign e n m k) = value_code y u e ++ i.JumpSign (target y u n) (target y u m) (target y u k) ∷ []
act_code y u key next place (When e a) = value_code y u e ++ i.JumpFalse next ∷ i.Begin place ∷ act_code y u key next place a
act_code y u key next place (Loop l x a b d) = start_code y u x a b d (limit_unit y u key) (step_unit y u key)
act_code y u key next place (Invoke x es) = invoked_code y u (y.linked.find x) (count es) (actuals_code y u es)
act_code y u key next place (Stop n) = i.Halt n ∷ []
act_code y u key next place Return = leave_code y u ∷ []
act_code y u key next place (Read a l es) = record_code y u Reading (next - record_size y u Reading a es) a (y.plan u l) es
act_code y u key next place (Write a l es) = record_code y u Writing (next - record_size y u Writing a es) a (y.plan u l) es
act_code y u key next place _ = []

-- after the last statement of some DO loops
abbrev pub turns_code : Layout → ℕ → List Closer → List Instruction
turns_code y u [] = []
turns_code y u (k ∷ ks) =
    base_code y u k.variable ∷ i.LoopTurn (limit_unit y u (length k.inner)) (step_unit y u (length k.inner)) (place_of y u k.inner) ∷ turns_code y u ks

-- where a statement's turns begin
abbrev pub turns_place : Layout → ℕ → Line → List Line → ℕ
turns_place y u s rest = stop y u - (turns_size (enders y u s) + body_size y u rest)

abbrev pub body_code : Layout → ℕ → List Line → List Instruction
body_code y u [] = leave_code y u ∷ []
body_code y u (s ∷ rest) =
    if is_note s.act then body_code y u rest
    else (i.Begin s.place ∷ (act_code y u (length rest) (turns_place y u s rest) s.place s.act ++ (turns_code y u (enders y u s) ++ body_code y u rest)))

abbrev pub prologue_code : Layout → ℕ → List Instruction → List Line → List Instruction
prologue_code y u [] rest = []
prologue_code y u is' [] = []
prologue_code y u is' (s ∷ rest) = i.Begin s.place ∷ (is' ++ i.Jump (suc (place_of y u (s ∷ rest))) ∷ [])

abbrev pub unit_code : Layout → ℕ → List Instruction
unit_code y u = prologue_code y u (first_code y u) (runnable (y.lines u)) ++ body_code y u (y.lines u)

-- units one behind the other
abbrev pub units_code : Layout → List ℕ → List Instruction
units_code y [] = []
units_code y (u ∷ us) = unit_code y u ++ units_code y us
