-- The stack code of expressions and places.
use Rattle.std.specs.Prelude.{ℕ, suc, ◌+◌, pos, Bool, true, false, List, [], ◌∷◌, ◌++◌, length, Option, Some, None}
use Rattle.ground.specs.Content.{Whole, Truth}
use Rattle.f66_tree.specs.declared.expression.Operator.{Operator}
use Rattle.f66_tree.specs.declared.expression.Operator.TheVariants.{Lt, Le, Eq, Ne, Ge, Gt}
use Rattle.f66_tree.specs.Syntax.{Text, Formula, Int, Letter, Ref, Item, Group, Plus, Minus, Not, Pair, Formulas, NoFormula, AndFormula, Par, Constant, Named}
use Rattle.f66_tree.specs.Syntax as f66
use Rattle.f66_tree.specs.Units.{Context, dummies_of, position, kind_of}
use Rattle.f66_tree.specs.Evaluation.{Sort, AnArray, AnIntrinsic, AFunction, sort_of, names_place, Intrinsic, Iabs, Mod, Isign, Idim, Max0, Min0}
use Rattle.stack_code.specs.Instructions as i
use Rattle.stack_code.specs.Instructions.{Instruction}
use Rattle.code_gen.specs.Layout.{Layout, size_in}

-- the code that pushes the places of a name of a unit
abbrev pub own_code : Layout → ℕ → Text → Instruction
own_code y u x = i.PushSpot (y.linked.number u x 0) (size_in (y.linked.context u) x)

-- a dummy's places are its actual's
abbrev pub base_by : Layout → ℕ → Text → Option ℕ → Instruction
base_by y u x None = own_code y u x
base_by y u x (Some n) = i.Dummy n

abbrev pub base_code : Layout → ℕ → Text → Instruction
base_code y u x = base_by y u x (position x (dummies_of (y.linked.context u).header))

abbrev pub variable_code : Layout → ℕ → Text → List Instruction
variable_code y u x = base_code y u x ∷ i.Load (kind_of (y.linked.context u) x) ∷ []

abbrev pub par_code : Layout → ℕ → Par → List Instruction
par_code y u (Constant z) = i.Push (Whole z) ∷ []
par_code y u (Named x) = variable_code y u x

abbrev pub pars_code : Layout → ℕ → List Par → List Instruction
pars_code y u [] = []
pars_code y u (n ∷ ns) = par_code y u n ++ pars_code y u ns

abbrev pub is_relation : Operator → Bool
is_relation Lt = true
is_relation Le = true
is_relation Eq = true
is_relation Ne = true
is_relation Ge = true
is_relation Gt = true
is_relation _ = false

abbrev pub operator_by : Bool → Operator → Instruction
operator_by true op = i.Compare op
operator_by false op = i.Both op

abbrev pub operator_code : Operator → Instruction
operator_code op = operator_by (is_relation op) op

abbrev pub function_number : Intrinsic → ℕ
function_number Iabs = 0
function_number Mod = 1
function_number Isign = 2
function_number Idim = 3
function_number Max0 = 4
function_number Min0 = 5

abbrev pub count : Formulas → ℕ
count NoFormula = 0
count (AndFormula e es) = suc (count es)

-- ---- spare units ----

abbrev pub applied_room : Sort → ℕ → ℕ → ℕ
applied_room AFunction values actuals = actuals
applied_room _ values actuals = values

abbrev pub actual_room : Bool → ℕ → ℕ
actual_room true n = n
actual_room false n = suc n

-- how many spare units an expression takes, several do, and actuals do: one for each value that is handed to a unit
abbrev mutual
  pub room_of : Context → Formula → ℕ
  room_of c (Item x es) = applied_room (sort_of c x) (rooms_of c es) (rooms_to_hand c es)
  room_of c (Group a) = room_of c a
  room_of c (Plus a) = room_of c a
  room_of c (Minus a) = room_of c a
  room_of c (Not a) = room_of c a
  room_of c (Pair op a b) = room_of c a + room_of c b
  room_of c _ = 0

  pub rooms_of : Context → Formulas → ℕ
  rooms_of c NoFormula = 0
  rooms_of c (AndFormula e es) = room_of c e + rooms_of c es

  pub rooms_to_hand : Context → Formulas → ℕ
  rooms_to_hand c NoFormula = 0
  rooms_to_hand c (AndFormula e es) = actual_room (names_place c e) (room_of c e + rooms_to_hand c es)

-- ---- names with arguments ----

-- an element: its array's places, its subscripts, its dimensions
abbrev pub element_code : Layout → ℕ → Text → List Par → List Instruction → List Instruction
element_code y u x ns subscripts = base_code y u x ∷ (subscripts ++ (pars_code y u ns ++ i.Element (length ns) ∷ []))

-- a function is called: its actuals, its own name undefined at first, the call, and the value of its name
abbrev pub called_code : Layout → ℕ → Text → Option ℕ → ℕ → List Instruction → List Instruction
called_code y u x None n actuals = []
called_code y u x (Some v) n actuals =
    actuals ++ (own_code y v x ∷ i.Forget ∷ i.Call (y.entry v) n ∷ own_code y v x ∷ i.Load (kind_of (y.linked.context u) x) ∷ [])

abbrev pub applied_code : Layout → ℕ → Text → Sort → ℕ → List Instruction → List Instruction → List Instruction
applied_code y u x (AnArray ns) n vals actuals = element_code y u x ns vals ++ i.Load (kind_of (y.linked.context u) x) ∷ []
applied_code y u x (AnIntrinsic g) n vals actuals = vals ++ i.Known (function_number g) n ∷ []
applied_code y u x AFunction n vals actuals = called_code y u x (y.linked.find x) n actuals

-- the place that an expression names, where it names one
abbrev pub place_by : Layout → ℕ → Text → Sort → List Instruction → List Instruction
place_by y u x (AnArray ns) vals = element_code y u x ns vals
place_by y u x _ vals = []

abbrev pub place_with : Layout → ℕ → Formula → List Instruction → List Instruction
place_with y u (Ref x) vals = base_code y u x ∷ []
place_with y u (Item x es) vals = place_by y u x (sort_of (y.linked.context u) x) vals
place_with y u _ vals = []

-- an actual: a place, or a value, which is lent in a spare unit
abbrev pub actual_code : Bool → ℕ → List Instruction → List Instruction → List Instruction
actual_code true q place val = place
actual_code false q place val = val ++ i.Lend q ∷ []

-- the value of an expression; the values of several; the subscripts that an expression has; and actuals
abbrev mutual
  pub value_code : Layout → ℕ → Formula → List Instruction
  value_code y u (Int z) = i.Push (Whole z) ∷ []
  value_code y u (f66.Truth b) = i.Push (Truth b) ∷ []
  value_code y u (Letter c) = i.Push (Whole (pos c)) ∷ []
  value_code y u (Ref x) = variable_code y u x
  value_code y u (Item x es) = applied_code y u x (sort_of (y.linked.context u) x) (count es) (values_code y u es) (actuals_code y u es)
  value_code y u (Group a) = value_code y u a
  value_code y u (Plus a) = value_code y u a
  value_code y u (Minus a) = value_code y u a ++ i.Minus ∷ []
  value_code y u (Not a) = value_code y u a ++ i.Not ∷ []
  value_code y u (Pair op a b) = value_code y u a ++ (value_code y u b ++ operator_code op ∷ [])

  pub values_code : Layout → ℕ → Formulas → List Instruction
  values_code y u NoFormula = []
  values_code y u (AndFormula e es) = value_code y u e ++ values_code y u es

  pub subscripts_code : Layout → ℕ → Formula → List Instruction
  subscripts_code y u (Item x es) = values_code y u es
  subscripts_code y u _ = []

  -- the unit of a value lies above those that its own code and that of the later ones use
  pub actuals_code : Layout → ℕ → Formulas → List Instruction
  actuals_code y u NoFormula = []
  actuals_code y u (AndFormula e es) =
      actual_code (names_place (y.linked.context u) e) (y.spare u + (room_of (y.linked.context u) e + rooms_to_hand (y.linked.context u) es)) (place_with y u e (subscripts_code y u e)) (value_code y u e) ++ actuals_code y u es

abbrev pub place_code : Layout → ℕ → Formula → List Instruction
place_code y u e = place_with y u e (subscripts_code y u e)
