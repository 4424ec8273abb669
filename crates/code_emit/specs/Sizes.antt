-- How long the code of expressions, lists and statements is, without the code.
use Rattle.std.specs.Prelude.{ℕ, ◌+◌, Bool, true, false, List, [], ◌∷◌, Option, Some, None}
use Rattle.f66_tree.specs.Syntax.{Formula, Ref, Item, Group, Plus, Minus, Not, Pair, Formulas, NoFormula, AndFormula, Par, Constant, Named, Entry, One, Many, Entries, NoEntry, AndEntry, Act, Assign, Goto, Computed, Sign, When, Loop, Invoke, Stop, Return, Read, Write}
use Rattle.f66_tree.specs.Units.{sizes_of}
use Rattle.f66_tree.specs.Evaluation.{Sort, AnArray, AnIntrinsic, AFunction, sort_of, names_place}
use Rattle.code_gen.specs.Layout.{Layout}

abbrev pub par_size : Par → ℕ
par_size (Constant z) = 1
par_size (Named x) = 2

abbrev pub pars_size : List Par → ℕ
pars_size [] = 0
pars_size (n ∷ ns) = par_size n + pars_size ns

-- the beginning of a DO
abbrev pub counting_size : Par → Par → Par → ℕ
counting_size a b d = 2 + par_size a + par_size b + par_size d

abbrev pub element_size : List Par → ℕ → ℕ
element_size ns subscripts = subscripts + pars_size ns + 2

abbrev pub called_size : Option ℕ → ℕ → ℕ
called_size None actuals = 0
called_size (Some v) actuals = actuals + 5

abbrev pub invoked_size : Option ℕ → ℕ → ℕ
invoked_size None actuals = 0
invoked_size (Some v) actuals = actuals + 1

abbrev pub applied_size : Option ℕ → Sort → ℕ → ℕ → ℕ
applied_size v (AnArray ns) vals actuals = element_size ns vals + 1
applied_size v (AnIntrinsic g) vals actuals = vals + 1
applied_size v AFunction vals actuals = called_size v actuals

abbrev pub element_place : Sort → ℕ → ℕ
element_place (AnArray ns) vals = element_size ns vals
element_place _ vals = 0

abbrev pub actual_size : Bool → ℕ → ℕ → ℕ
actual_size true place val = place
actual_size false place val = val + 1

abbrev mutual
  pub value_size : Layout → ℕ → Formula → ℕ
  value_size y u (Ref x) = 2
  value_size y u (Item x es) = applied_size (y.linked.find x) (sort_of (y.linked.context u) x) (values_size y u es) (actuals_size y u es)
  value_size y u (Group a) = value_size y u a
  value_size y u (Plus a) = value_size y u a
  value_size y u (Minus a) = value_size y u a + 1
  value_size y u (Not a) = value_size y u a + 1
  value_size y u (Pair op a b) = value_size y u a + value_size y u b + 1
  value_size y u _ = 1

  pub values_size : Layout → ℕ → Formulas → ℕ
  values_size y u NoFormula = 0
  values_size y u (AndFormula e es) = value_size y u e + values_size y u es

  pub place_size : Layout → ℕ → Formula → ℕ
  place_size y u (Ref x) = 1
  place_size y u (Item x es) = element_place (sort_of (y.linked.context u) x) (values_size y u es)
  place_size y u _ = 0

  pub actuals_size : Layout → ℕ → Formulas → ℕ
  actuals_size y u NoFormula = 0
  actuals_size y u (AndFormula e es) = actual_size (names_place (y.linked.context u) e) (place_size y u e) (value_size y u e) + actuals_size y u es

abbrev pub item_size : Layout → ℕ → Formula → ℕ
item_size y u (Ref x) = pars_size (sizes_of x (y.linked.context u).notes) + 2
item_size y u (Item x es) = place_size y u (Item x es) + 1
item_size y u _ = 0

abbrev mutual
  pub list_size : Layout → ℕ → Entries → ℕ
  list_size y u NoEntry = 0
  list_size y u (AndEntry e es) = part_size y u e + list_size y u es

  pub part_size : Layout → ℕ → Entry → ℕ
  part_size y u (One e) = item_size y u e
  part_size y u (Many es x a b d) = counting_size a b d + list_size y u es + 3

abbrev pub record_size : Layout → ℕ → Par → Entries → ℕ
record_size y u a es = par_size a + list_size y u es + 2

abbrev pub act_size : Layout → ℕ → Act → ℕ
act_size y u (Assign x e) = place_size y u x + value_size y u e + 1
act_size y u (Goto l) = 1
act_size y u (Computed ls x) = 3
act_size y u (Sign e n m k) = value_size y u e + 1
act_size y u (When e a) = value_size y u e + act_size y u a + 2
act_size y u (Loop l x a b d) = counting_size a b d
act_size y u (Invoke x es) = invoked_size (y.linked.find x) (actuals_size y u es)
act_size y u (Stop n) = 1
act_size y u Return = 1
act_size y u (Read a l es) = record_size y u a es
act_size y u (Write a l es) = record_size y u a es
act_size y u _ = 0
