-- The names that stand in a unit as variables, and those that it calls (X3.9-1966, sections 5.1.3, 8.3, 8.4 and 10.1).
use Rattle.std.specs.Prelude.{Bool, true, false, not, ◌&&◌, ◌||◌, List, [], ◌∷◌, ◌++◌, map}
use Rattle.std.specs.List.{flat_map, list_any}
use Rattle.std.specs.Str.{bytes_eq}
use Rattle.f66_tree.specs.Syntax.{Text, Formula, Ref, Item, Group, Plus, Minus, Not, Pair, Formulas, NoFormula, AndFormula, Par, Constant, Named, Declared, Header, FuncUnit, Entry, One, Many, Entries, NoEntry, AndEntry, Act, Assign, Computed, Sign, When, Loop, Invoke, Read, Write, Typed, Dimension, Common, Equivalence, Preset, Line, Routine}
use Rattle.f66_tree.specs.Units.{Context, notes_of, dummies_of}
use Rattle.f66_tree.specs.Evaluation.{Sort, AnArray, AnIntrinsic, AFunction, sort_of}

-- what names mean in a unit
abbrev pub context_of : Routine → Context
context_of r = record { header = r.header; notes = notes_of r.lines }

-- A name in a statement: a variable or an array; a unit that is called, with its arguments, by a CALL or as a function; or an
-- intrinsic function.
pub data Mention : Type 0 where
  AVariable : Text → Mention
  ACall : Bool → Text → Formulas → Mention
  AKnown : Text → Mention

abbrev pub applied : Text → Formulas → Sort → Mention
applied x es (AnArray ns) = AVariable x
applied x es (AnIntrinsic g) = AKnown x
applied x es AFunction = ACall false x es

abbrev mutual
  pub mentions_of : Context → Formula → List Mention
  mentions_of c (Ref x) = AVariable x ∷ []
  mentions_of c (Item x es) = applied x es (sort_of c x) ∷ mentions_of_all c es
  mentions_of c (Group a) = mentions_of c a
  mentions_of c (Plus a) = mentions_of c a
  mentions_of c (Minus a) = mentions_of c a
  mentions_of c (Not a) = mentions_of c a
  mentions_of c (Pair op a b) = mentions_of c a ++ mentions_of c b
  mentions_of c _ = []

  pub mentions_of_all : Context → Formulas → List Mention
  mentions_of_all c NoFormula = []
  mentions_of_all c (AndFormula e es) = mentions_of c e ++ mentions_of_all c es

abbrev pub mentions_of_par : Par → List Mention
mentions_of_par (Constant z) = []
mentions_of_par (Named x) = AVariable x ∷ []

abbrev pub mentions_of_counting : Text → Par → Par → Par → List Mention
mentions_of_counting x a b d = AVariable x ∷ (mentions_of_par a ++ (mentions_of_par b ++ mentions_of_par d))

abbrev mutual
  pub mentions_of_entry : Context → Entry → List Mention
  mentions_of_entry c (One e) = mentions_of c e
  mentions_of_entry c (Many es x a b d) = mentions_of_entries c es ++ mentions_of_counting x a b d

  pub mentions_of_entries : Context → Entries → List Mention
  mentions_of_entries c NoEntry = []
  mentions_of_entries c (AndEntry e es) = mentions_of_entry c e ++ mentions_of_entries c es

-- the names in dimensions, which are variables; those that are declared are asked for by themselves
abbrev pub mentions_of_sizes : List Declared → List Mention
mentions_of_sizes ds = flat_map (λ d. flat_map mentions_of_par d.sizes) ds

-- the names of a statement in reading order
abbrev pub mentions_in : Context → Act → List Mention
mentions_in c (Assign x e) = mentions_of c x ++ mentions_of c e
mentions_in c (Computed ls x) = AVariable x ∷ []
mentions_in c (Sign e l m k) = mentions_of c e
mentions_in c (When e a) = mentions_of c e ++ mentions_in c a
mentions_in c (Loop l x a b d) = mentions_of_counting x a b d
mentions_in c (Invoke x es) = ACall true x es ∷ mentions_of_all c es
mentions_in c (Read u l es) = mentions_of_par u ++ mentions_of_entries c es
mentions_in c (Write u l es) = mentions_of_par u ++ mentions_of_entries c es
mentions_in c (Typed t ds) = mentions_of_sizes ds
mentions_in c (Dimension ds) = mentions_of_sizes ds
mentions_in c (Common areas) = flat_map (λ a. map (λ d. AVariable d.name) a.list ++ mentions_of_sizes a.list) areas
mentions_in c (Equivalence groups) = flat_map (λ es. flat_map (mentions_of c) es) groups
mentions_in c (Preset parts) = flat_map (λ p. flat_map (mentions_of c) p.places) parts
mentions_in c _ = []

abbrev pub is_variable : Text → Mention → Bool
is_variable q (AVariable x) = bytes_eq q x
is_variable q _ = false

abbrev pub is_function : Text → Mention → Bool
is_function q (AVariable x) = false
is_function q (ACall by_call x es) = bytes_eq q x
is_function q (AKnown x) = bytes_eq q x

-- a type statement, DIMENSION or COMMON lists the name
abbrev pub declares : Text → Act → Bool
declares q (Typed t ds) = list_any (λ d. bytes_eq q d.name) ds
declares q (Dimension ds) = list_any (λ d. bytes_eq q d.name) ds
declares q _ = false

abbrev pub mentioned : (Mention → Bool) → Context → List Line → Bool
mentioned test c lines = list_any (λ s. list_any test (mentions_in c s.act)) lines

abbrev pub is_dummy : Text → Header → Bool
is_dummy q h = list_any (bytes_eq q) (dummies_of h)

-- a function's own name holds its value
abbrev pub is_own_value : Text → Header → Bool
is_own_value q (FuncUnit t x ds) = bytes_eq q x
is_own_value q _ = false

-- The name has places of the unit's own: it is no dummy, and stands there as a variable, or is declared and nowhere called.
abbrev pub has_places : Routine → Text → Bool
has_places r q =
    let c = context_of r in
    not (is_dummy q r.header) && (is_own_value q r.header || (mentioned (is_variable q) c r.lines
    || (list_any (λ s. declares q s.act) r.lines && not (mentioned (is_function q) c r.lines))))
