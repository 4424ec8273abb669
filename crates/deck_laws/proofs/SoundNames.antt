-- The names of a sound statement have six characters at most.
use Rattle.std.proofs.Common.{◌≡◌, ℕ, pos, negsuc, Bool, true, false, List, [], ◌∷◌, ◌++◌, length, Option, Some, None, refl}
use Rattle.std.specs.Prelude.{nat_le, nat_lt, ◌&&◌, ◌||◌}
use Rattle.std.specs.List.{list_all, list_any, flat_map}
use Rattle.std.proofs.lemmas.Bool.{and_parts}
use Rattle.rule_table.specs.Words.{is_some_and}
use Rattle.f66_tree.specs.Syntax.{Text, Formula, Int, Truth, Letter, Ref, Item, Group, Plus, Minus, Not, Pair, Formulas, NoFormula, AndFormula, Par, Constant, Named, Declared, Entry, One, Many, Entries, NoEntry, AndEntry, Area, PresetPart, Act, Assign, Goto, Computed, Sign, When, Loop, Invoke, Continue, Stop, Return, Read, Write, Format, Typed, Dimension, Common, Equivalence, Preset}
use Rattle.f66_names.specs.Declaring.{declared_in}
use Rattle.f66_names.specs.NameRules.{has_name, is_long}
use Rattle.f66_names.specs.Shapes as shapes
use Rattle.f66_names.specs.Uses.{Usage, uses_of, uses_of_all, uses_of_target, uses_of_par, uses_of_counting, uses_of_entry, uses_of_entries, uses_of_sizes, uses_in}
use Rattle.unit_rules.specs.Called.{called_in, passed_in}
use Rattle.unit_rules.specs.Forms.{has_all, is_datum, is_value, is_part, has_form}
use Rattle.unit_rules.specs.Listed.{common_in, equated_in, preset_in, uses_of_listed, more_names}
use Rattle.unit_rules.specs.Storage.{any_block}
use Rattle.unit_rules.specs.UnitRules.{has_long_name}
use Rattle.stmt_reader.specs.Faults.{too_long, formula_has, formulas_have, par_has, declared_has, entry_has, entries_have, name_has, area_has, value_has, preset_has, act_has}
use Rattle.deck_laws.specs.Fitting.{HasShortNames}

-- a use of a long name
abbrev long : Usage → Bool
long u = is_long u.name

abbrev AreShort : List Usage → Type 0
AreShort us = list_any long us ≡ false

parts : (a b : Bool) → (a || b) ≡ false → (a ≡ false) × (b ≡ false)
parts true b is = absurd cc
parts false b is = (refl, is)

either : (a b : Bool) → a ≡ false → b ≡ false → (a || b) ≡ false
either false b is more = more
either true b is more = absurd cc

sides : (us vs : List Usage) → AreShort (us ++ vs) → AreShort us × AreShort vs
sides [] vs is = (refl, is)
sides (u ∷ us) vs is =
    let one = parts (long u) (list_any long (us ++ vs)) is in
    let two = sides us vs one.1 in
    (either (long u) (list_any long us) one.0 two.0, two.1)

-- ---- expressions ----

mutual
  formula_short : (e : Formula) → AreShort (uses_of e) → formula_has too_long e ≡ false
  formula_short (Int (pos n)) is = refl
  formula_short (Int (negsuc n)) is = refl
  formula_short (Truth b) is = refl
  formula_short (Letter c) is = refl
  formula_short (Ref x) is = (parts (is_long x) false is).0
  formula_short (Item x es) is =
      let both = parts (is_long x) (list_any long (uses_of_all es)) is in
      either (is_long x) (formulas_have too_long es) both.0 (all_short es both.1)
  formula_short (Group a) is = formula_short a is
  formula_short (Plus a) is = formula_short a is
  formula_short (Minus a) is = formula_short a is
  formula_short (Not a) is = formula_short a is
  formula_short (Pair op a b) is = let both = sides (uses_of a) (uses_of b) is in either (formula_has too_long a) (formula_has too_long b) (formula_short a both.0) (formula_short b both.1)

  all_short : (es : Formulas) → AreShort (uses_of_all es) → formulas_have too_long es ≡ false
  all_short NoFormula is = refl
  all_short (AndFormula e es) is = let both = sides (uses_of e) (uses_of_all es) is in either (formula_has too_long e) (formulas_have too_long es) (formula_short e both.0) (all_short es both.1)

target_short : (e : Formula) → AreShort (uses_of_target e) → formula_has too_long e ≡ false
target_short (Item x es) is =
    let both = parts (is_long x) (list_any long (uses_of_all es)) is in
    either (is_long x) (formulas_have too_long es) both.0 (all_short es both.1)
target_short (Int z) is = formula_short (Int z) is
target_short (Truth b) is = refl
target_short (Letter c) is = refl
target_short (Ref x) is = formula_short (Ref x) is
target_short (Group a) is = formula_short a is
target_short (Plus a) is = formula_short a is
target_short (Minus a) is = formula_short a is
target_short (Not a) is = formula_short a is
target_short (Pair op a b) is = formula_short (Pair op a b) is

-- ---- parameters and what READ and WRITE go over ----

par_short : (p : Par) → AreShort (uses_of_par p) → par_has too_long p ≡ false
par_short (Constant (pos n)) is = refl
par_short (Constant (negsuc n)) is = refl
par_short (Named x) is = (parts (is_long x) false is).0

record AreShortCounts (x : Text) (a b c : Par) : Type 0 where
  name : is_long x ≡ false
  first : par_has too_long a ≡ false
  last : par_has too_long b ≡ false
  step : par_has too_long c ≡ false

counts_short : (x : Text) (a b c : Par) → AreShort (uses_of_counting x a b c) → AreShortCounts x a b c
counts_short x a b c is =
    let one = parts (is_long x) (list_any long (uses_of_par a ++ (uses_of_par b ++ uses_of_par c))) is in
    let two = sides (uses_of_par a) (uses_of_par b ++ uses_of_par c) one.1 in
    let three = sides (uses_of_par b) (uses_of_par c) two.1 in
    record { name = one.0; first = par_short a two.0; last = par_short b three.0; step = par_short c three.1 }

mutual
  entry_short : (e : Entry) → AreShort (uses_of_entry e) → entry_has too_long e ≡ false
  entry_short (One e) is = target_short e is
  entry_short (Many es x a b c) is =
      let both = sides (uses_of_entries es) (uses_of_counting x a b c) is in
      let inside : entries_have too_long es ≡ false = entries_short es both.0 in
      let control = counts_short x a b c both.1 in
      let name : is_long x ≡ false = control.name in
      let first : par_has too_long a ≡ false = control.first in
      let last : par_has too_long b ≡ false = control.last in
      let step : par_has too_long c ≡ false = control.step in
      rw (inside, name, first, last, step) refl

  entries_short : (es : Entries) → AreShort (uses_of_entries es) → entries_have too_long es ≡ false
  entries_short NoEntry is = refl
  entries_short (AndEntry e es) is =
      let both = sides (uses_of_entry e) (uses_of_entries es) is in
      either (entry_has too_long e) (entries_have too_long es) (entry_short e both.0) (entries_short es both.1)

-- ---- names with dimensions ----

sizes_short : (ps : List Par) → AreShort (flat_map uses_of_par ps) → list_any (par_has too_long) ps ≡ false
sizes_short [] is = refl
sizes_short (p ∷ ps) is =
    let both = sides (uses_of_par p) (flat_map uses_of_par ps) is in
    either (par_has too_long p) (list_any (par_has too_long) ps) (par_short p both.0) (sizes_short ps both.1)

names_short : (ds : List Declared) → list_any (λ d. is_long d.name) ds ≡ false → AreShort (uses_of_sizes ds) → list_any (declared_has too_long) ds ≡ false
names_short [] is all = refl
names_short (d ∷ ds) is all =
    let one = parts (is_long d.name) (list_any (λ n. is_long n.name) ds) is in
    let two = sides (flat_map uses_of_par d.sizes) (uses_of_sizes ds) all in
    either (declared_has too_long d) (list_any (declared_has too_long) ds) (either (is_long d.name) (list_any (par_has too_long) d.sizes) one.0 (sizes_short d.sizes two.0)) (names_short ds one.1 two.1)

-- ---- COMMON, EQUIVALENCE and DATA ----

listed_short : (ds : List Declared) → AreShort (flat_map uses_of_listed ds) → list_any (declared_has too_long) ds ≡ false
listed_short [] is = refl
listed_short (d ∷ ds) is =
    let one = parts (is_long d.name) (list_any long (flat_map uses_of_par d.sizes ++ flat_map uses_of_listed ds)) is in
    let two = sides (flat_map uses_of_par d.sizes) (flat_map uses_of_listed ds) one.1 in
    either (declared_has too_long d) (list_any (declared_has too_long) ds) (either (is_long d.name) (list_any (par_has too_long) d.sizes) one.0 (sizes_short d.sizes two.0)) (listed_short ds two.1)

targets_short : (es : List Formula) → AreShort (flat_map uses_of_target es) → list_any (formula_has too_long) es ≡ false
targets_short [] is = refl
targets_short (e ∷ es) is = let both = sides (uses_of_target e) (flat_map uses_of_target es) is in either (formula_has too_long e) (list_any (formula_has too_long) es) (target_short e both.0) (targets_short es both.1)

-- the uses in two lists one behind the other
flat_both : {A : Type 0} (uses : A → List Usage) (xs ys : List A) → AreShort (flat_map uses (xs ++ ys)) → AreShort (flat_map uses xs) × AreShort (flat_map uses ys)
flat_both uses [] ys is = (refl, is)
flat_both uses (x ∷ xs) ys is =
    let one = sides (uses x) (flat_map uses (xs ++ ys)) is in
    let two = flat_both uses xs ys one.1 in
    (joined (uses x) (flat_map uses xs) one.0 two.0, two.1)
  where
    joined : (us vs : List Usage) → AreShort us → AreShort vs → AreShort (us ++ vs)
    joined [] vs first others = others
    joined (u ∷ us) vs first others = let both = parts (long u) (list_any long us) first in either (long u) (list_any long (us ++ vs)) both.0 (joined us vs both.1 others)

block_short : (name : Option Text) → is_some_and is_long name ≡ false → name_has too_long name ≡ false
block_short None is = refl
block_short (Some x) is = is

areas_short : (areas : List Area) → list_any (λ a. is_some_and is_long a.name) areas ≡ false → AreShort (flat_map uses_of_listed (flat_map (λ a. a.list) areas)) → list_any (area_has too_long) areas ≡ false
areas_short [] blocks is = refl
areas_short (a ∷ all) blocks is =
    let names = parts (is_some_and is_long a.name) (list_any (λ b. is_some_and is_long b.name) all) blocks in
    let both = flat_both uses_of_listed a.list (flat_map (λ b. b.list) all) is in
    either (area_has too_long a) (list_any (area_has too_long) all) (either (name_has too_long a.name) (list_any (declared_has too_long) a.list) (block_short a.name names.0) (listed_short a.list both.0)) (areas_short all names.1 both.1)

groups_short : (groups : List (List Formula)) → AreShort (flat_map uses_of_target (flat_map (λ g. g) groups)) → list_any (list_any (formula_has too_long)) groups ≡ false
groups_short [] is = refl
groups_short (g ∷ groups) is =
    let both = flat_both uses_of_target g (flat_map (λ h. h) groups) is in
    either (list_any (formula_has too_long) g) (list_any (list_any (formula_has too_long)) groups) (targets_short g both.0) (groups_short groups both.1)

-- no value of DATA has a name
datum_short : (e : Formula) → is_datum e ≡ true → formula_has too_long e ≡ false
datum_short (Int (pos n)) is = refl
datum_short (Int (negsuc n)) is = refl
datum_short (Plus (Int z)) is = datum_short (Int z) is
datum_short (Minus (Int z)) is = datum_short (Int z) is
datum_short (Truth b) is = refl
datum_short (Letter c) is = refl
datum_short _ is = absurd cc

values_short : (vs : List (ℕ × Formula)) → list_all is_value vs ≡ true → list_any (value_has too_long) vs ≡ false
values_short [] is = refl
values_short (v ∷ vs) is =
    let both = and_parts (is_value v) (list_all is_value vs) is in
    let value = and_parts (nat_le v.0 2147483647) (is_datum v.1) both.0 in
    either (value_has too_long v) (list_any (value_has too_long) vs) (datum_short v.1 value.1) (values_short vs both.1)

preset_short : (ps : List PresetPart) → list_all is_part ps ≡ true → AreShort (flat_map uses_of_target (flat_map (λ p. p.places) ps)) → list_any (preset_has too_long) ps ≡ false
preset_short [] formed is = refl
preset_short (p ∷ ps) formed is =
    let form = and_parts (is_part p) (list_all is_part ps) formed in
    let lists = and_parts (has_all shapes.is_place p.places) (has_all is_value p.values) form.0 in
    let values = and_parts (nat_lt 0 (length p.values)) (list_all is_value p.values) lists.1 in
    let both = flat_both uses_of_target p.places (flat_map (λ q. q.places) ps) is in
    either (preset_has too_long p) (list_any (preset_has too_long) ps) (either (list_any (formula_has too_long) p.places) (list_any (value_has too_long) p.values) (targets_short p.places both.0) (values_short p.values values.1)) (preset_short ps form.1 both.1)

presets_short : (ps : List PresetPart) → has_all is_part ps ≡ true → AreShort (flat_map uses_of_target (flat_map (λ p. p.places) ps)) → list_any (preset_has too_long) ps ≡ false
presets_short ps formed is = preset_short ps (and_parts (nat_lt 0 (length ps)) (list_all is_part ps) formed).1 is

-- ---- statements ----

no_numbers : (ls : List ℕ) → list_any too_long.number ls ≡ false
no_numbers [] = refl
no_numbers (l ∷ ls) = no_numbers ls

-- what the rule asks of a statement
record IsShort (a : Act) : Type 0 where
  declared : list_any (λ d. is_long d.name) (declared_in a) ≡ false
  used : AreShort (uses_in a)
  called : is_some_and is_long (called_in a) ≡ false
  passed : AreShort (uses_of_all (passed_in a))
  blocks : any_block is_long a ≡ false
  common : AreShort (flat_map uses_of_listed (common_in a))
  equated : AreShort (flat_map uses_of_target (equated_in a))
  preset : AreShort (flat_map uses_of_target (preset_in a))

asked : (a : Act) → has_long_name a ≡ false → IsShort a
asked a is =
    let one = parts (has_name is_long a) (is_some_and is_long (called_in a) || (any_block is_long a || list_any long (more_names a))) is in
    let two = parts (list_any (λ d. is_long d.name) (declared_in a)) (list_any long (uses_in a)) one.0 in
    let three = parts (is_some_and is_long (called_in a)) (any_block is_long a || list_any long (more_names a)) one.1 in
    let four = parts (any_block is_long a) (list_any long (more_names a)) three.1 in
    let listed = flat_map uses_of_listed (common_in a) in
    let equal = flat_map uses_of_target (equated_in a) in
    let five = sides (uses_of_all (passed_in a)) (listed ++ (equal ++ flat_map uses_of_target (preset_in a))) four.1 in
    let six = sides listed (equal ++ flat_map uses_of_target (preset_in a)) five.1 in
    let seven = sides equal (flat_map uses_of_target (preset_in a)) six.1 in
    record { declared = two.0; used = two.1; called = three.0; passed = five.0; blocks = four.0; common = six.0; equated = seven.0; preset = seven.1 }

transfer_short : (u : Par) (es : Entries) → AreShort (uses_of_par u ++ uses_of_entries es) → (par_has too_long u || false || entries_have too_long es) ≡ false
transfer_short u es is =
    let both = sides (uses_of_par u) (uses_of_entries es) is in
    let unit : par_has too_long u ≡ false = par_short u both.0 in
    let list : entries_have too_long es ≡ false = entries_short es both.1 in
    rw (unit, list) refl

-- a statement that a logical IF holds declares and lists nothing
record IsPlain (a : Act) : Type 0 where
  declared : list_any (λ d. is_long d.name) (declared_in a) ≡ false
  blocks : any_block is_long a ≡ false
  common : AreShort (flat_map uses_of_listed (common_in a))
  equated : AreShort (flat_map uses_of_target (equated_in a))
  preset : AreShort (flat_map uses_of_target (preset_in a))

is_plain : (a : Act) → shapes.is_branch a ≡ true → IsPlain a
is_plain (Typed w ds) held = absurd cc
is_plain (Dimension ds) held = absurd cc
is_plain (Common areas) held = absurd cc
is_plain (Equivalence groups) held = absurd cc
is_plain (Preset parts) held = absurd cc
is_plain _ held = record { declared = refl; blocks = refl; common = refl; equated = refl; preset = refl }

act_short : (a : Act) → has_form a ≡ true → IsShort a → HasShortNames a
act_short (Assign x e) formed is = let both = sides (uses_of_target x) (uses_of e) is.used in either (formula_has too_long x) (formula_has too_long e) (target_short x both.0) (formula_short e both.1)
act_short (Goto l) formed is = refl
act_short (Computed ls x) formed is = either (list_any too_long.number ls) (is_long x) (no_numbers ls) (parts (is_long x) false is.used).0
act_short (Sign e l m n) formed is = let short : formula_has too_long e ≡ false = formula_short e is.used in rw short refl
act_short (When e a) formed is =
    let both = sides (uses_of e) (uses_in a) is.used in
    let one = and_parts (shapes.has_shape (When e a)) (has_form a) formed in
    let two = and_parts (shapes.stands 0 e) (shapes.is_branch a && shapes.has_shape a) one.0 in
    let plain = is_plain a (and_parts (shapes.is_branch a) (shapes.has_shape a) two.1).0 in
    either (formula_has too_long e) (act_has too_long a) (formula_short e both.0) (act_short a one.1 (record { declared = plain.declared; used = both.1; called = is.called; passed = is.passed; blocks = plain.blocks; common = plain.common; equated = plain.equated; preset = plain.preset }))
act_short (Loop l x a b c) formed is =
    let control = counts_short x a b c is.used in
    let name : is_long x ≡ false = control.name in
    let first : par_has too_long a ≡ false = control.first in
    let last : par_has too_long b ≡ false = control.last in
    let step : par_has too_long c ≡ false = control.step in
    rw (name, first, last, step) refl
act_short (Invoke x es) formed is = either (is_long x) (formulas_have too_long es) is.called (all_short es is.passed)
act_short Continue formed is = refl
act_short (Stop n) formed is = refl
act_short Return formed is = refl
act_short (Read u l es) formed is = transfer_short u es is.used
act_short (Write u l es) formed is = transfer_short u es is.used
act_short (Format fs) formed is = refl
act_short (Typed w ds) formed is = names_short ds is.declared is.used
act_short (Dimension ds) formed is = names_short ds is.declared is.used
act_short (Common areas) formed is = areas_short areas is.blocks is.common
act_short (Equivalence groups) formed is = groups_short groups is.equated
act_short (Preset parts) formed is = presets_short parts formed is.preset

pub names_are_short : (a : Act) → has_form a ≡ true → has_long_name a ≡ false → HasShortNames a
names_are_short a formed is = act_short a formed (asked a is)
