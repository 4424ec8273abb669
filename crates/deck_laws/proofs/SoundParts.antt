-- Parts of the statements of a sound unit can be read back: places, parameters, names with dimensions, arguments, what READ and
-- WRITE go over, and formats.
use Rattle.std.proofs.Common.{◌≡◌, ℕ, zero, suc, ◌≤◌, true, List, [], ◌∷◌, length, Some, refl, ap, subst, arith}
use Rattle.std.specs.Prelude.{nat_le, ◌&&◌}
use Rattle.std.specs.List.{list_all, AllByRecursion}
use Rattle.std.proofs.lemmas.Bool.{leb-true, and_parts, and_from}
use Rattle.f66_tree.specs.declared.editing.EditKind.TheVariants as edits
use Rattle.f66_tree.specs.Fields.{Step, Takes, Blanks, Chars, Slash, Fields, NoField, Single, Group as Nested}
use Rattle.f66_tree.specs.Syntax.{Text, Formula, Int, Truth, Letter, Ref, Item, Group, Plus, Minus, Not, Pair, Formulas, NoFormula, AndFormula, Par, Constant, Named, Declared, Entry, One, Many, Entries, NoEntry, AndEntry, Invoke}
use Rattle.f66_tree.specs.Views.{chained}
use Rattle.f66_names.specs.Shapes as shapes
use Rattle.f66_names.specs.StoreRules.{is_between, is_fit_edit, are_fit}
use Rattle.unit_rules.specs.Forms.{is_passed_form, are_passed_forms}
use Rattle.stmt_reader.specs.Exactness.{IsDeclared}
use Rattle.stmt_reader.specs.Levels.{is_name, stands, stand_all, are_arguments}
use Rattle.stmt_reader.specs.Spelled.{par_formula, par_formulas}
use Rattle.stmt_reader.specs.Taking.{place_if}
use Rattle.deck.specs.Readable.{is_readable_par}
use Rattle.deck.specs.ReadableStatements.{IsReadable, IsReadableArgument, IsReadableDeclared, IsReadableEntry, IsReadableList, AreReadableEntries, IsReadableStep, AreReadableFields, IsReadableBranch, bare_call, call}
use Rattle.deck_laws.specs.Whole.{IsWholeStep, AreWholeFields}
use Rattle.deck_laws.proofs.SoundExpressions.{name_same, constant_number, constant_range, readable, formula_stands, formula_readable}

-- ---- places, parameters, names with dimensions ----

pub place_is : (e : Formula) → shapes.is_place e ≡ true → place_if e ≡ Some e
place_is (Ref x) is = refl
place_is (Item x es) is = refl
place_is _ is = absurd cc

pub place_readable : (e : Formula) → shapes.is_place e ≡ true → IsReadable e
place_readable (Ref x) is = readable (Ref x) is
place_readable (Item x es) is = readable (Item x es) is
place_readable _ is = absurd cc

pub par_readable : (p : Par) → shapes.is_parameter p ≡ true → is_readable_par p ≡ true
par_readable (Constant z) is = constant_range z is
par_readable (Named x) is = name_same x is

par_stands : (p : Par) → shapes.is_parameter p ≡ true → stands 0 (par_formula p) ≡ true
par_stands (Constant z) is = constant_number z is
par_stands (Named x) is = name_same x is

pars_readable : (ps : List Par) → list_all shapes.is_parameter ps ≡ true → list_all is_readable_par ps ≡ true
pars_readable [] is = refl
pars_readable (p ∷ ps) is = let both = and_parts (shapes.is_parameter p) (list_all shapes.is_parameter ps) is in and_from (is_readable_par p) (list_all is_readable_par ps) (par_readable p both.0) (pars_readable ps both.1)

pars_stand : (ps : List Par) → list_all shapes.is_parameter ps ≡ true → stand_all (par_formulas ps) ≡ true
pars_stand [] is = refl
pars_stand (p ∷ ps) is = let both = and_parts (shapes.is_parameter p) (list_all shapes.is_parameter ps) is in and_from (stands 0 (par_formula p)) (stand_all (par_formulas ps)) (par_stands p both.0) (pars_stand ps both.1)

sized_stands : (x : Text) (sizes : List Par) → is_name x ≡ true → list_all shapes.is_parameter sizes ≡ true → IsDeclared (record { name = x; sizes = sizes })
sized_stands x [] name is = name
sized_stands x (p ∷ ps) name is =
    let both = and_parts (shapes.is_parameter p) (list_all shapes.is_parameter ps) is in
    and_from (is_name x) (are_arguments (par_formulas (p ∷ ps))) name (and_from (stands 0 (par_formula p)) (stand_all (par_formulas ps)) (par_stands p both.0) (pars_stand ps both.1))

declared_readable : (d : Declared) → shapes.is_declared d ≡ true → IsReadableDeclared d
declared_readable d is =
    let both = and_parts (shapes.is_name d.name) (list_all shapes.is_parameter d.sizes) is in
    let name = name_same d.name both.0 in
    record { is_declared = sized_stands d.name d.sizes name both.1; readable = and_from (is_name d.name) (list_all is_readable_par d.sizes) name (pars_readable d.sizes both.1) }

pub names_readable : (ds : List Declared) → list_all shapes.is_declared ds ≡ true → AllByRecursion IsReadableDeclared ds
names_readable [] is = tt
names_readable (d ∷ ds) is = let both = and_parts (shapes.is_declared d) (list_all shapes.is_declared ds) is in (declared_readable d both.0, names_readable ds both.1)

-- ---- arguments of a CALL ----

passed_readable : (e : Formula) → is_passed_form e ≡ true → IsReadableArgument e
passed_readable (Letter c) is = record { is_argument = refl; readable = refl }
passed_readable (Int z) is = record { is_argument = formula_stands (Int z) 0 is; readable = formula_readable (Int z) 0 is }
passed_readable (Truth b) is = record { is_argument = refl; readable = refl }
passed_readable (Ref x) is = record { is_argument = formula_stands (Ref x) 0 is; readable = formula_readable (Ref x) 0 is }
passed_readable (Item x es) is = record { is_argument = formula_stands (Item x es) 0 is; readable = formula_readable (Item x es) 0 is }
passed_readable (Group a) is = record { is_argument = formula_stands (Group a) 0 is; readable = formula_readable (Group a) 0 is }
passed_readable (Plus a) is = record { is_argument = formula_stands (Plus a) 0 is; readable = formula_readable (Plus a) 0 is }
passed_readable (Minus a) is = record { is_argument = formula_stands (Minus a) 0 is; readable = formula_readable (Minus a) 0 is }
passed_readable (Not a) is = record { is_argument = formula_stands (Not a) 0 is; readable = formula_readable (Not a) 0 is }
passed_readable (Pair op a b) is = record { is_argument = formula_stands (Pair op a b) 0 is; readable = formula_readable (Pair op a b) 0 is }

abbrev unchained : Formulas → List Formula
unchained NoFormula = []
unchained (AndFormula e es) = e ∷ unchained es

chained_again : (es : Formulas) → chained (unchained es) ≡ es
chained_again NoFormula = refl
chained_again (AndFormula e es) = ap (AndFormula e) (chained_again es)

all_passed : (es : Formulas) → are_passed_forms es ≡ true → AllByRecursion IsReadableArgument (unchained es)
all_passed NoFormula is = tt
all_passed (AndFormula e es) is = let both = and_parts (is_passed_form e) (are_passed_forms es) is in (passed_readable e both.0, all_passed es both.1)

pub call_readable : (x : Text) (es : Formulas) → is_name x ≡ true → are_passed_forms es ≡ true → IsReadableBranch (Invoke x es)
call_readable x NoFormula name is = bare_call x name
call_readable x (AndFormula e es) name is =
    let all = all_passed (AndFormula e es) is in
    subst (λ (rest : Formulas). IsReadableBranch (Invoke x (AndFormula e rest))) (chained_again es) (call x e (unchained es) name all.0 all.1)

-- ---- what READ and WRITE go over ----

mutual
  entry_readable : (e : Entry) → shapes.is_item e ≡ true → IsReadableEntry e
  entry_readable (One e) is = (place_is e is, place_readable e is)
  entry_readable (Many es x a b c) is =
      let one = and_parts (shapes.are_some_items es) (shapes.is_name x && (shapes.is_parameter a && (shapes.is_parameter b && shapes.is_parameter c))) is in
      let two = and_parts (shapes.is_name x) (shapes.is_parameter a && (shapes.is_parameter b && shapes.is_parameter c)) one.1 in
      let three = and_parts (shapes.is_parameter a) (shapes.is_parameter b && shapes.is_parameter c) two.1 in
      let four = and_parts (shapes.is_parameter b) (shapes.is_parameter c) three.1 in
      (list_readable es one.0, name_same x two.0, par_readable a three.0, par_readable b four.0, par_readable c four.1)

  list_readable : (es : Entries) → shapes.are_some_items es ≡ true → IsReadableList es
  list_readable NoEntry is = absurd cc
  list_readable (AndEntry e es) is = let both = and_parts (shapes.is_item e) (shapes.are_items es) is in (entry_readable e both.0, entries_readable es both.1)

  pub entries_readable : (es : Entries) → shapes.are_items es ≡ true → AreReadableEntries es
  entries_readable NoEntry is = tt
  entries_readable (AndEntry e es) is = let both = and_parts (shapes.is_item e) (shapes.are_items es) is in (entry_readable e both.0, entries_readable es both.1)

-- ---- formats ----

below : (a b n m : ℕ) → is_between a b n ≡ true → b ≤ m → n ≤ m
below a b n m is room = let high : n ≤ b = leb-true n b (and_parts (nat_le a n) (nat_le n b) is).1 in omega (arith, high, room)

step_readable : (n : ℕ) (s : Step) → is_fit_edit n s ≡ true → IsWholeStep n s → IsReadableStep n s
step_readable n (Takes edits.Whole w) is whole = let both = and_parts (is_between 1 999 n) (is_between 1 132 w) is in (below 1 999 n 65535 both.0 (omega arith), below 1 132 w 65535 both.1 (omega arith))
step_readable n (Takes edits.Truth w) is whole = let both = and_parts (is_between 1 999 n) (is_between 1 132 w) is in (below 1 999 n 65535 both.0 (omega arith), below 1 132 w 65535 both.1 (omega arith))
step_readable n (Takes edits.Letter w) is whole = (below 1 999 n 65535 (and_parts (is_between 1 999 n) (is_between 1 132 w) is).0 (omega arith), whole)
step_readable n (Blanks m) is whole = (whole, below 1 255 m 65535 is (omega arith))
step_readable n (Chars text) is whole = (whole, below 1 255 (length text) 65535 is (omega arith))
step_readable n Slash is whole = whole

pub fields_readable : (fs : Fields) (deep : ℕ) → are_fit deep fs ≡ true → AreWholeFields fs → AreReadableFields fs
fields_readable NoField deep is whole = tt
fields_readable (Single n s rest) deep is whole = let both = and_parts (is_fit_edit n s) (are_fit deep rest) is in (step_readable n s both.0 whole.0, fields_readable rest deep both.1 whole.1)
fields_readable (Nested n inside rest) zero is whole = absurd cc
fields_readable (Nested n inside rest) (suc deep) is whole =
    let one = and_parts (is_between 1 999 n) (are_fit deep inside && are_fit (suc deep) rest) is in
    let two = and_parts (are_fit deep inside) (are_fit (suc deep) rest) one.1 in
    (below 1 999 n 65535 one.0 (omega arith), fields_readable inside deep two.0 whole.0, fields_readable rest (suc deep) two.1 whole.1)
