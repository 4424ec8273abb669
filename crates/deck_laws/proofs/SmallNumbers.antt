-- The numbers of a statement that is read back are in range, those of its text too.
use Rattle.std.proofs.Common.{◌≡◌, ℕ, ◌≤◌, pos, negsuc, Bool, true, false, cond, List, [], ◌∷◌, Option, Some, None, refl, arith}
use Rattle.std.specs.Prelude.{nat_le, nat_lt, ◌==◌, ◌||◌, decimal}
use Rattle.std.specs.List.{list_all, list_any, AllByRecursion}
use Rattle.std.proofs.lemmas.Bool.{leb-true, le-ltb, and_parts}
use Rattle.f66_tree.specs.declared.editing.EditKind.{EditKind}
use Rattle.f66_tree.specs.declared.editing.EditKind.TheVariants as edits
use Rattle.f66_tree.specs.Fields.{Step, Takes, Blanks, Chars, Slash, Fields, NoField, Single, Group as Nested}
use Rattle.f66_tree.specs.Syntax.{Text, Formula, Int, Truth, Letter, Ref, Item, Group, Plus, Minus, Not, Pair, Formulas, NoFormula, AndFormula, Par, Constant, Named, Declared, Entry, One, Many, Entries, NoEntry, AndEntry, Area, PresetPart, Act}
use Rattle.f66_tree.specs.Views.{chained}
use Rattle.stmt_text.specs.Texts.{edit_letter, is_slash}
use Rattle.stmt_reader.specs.declared.token.Token.{Token}
use Rattle.stmt_reader.specs.declared.token.Token.TheVariants as t
use Rattle.stmt_reader.specs.Levels.{is_name}
use Rattle.stmt_reader.specs.Faults.{too_large, formula_has, formulas_have, par_has, declared_has, entry_has, entries_have, name_has, area_has, value_has, preset_has, act_has, is_large, width_is_large, format_is_large}
use Rattle.stmt_reader.specs.Formats.{Items, Then, Point, count_tokens, value_after, spell_item, spell_items}
use Rattle.deck.specs.Readable.{is_readable, are_readable, are_some_readable, is_readable_par, is_readable_argument, is_readable_datum}
use Rattle.deck.specs.ReadableStatements.{IsLabelInRange, IsReadableArgument, IsReadableDeclared, IsReadableEntry, AreReadableEntries, IsReadableStep, AreReadableFields, AreSome, IsReadablePlace, IsReadableArea, IsReadableGroup, IsReadableValue, IsReadablePart, IsReadableBranch, assignment, jump, computed, sign, bare_call, call, read, write, continuation, stop, stop_number, return, IsReadableAct, branch, conditional, loop, format, typed, dimension, common, equivalence, preset}
use Rattle.deck.proofs.FormatTexts.{item_of, pointed, written}
use Rattle.deck.proofs.FormatMeanings.{width_digits}
use Rattle.deck_laws.proofs.ActTokens.{act_tokens}

either : (a b : Bool) → a ≡ false → b ≡ false → (a || b) ≡ false
either false b is more = more
either true b is more = absurd cc

small : (n : ℕ) → n ≤ 2147483647 → nat_lt 2147483647 n ≡ false
small n low = le-ltb 2147483647 n low

ranged : (n : ℕ) → nat_le n 2147483647 ≡ true → nat_lt 2147483647 n ≡ false
ranged n is = small n (leb-true n 2147483647 is)

-- ---- expressions and lists ----

mutual
  formula_small : (e : Formula) → is_readable e ≡ true → formula_has too_large e ≡ false
  formula_small (Int (pos n)) is = ranged n is
  formula_small (Int (negsuc n)) is = refl
  formula_small (Truth b) is = refl
  formula_small (Letter c) is = refl
  formula_small (Ref x) is = refl
  formula_small (Item x es) is = some_small es (and_parts (is_name x) (are_some_readable es) is).1
  formula_small (Group a) is = formula_small a is
  formula_small (Plus a) is = formula_small a is
  formula_small (Minus a) is = formula_small a is
  formula_small (Not a) is = formula_small a is
  formula_small (Pair op a b) is =
      let both = and_parts (is_readable a) (is_readable b) is in
      either (formula_has too_large a) (formula_has too_large b) (formula_small a both.0) (formula_small b both.1)

  some_small : (es : Formulas) → are_some_readable es ≡ true → formulas_have too_large es ≡ false
  some_small NoFormula is = refl
  some_small (AndFormula e es) is =
      let both = and_parts (is_readable e) (are_readable es) is in
      either (formula_has too_large e) (formulas_have too_large es) (formula_small e both.0) (all_small es both.1)

  all_small : (es : Formulas) → are_readable es ≡ true → formulas_have too_large es ≡ false
  all_small NoFormula is = refl
  all_small (AndFormula e es) is =
      let both = and_parts (is_readable e) (are_readable es) is in
      either (formula_has too_large e) (formulas_have too_large es) (formula_small e both.0) (all_small es both.1)

argument_small : (e : Formula) → is_readable_argument e ≡ true → formula_has too_large e ≡ false
argument_small (Letter c) is = refl
argument_small (Int z) is = formula_small (Int z) is
argument_small (Truth b) is = refl
argument_small (Ref x) is = refl
argument_small (Item x es) is = formula_small (Item x es) is
argument_small (Group a) is = formula_small (Group a) is
argument_small (Plus a) is = formula_small (Plus a) is
argument_small (Minus a) is = formula_small (Minus a) is
argument_small (Not a) is = formula_small (Not a) is
argument_small (Pair op a b) is = formula_small (Pair op a b) is

arguments_small : (es : List Formula) → AllByRecursion IsReadableArgument es → formulas_have too_large (chained es) ≡ false
arguments_small [] all = refl
arguments_small (e ∷ es) all = either (formula_has too_large e) (formulas_have too_large (chained es)) (argument_small e all.0.readable) (arguments_small es all.1)

labels_small : (ls : List ℕ) → AllByRecursion IsLabelInRange ls → list_any too_large.number ls ≡ false
labels_small [] all = refl
labels_small (l ∷ ls) all = either (too_large.number l) (list_any too_large.number ls) (small l all.0) (labels_small ls all.1)

par_small : (p : Par) → is_readable_par p ≡ true → par_has too_large p ≡ false
par_small (Constant (pos n)) is = ranged n is
par_small (Constant (negsuc n)) is = refl
par_small (Named x) is = refl

sizes_small : (ps : List Par) → list_all is_readable_par ps ≡ true → list_any (par_has too_large) ps ≡ false
sizes_small [] is = refl
sizes_small (p ∷ ps) is =
    let both = and_parts (is_readable_par p) (list_all is_readable_par ps) is in
    either (par_has too_large p) (list_any (par_has too_large) ps) (par_small p both.0) (sizes_small ps both.1)

declared_small : (d : Declared) → IsReadableDeclared d → declared_has too_large d ≡ false
declared_small d fine = sizes_small d.sizes (and_parts (is_name d.name) (list_all is_readable_par d.sizes) fine.readable).1

names_small : (ds : List Declared) → AllByRecursion IsReadableDeclared ds → list_any (declared_has too_large) ds ≡ false
names_small [] all = refl
names_small (d ∷ ds) all = either (declared_has too_large d) (list_any (declared_has too_large) ds) (declared_small d all.0) (names_small ds all.1)

mutual
  entry_small : (e : Entry) → IsReadableEntry e → entry_has too_large e ≡ false
  entry_small (One e) fine = formula_small e fine.1.readable
  entry_small (Many NoEntry x a b c) fine = absurd fine.0
  entry_small (Many (AndEntry e es) x a b c) fine =
      let first : entry_has too_large e ≡ false = entry_small e fine.0.0 in
      let others : entries_have too_large es ≡ false = entries_small es fine.0.1 in
      let from : par_has too_large a ≡ false = par_small a fine.2 in
      let to : par_has too_large b ≡ false = par_small b fine.3 in
      let by : par_has too_large c ≡ false = par_small c fine.4 in
      rw (first, others, from, to, by) refl

  entries_small : (es : Entries) → AreReadableEntries es → entries_have too_large es ≡ false
  entries_small NoEntry all = refl
  entries_small (AndEntry e es) all = either (entry_has too_large e) (entries_have too_large es) (entry_small e all.0) (entries_small es all.1)

-- ---- COMMON, EQUIVALENCE and DATA ----

any_small : {A : Type 0} (test : A → Bool) (Good : A → Type 0) → ((a : A) → Good a → test a ≡ false) → (all : List A) → AllByRecursion Good all → list_any test all ≡ false
any_small test Good gives [] fine = refl
any_small test Good gives (a ∷ all) fine = either (test a) (list_any test all) (gives a fine.0) (any_small test Good gives all fine.1)

each_small : {A : Type 0} (test : A → Bool) (Good : A → Type 0) → ((a : A) → Good a → test a ≡ false) → (all : List A) → AreSome Good all → list_any test all ≡ false
each_small test Good gives [] fine = absurd fine
each_small test Good gives (a ∷ all) fine = any_small test Good gives (a ∷ all) fine

place_small : (e : Formula) → IsReadablePlace e → formula_has too_large e ≡ false
place_small e fine = formula_small e fine.1.readable

block_small : (name : Option Text) → name_has too_large name ≡ false
block_small None = refl
block_small (Some x) = refl

area_small : (a : Area) → IsReadableArea a → area_has too_large a ≡ false
area_small a fine = either (name_has too_large a.name) (list_any (declared_has too_large) a.list) (block_small a.name) (each_small (declared_has too_large) IsReadableDeclared declared_small a.list fine.1)

group_small : (es : List Formula) → IsReadableGroup es → list_any (formula_has too_large) es ≡ false
group_small [] fine = absurd fine
group_small (e ∷ es) fine = either (formula_has too_large e) (list_any (formula_has too_large) es) (place_small e fine.0) (each_small (formula_has too_large) IsReadablePlace place_small es fine.1)

datum_small : (e : Formula) → is_readable_datum e ≡ true → formula_has too_large e ≡ false
datum_small (Int z) is = formula_small (Int z) is
datum_small (Plus (Int z)) is = formula_small (Int z) is
datum_small (Minus (Int z)) is = formula_small (Int z) is
datum_small (Truth b) is = refl
datum_small (Letter c) is = refl
datum_small _ is = absurd cc

value_small : (v : ℕ × Formula) → IsReadableValue v → value_has too_large v ≡ false
value_small v fine = either (nat_lt 2147483647 v.0) (formula_has too_large v.1) (small v.0 fine.0) (datum_small v.1 fine.1)

part_small : (p : PresetPart) → IsReadablePart p → preset_has too_large p ≡ false
part_small p fine =
    either (list_any (formula_has too_large) p.places) (list_any (value_has too_large) p.values) (each_small (formula_has too_large) IsReadablePlace place_small p.places fine.0)
    (each_small (value_has too_large) IsReadableValue value_small p.values fine.1)

-- ---- the tokens of a format ----

abbrev HasSmall : List Token → Type 0
HasSmall k = list_any is_large k ≡ false

count_small : (n : ℕ) (one : Bool) (k : List Token) → n ≤ 65535 → HasSmall k → HasSmall (count_tokens (cond one None (Some n)) k)
count_small n true k low all = all
count_small n false k low all = either (nat_lt 2147483647 n) (list_any is_large k) (small n (omega (arith, low))) all

-- a letter and a width
width_small : (c w : ℕ) → w ≤ 65535 → width_is_large (c ∷ decimal w) ≡ false
width_small c w low =
    let r = width_digits w low in
    let all = r.all in
    let small_value : nat_lt 2147483647 (value_after 0 (decimal w)) ≡ false = small (value_after 0 (decimal w)) (let value = r.value in omega (arith, value, low)) in
    rw (all, small_value) refl

edit_small : (n w : ℕ) (kind : EditKind) (k : List Token) → n ≤ 65535 → w ≤ 65535 → HasSmall k → HasSmall (spell_item (item_of n (Takes kind w)) k)
edit_small n w kind k low narrow all =
    count_small n (n == 1) (t.Word (edit_letter kind ∷ decimal w) ∷ k) low (either (width_is_large (edit_letter kind ∷ decimal w)) (list_any is_large k) (width_small (edit_letter kind) w narrow) all)

item_small : (n : ℕ) (s : Step) (k : List Token) → IsReadableStep n s → HasSmall k → HasSmall (spell_item (item_of n s) k)
item_small n (Takes edits.Whole w) k fine all = edit_small n w edits.Whole k fine.0 fine.1 all
item_small n (Takes edits.Truth w) k fine all = edit_small n w edits.Truth k fine.0 fine.1 all
item_small n (Takes edits.Letter w) k fine all = edit_small n w edits.Letter k fine.0 (let one = fine.1 in omega (arith, one)) all
item_small n (Blanks m) k fine all = either (nat_lt 2147483647 m) (list_any is_large k) (small m (let low = fine.1 in omega (arith, low))) all
item_small n (Chars text) k fine all = all
item_small n Slash k fine all = all

point_small : (beside : Bool) (items : Items) (k : List Token) → HasSmall (spell_items items k) → HasSmall (spell_items (cond beside items (Then Point items)) k)
point_small true items k all = all
point_small false items k all = all

pointed_small : (beside : Bool) (rest : Fields) (items : Items) (k : List Token) → HasSmall (spell_items items k) → HasSmall (spell_items (pointed beside rest items) k)
pointed_small beside NoField items k all = all
pointed_small beside (Single n s rest) items k all = point_small (beside || is_slash s) items k all
pointed_small beside (Nested n inside rest) items k all = point_small beside items k all

fields_small : (fs : Fields) (k : List Token) → AreReadableFields fs → HasSmall k → HasSmall (spell_items (written fs) k)
fields_small NoField k fine all = all
fields_small (Single n s rest) k fine all =
    item_small n s (spell_items (pointed (is_slash s) rest (written rest)) k) fine.0 (pointed_small (is_slash s) rest (written rest) k (fields_small rest k fine.1 all))
fields_small (Nested n inside rest) k fine all =
    count_small n (n == 1) (t.Open ∷ spell_items (written inside) (t.Close ∷ spell_items (pointed false rest (written rest)) k)) fine.0
    (fields_small inside (t.Close ∷ spell_items (pointed false rest (written rest)) k) fine.1 (pointed_small false rest (written rest) k (fields_small rest k fine.2 all)))

-- ---- the statements ----

record_small : (u : Par) (l : ℕ) (es : Entries) → is_readable_par u ≡ true → IsLabelInRange l → AreReadableEntries es → (par_has too_large u || nat_lt 2147483647 l || entries_have too_large es) ≡ false
record_small u l es fine low all =
    let unit : par_has too_large u ≡ false = par_small u fine in
    let label : nat_lt 2147483647 l ≡ false = small l low in
    let list : entries_have too_large es ≡ false = entries_small es all in
    rw (unit, label, list) refl

branch_small : (a : Act) → IsReadableBranch a → act_has too_large a ≡ false
branch_small a (assignment x e place left right) = either (formula_has too_large x) (formula_has too_large e) (formula_small x left.readable) (formula_small e right.readable)
branch_small a (jump l low) = small l low
branch_small a (computed l ls x low all name) =
    let first : nat_lt 2147483647 l ≡ false = small l low in
    let others : list_any too_large.number ls ≡ false = labels_small ls all in
    rw (first, others) refl
branch_small a (sign e l m n fine below zero_label above) =
    let condition : formula_has too_large e ≡ false = formula_small e fine.readable in
    let one : nat_lt 2147483647 l ≡ false = small l below in
    let two : nat_lt 2147483647 m ≡ false = small m zero_label in
    let three : nat_lt 2147483647 n ≡ false = small n above in
    rw (condition, one, two, three) refl
branch_small a (bare_call x name) = refl
branch_small a (call x e es name first others) = either (formula_has too_large e) (formulas_have too_large (chained es)) (argument_small e first.readable) (arguments_small es others)
branch_small a (read u l es fine low all) = record_small u l es fine low all
branch_small a (write u l es fine low all) = record_small u l es fine low all
branch_small a continuation = refl
branch_small a stop = refl
branch_small a (stop_number n low) = refl
branch_small a return = refl

pub act_small : (a : Act) → IsReadableAct a → act_has too_large a ≡ false
act_small a (branch b readable) = branch_small b readable
act_small a (conditional e b fine readable) = either (formula_has too_large e) (act_has too_large b) (formula_small e fine.readable) (branch_small b readable)
act_small a (loop l x first last step low name ra rb rc) =
    let label : nat_lt 2147483647 l ≡ false = small l low in
    let from : par_has too_large first ≡ false = par_small first ra in
    let to : par_has too_large last ≡ false = par_small last rb in
    let by : par_has too_large step ≡ false = par_small step rc in
    rw (label, from, to, by) refl
act_small a (format fs all) = refl
act_small a (typed w d ds first others) = either (declared_has too_large d) (list_any (declared_has too_large) ds) (declared_small d first) (names_small ds others)
act_small a (dimension d ds first others) = either (declared_has too_large d) (list_any (declared_has too_large) ds) (declared_small d first) (names_small ds others)
act_small a (common areas fine) = each_small (area_has too_large) IsReadableArea area_small areas fine
act_small a (equivalence groups fine) = each_small (list_any (formula_has too_large)) IsReadableGroup group_small groups fine
act_small a (preset parts fine) = each_small (preset_has too_large) IsReadablePart part_small parts fine

-- only a FORMAT asks its tokens
unasked : (a : Act) → IsReadableBranch a → (k : List Token) → format_is_large a k ≡ false
unasked a (assignment x e place left right) k = refl
unasked a (jump l low) k = refl
unasked a (computed l ls x low all name) k = refl
unasked a (sign e l m n fine below zero_label above) k = refl
unasked a (bare_call x name) k = refl
unasked a (call x e es name first others) k = refl
unasked a (read u l es fine low all) k = refl
unasked a (write u l es fine low all) k = refl
unasked a continuation k = refl
unasked a stop k = refl
unasked a (stop_number n low) k = refl
unasked a return k = refl

tokens_small : (a : Act) (readable : IsReadableAct a) → format_is_large a (act_tokens a readable) ≡ false
tokens_small a (branch b readable) = unasked b readable (act_tokens b (branch b readable))
tokens_small a (conditional e b fine readable) = refl
tokens_small a (loop l x first last step low name ra rb rc) = refl
tokens_small a (format fs all) = fields_small fs (t.Close ∷ []) all refl
tokens_small a (typed w d ds first others) = refl
tokens_small a (dimension d ds first others) = refl
tokens_small a (common areas fine) = refl
tokens_small a (equivalence groups fine) = refl
tokens_small a (preset parts fine) = refl

pub no_large : (a : Act) (readable : IsReadableAct a) → (act_has too_large a || format_is_large a (act_tokens a readable)) ≡ false
no_large a readable = either (act_has too_large a) (format_is_large a (act_tokens a readable)) (act_small a readable) (tokens_small a readable)
