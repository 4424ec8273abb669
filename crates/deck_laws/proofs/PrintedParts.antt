-- The texts of parts of sound statements have the characters of cards alone.
use Rattle.std.proofs.Common.{◌≡◌, ℕ, ◌≤◌, pos, negsuc, Bool, true, false, cond, List, [], ◌∷◌, ◌++◌, length, refl, arith}
use Rattle.std.specs.Prelude.{◌==◌, ◌||◌, decimal}
use Rattle.std.specs.List.{list_all, AllByRecursion}
use Rattle.std.proofs.lemmas.Bool.{leb-true, and_parts, and_from}
use Rattle.std.proofs.lemmas.Bool.Decides.{nat_tests}
use Rattle.f66_tree.specs.declared.editing.EditKind.{EditKind}
use Rattle.f66_tree.specs.declared.editing.EditKind.TheVariants as edits
use Rattle.f66_tree.specs.declared.expression.Operator.{Operator}
use Rattle.f66_tree.specs.declared.expression.Operator.TheVariants.{Add, Sub, Mul, Div, Power, Lt, Le, Eq, Ne, Ge, Gt, And, Or}
use Rattle.f66_tree.specs.Fields.{Step, Takes, Blanks, Chars, Slash, Fields, NoField, Single, Group as Nested}
use Rattle.f66_tree.specs.Syntax.{Text, Formula, Int, Truth, Letter, Ref, Item, Group, Plus, Minus, Not, Pair, Formulas, NoFormula, AndFormula, Par, Constant, Named, Declared, Entry, One, Many, Entries, NoEntry, AndEntry}
use Rattle.f66_tree.specs.Views.{chained}
use Rattle.f66_names.specs.Shapes as shapes
use Rattle.unit_rules.specs.Forms.{is_passed_form, are_passed_forms}
use Rattle.stmt_text.specs.Texts.{operator_text, formula_text, formulas_text, more_formulas_text, more_commas, in_parentheses, label_text, par_text, declared_text, is_one, step_text, loop_text, entry_text, entries_text, more_entries_text, edit_letter, count_text, step_of_format, is_slash, separated, fields_text}
use Rattle.card_reader.specs.Cards.{is_printable}
use Rattle.stmt_reader.specs.Levels.{is_name}
use Rattle.deck.specs.Readable.{is_readable, are_readable, are_some_readable, is_readable_par}
use Rattle.deck.specs.ReadableStatements.{IsLabelInRange, IsReadableArgument, IsReadableDeclared, IsReadableEntry, AreReadableEntries, IsReadableStep, AreReadableFields}
use Rattle.deck.proofs.LexingLemmas.{is_alnum}
use Rattle.deck.proofs.BranchesRead.{digits_all, name_alnum}

abbrev pub ArePrintable : List ℕ → Type 0
ArePrintable k = list_all is_printable k ≡ true

letter_printable : (c : ℕ) → is_alnum c ≡ true → is_printable c ≡ true
letter_printable c is = grind (arith, nat_tests, is)

pub before : (xs k : List ℕ) → ArePrintable xs → ArePrintable k → ArePrintable (xs ++ k)
before [] k all more = more
before (x ∷ xs) k all more =
    let both = and_parts (is_printable x) (list_all is_printable xs) all in
    and_from (is_printable x) (list_all is_printable (xs ++ k)) both.0 (before xs k both.1 more)

pub letters : (xs : List ℕ) → list_all is_alnum xs ≡ true → ArePrintable xs
letters [] all = refl
letters (x ∷ xs) all =
    let both = and_parts (is_alnum x) (list_all is_alnum xs) all in
    and_from (is_printable x) (list_all is_printable xs) (letter_printable x both.0) (letters xs both.1)

pub name_printable : (x k : List ℕ) → is_name x ≡ true → ArePrintable k → ArePrintable (x ++ k)
name_printable x k is all = before x k (letters x (name_alnum x is)) all

pub number_printable : (n : ℕ) → n ≤ 2147483647 → ArePrintable (decimal n)
number_printable n low = letters (decimal n) (digits_all n low)

-- ---- expressions ----

operator_printable : (op : Operator) (k : List ℕ) → ArePrintable k → ArePrintable (operator_text op ++ k)
operator_printable Add k all = all
operator_printable Sub k all = all
operator_printable Mul k all = all
operator_printable Div k all = all
operator_printable Power k all = all
operator_printable Lt k all = all
operator_printable Le k all = all
operator_printable Eq k all = all
operator_printable Ne k all = all
operator_printable Ge k all = all
operator_printable Gt k all = all
operator_printable And k all = all
operator_printable Or k all = all

mutual
  pub formula_printable : (e : Formula) (k : List ℕ) → is_readable e ≡ true → ArePrintable k → ArePrintable (formula_text e k)
  formula_printable (Int (pos n)) k is all = before (decimal n) k (number_printable n (leb-true n 2147483647 is)) all
  formula_printable (Int (negsuc n)) k is all = absurd cc
  formula_printable (Truth true) k is all = all
  formula_printable (Truth false) k is all = all
  formula_printable (Letter c) k is all = absurd cc
  formula_printable (Ref x) k is all = name_printable x k is all
  formula_printable (Item x es) k is all =
      let both = and_parts (is_name x) (are_some_readable es) is in
      name_printable x (40 ∷ formulas_text es (41 ∷ k)) both.0 (some_printable es (41 ∷ k) both.1 all)
  formula_printable (Group a) k is all = formula_printable a (41 ∷ k) is all
  formula_printable (Plus a) k is all = formula_printable a k is all
  formula_printable (Minus a) k is all = formula_printable a k is all
  formula_printable (Not a) k is all = formula_printable a k is all
  formula_printable (Pair op a b) k is all =
      let both = and_parts (is_readable a) (is_readable b) is in
      formula_printable a (operator_text op ++ formula_text b k) both.0 (operator_printable op (formula_text b k) (formula_printable b k both.1 all))

  some_printable : (es : Formulas) (k : List ℕ) → are_some_readable es ≡ true → ArePrintable k → ArePrintable (formulas_text es k)
  some_printable NoFormula k is all = absurd cc
  some_printable (AndFormula e es) k is all =
      let both = and_parts (is_readable e) (are_readable es) is in
      formula_printable e (more_formulas_text es k) both.0 (more_printable es k both.1 all)

  more_printable : (es : Formulas) (k : List ℕ) → are_readable es ≡ true → ArePrintable k → ArePrintable (more_formulas_text es k)
  more_printable NoFormula k is all = all
  more_printable (AndFormula e es) k is all =
      let both = and_parts (is_readable e) (are_readable es) is in
      formula_printable e (more_formulas_text es k) both.0 (more_printable es k both.1 all)

-- an argument of a CALL
pub argument_printable : (e : Formula) (k : List ℕ) → IsReadableArgument e → is_passed_form e ≡ true → ArePrintable k → ArePrintable (formula_text e k)
argument_printable (Letter c) k fine is all = and_from (is_printable c) (list_all is_printable k) is all
argument_printable (Int z) k fine is all = formula_printable (Int z) k fine.readable all
argument_printable (Truth b) k fine is all = formula_printable (Truth b) k refl all
argument_printable (Ref x) k fine is all = formula_printable (Ref x) k fine.readable all
argument_printable (Item x es) k fine is all = formula_printable (Item x es) k fine.readable all
argument_printable (Group a) k fine is all = formula_printable (Group a) k fine.readable all
argument_printable (Plus a) k fine is all = formula_printable (Plus a) k fine.readable all
argument_printable (Minus a) k fine is all = formula_printable (Minus a) k fine.readable all
argument_printable (Not a) k fine is all = formula_printable (Not a) k fine.readable all
argument_printable (Pair op a b) k fine is all = formula_printable (Pair op a b) k fine.readable all

pub arguments_printable : (es : List Formula) (k : List ℕ) → AllByRecursion IsReadableArgument es → are_passed_forms (chained es) ≡ true → ArePrintable k → ArePrintable (more_formulas_text (chained es) k)
arguments_printable [] k fine is all = all
arguments_printable (e ∷ es) k fine is all =
    let both = and_parts (is_passed_form e) (are_passed_forms (chained es)) is in
    argument_printable e (more_formulas_text (chained es) k) fine.0 both.0 (arguments_printable es k fine.1 both.1 all)

-- ---- lists ----

pub labels_printable : (ls : List ℕ) (k : List ℕ) → AllByRecursion IsLabelInRange ls → ArePrintable k → ArePrintable (more_commas label_text ls k)
labels_printable [] k low all = all
labels_printable (l ∷ ls) k low all = before (decimal l) (more_commas label_text ls k) (number_printable l low.0) (labels_printable ls k low.1 all)

pub par_printable : (p : Par) (k : List ℕ) → is_readable_par p ≡ true → ArePrintable k → ArePrintable (par_text p k)
par_printable (Constant (pos n)) k is all = before (decimal n) k (number_printable n (leb-true n 2147483647 is)) all
par_printable (Constant (negsuc n)) k is all = absurd cc
par_printable (Named x) k is all = name_printable x k is all

pars_printable : (ps : List Par) (k : List ℕ) → list_all is_readable_par ps ≡ true → ArePrintable k → ArePrintable (more_commas par_text ps k)
pars_printable [] k is all = all
pars_printable (p ∷ ps) k is all =
    let both = and_parts (is_readable_par p) (list_all is_readable_par ps) is in
    par_printable p (more_commas par_text ps k) both.0 (pars_printable ps k both.1 all)

sizes_printable : (ps : List Par) (k : List ℕ) → list_all is_readable_par ps ≡ true → ArePrintable k → ArePrintable (in_parentheses par_text ps k)
sizes_printable [] k is all = all
sizes_printable (p ∷ ps) k is all =
    let both = and_parts (is_readable_par p) (list_all is_readable_par ps) is in
    par_printable p (more_commas par_text ps (41 ∷ k)) both.0 (pars_printable ps (41 ∷ k) both.1 all)

pub declared_printable : (d : Declared) (k : List ℕ) → IsReadableDeclared d → ArePrintable k → ArePrintable (declared_text d k)
declared_printable d k fine all =
    let both = and_parts (is_name d.name) (list_all is_readable_par d.sizes) fine.readable in
    name_printable d.name (in_parentheses par_text d.sizes k) both.0 (sizes_printable d.sizes k both.1 all)

pub names_printable : (ds : List Declared) (k : List ℕ) → AllByRecursion IsReadableDeclared ds → ArePrintable k → ArePrintable (more_commas declared_text ds k)
names_printable [] k fine all = all
names_printable (d ∷ ds) k fine all = declared_printable d (more_commas declared_text ds k) fine.0 (names_printable ds k fine.1 all)

-- ---- what READ and WRITE go over ----

step_printable : (c : Par) (one : Bool) (k : List ℕ) → is_readable_par c ≡ true → ArePrintable k → ArePrintable (cond one k (44 ∷ par_text c k))
step_printable c true k is all = all
step_printable c false k is all = par_printable c k is all

pub loop_printable : (x : Text) (a b c : Par) (k : List ℕ) → is_name x ≡ true → is_readable_par a ≡ true → is_readable_par b ≡ true → is_readable_par c ≡ true → ArePrintable k → ArePrintable (loop_text x a b c k)
loop_printable x a b c k name ra rb rc all =
    name_printable x (61 ∷ par_text a (44 ∷ par_text b (step_text c k))) name (par_printable a (44 ∷ par_text b (step_text c k)) ra (par_printable b (step_text c k) rb (step_printable c (is_one c) k rc all)))

mutual
  entry_printable : (e : Entry) (k : List ℕ) → IsReadableEntry e → ArePrintable k → ArePrintable (entry_text e k)
  entry_printable (One e) k fine all = formula_printable e k fine.1.readable all
  entry_printable (Many NoEntry x a b c) k fine all = absurd fine.0
  entry_printable (Many (AndEntry e es) x a b c) k fine all =
      entry_printable e (more_entries_text es (44 ∷ loop_text x a b c (41 ∷ k))) fine.0.0 (entries_more es (44 ∷ loop_text x a b c (41 ∷ k)) fine.0.1 (loop_printable x a b c (41 ∷ k) fine.1 fine.2 fine.3 fine.4 all))

  entries_more : (es : Entries) (k : List ℕ) → AreReadableEntries es → ArePrintable k → ArePrintable (more_entries_text es k)
  entries_more NoEntry k fine all = all
  entries_more (AndEntry e es) k fine all = entry_printable e (more_entries_text es k) fine.0 (entries_more es k fine.1 all)

pub entries_printable : (es : Entries) (k : List ℕ) → AreReadableEntries es → ArePrintable k → ArePrintable (entries_text es k)
entries_printable NoEntry k fine all = all
entries_printable (AndEntry e es) k fine all = entry_printable e (more_entries_text es k) fine.0 (entries_more es k fine.1 all)

-- ---- formats ----

small_printable : (n : ℕ) → n ≤ 65535 → ArePrintable (decimal n)
small_printable n low = number_printable n (omega (arith, low))

count_printable : (n : ℕ) (one : Bool) (k : List ℕ) → n ≤ 65535 → ArePrintable k → ArePrintable (cond one k (decimal n ++ k))
count_printable n true k low all = all
count_printable n false k low all = before (decimal n) k (small_printable n low) all

edit_printable : (n : ℕ) (kind : EditKind) (w : ℕ) (k : List ℕ) → n ≤ 65535 → w ≤ 65535 → ArePrintable k → ArePrintable (count_text n (edit_letter kind ∷ (decimal w ++ k)))
edit_printable n edits.Whole w k low narrow all = count_printable n (n == 1) (73 ∷ (decimal w ++ k)) low (before (decimal w) k (small_printable w narrow) all)
edit_printable n edits.Truth w k low narrow all = count_printable n (n == 1) (76 ∷ (decimal w ++ k)) low (before (decimal w) k (small_printable w narrow) all)
edit_printable n edits.Letter w k low narrow all = count_printable n (n == 1) (65 ∷ (decimal w ++ k)) low (before (decimal w) k (small_printable w narrow) all)

field_printable : (n : ℕ) (s : Step) (k : List ℕ) → IsReadableStep n s → shapes.is_printed_step s ≡ true → ArePrintable k → ArePrintable (step_of_format n s k)
field_printable n (Takes edits.Whole w) k fine is all = edit_printable n edits.Whole w k fine.0 fine.1 all
field_printable n (Takes edits.Truth w) k fine is all = edit_printable n edits.Truth w k fine.0 fine.1 all
field_printable n (Takes edits.Letter w) k fine is all = edit_printable n edits.Letter w k fine.0 (let one = fine.1 in omega (arith, one)) all
field_printable n (Blanks m) k fine is all = before (decimal m) (88 ∷ k) (small_printable m fine.1) all
field_printable n (Chars text) k fine is all = before (decimal (length text) ++ 72 ∷ text) k (before (decimal (length text)) (72 ∷ text) (small_printable (length text) fine.1) is) all
field_printable n Slash k fine is all = all

comma_printable : (beside : Bool) (k : List ℕ) → ArePrintable k → ArePrintable (cond beside k (44 ∷ k))
comma_printable true k all = all
comma_printable false k all = all

separated_printable : (beside : Bool) (rest : Fields) (k : List ℕ) → ArePrintable k → ArePrintable (separated beside rest k)
separated_printable beside NoField k all = all
separated_printable beside (Single n s rest) k all = comma_printable (beside || is_slash s) k all
separated_printable beside (Nested n inside rest) k all = comma_printable beside k all

pub fields_printable : (fs : Fields) (k : List ℕ) → AreReadableFields fs → shapes.are_printed fs ≡ true → ArePrintable k → ArePrintable (fields_text fs k)
fields_printable NoField k fine is all = all
fields_printable (Single n s rest) k fine is all =
    let both = and_parts (shapes.is_printed_step s) (shapes.are_printed rest) is in
    field_printable n s (separated (is_slash s) rest (fields_text rest k)) fine.0 both.0 (separated_printable (is_slash s) rest (fields_text rest k) (fields_printable rest k fine.1 both.1 all))
fields_printable (Nested n inside rest) k fine is all =
    let both = and_parts (shapes.are_printed inside) (shapes.are_printed rest) is in
    count_printable n (n == 1) (40 ∷ fields_text inside (41 ∷ separated false rest (fields_text rest k))) fine.0
    (fields_printable inside (41 ∷ separated false rest (fields_text rest k)) fine.1 both.0 (separated_printable false rest (fields_text rest k) (fields_printable rest k fine.2 both.1 all)))
