-- The texts of sound statements have the characters of cards alone.
use Rattle.std.proofs.Common.{◌≡◌, ℕ, true, false, List, [], ◌∷◌, ◌++◌, Some, None, refl}
use Rattle.std.specs.Prelude.{decimal}
use Rattle.std.specs.Fmt.{digits}
use Rattle.std.specs.List.{list_all, AllByRecursion}
use Rattle.std.proofs.lemmas.Bool.{and_parts}
use Rattle.f66_tree.specs.declared.declaration.TypeWord.TheVariants.{Integer, Logical, Other}
use Rattle.f66_tree.specs.Syntax.{Text, Par, Declared, Entries, Header, MainUnit, SubUnit, FuncUnit, DataUnit, Act, When}
use Rattle.f66_tree.specs.Views.{chained}
use Rattle.f66_names.specs.Shapes as shapes
use Rattle.unit_rules.specs.Forms.{is_passed_form, are_passed_forms, has_form}
use Rattle.stmt_text.specs.Texts.{formula_text, formulas_text, more_formulas_text, more_commas, in_parentheses, label_text, name_text, par_text, declared_text, loop_text, entries_text, act_text, header_text}
use Rattle.card_reader.specs.Cards.{is_printable}
use Rattle.deck.specs.Readable.{is_readable_par}
use Rattle.deck.specs.ReadableStatements.{IsLabelInRange, IsReadableDeclared, AreReadableEntries, IsReadableBranch, assignment, jump, computed, sign, bare_call, call, read, write, continuation, stop, stop_number, return, IsReadableAct, branch, conditional, loop, format, typed, dimension, common, equivalence, preset}
use Rattle.deck_laws.specs.Headers.{IsShortName, IsReadableHeader}
use Rattle.deck.proofs.ChoicesRead.{stop_letters}
use Rattle.deck_laws.proofs.PrintedParts.{ArePrintable, before, letters, name_printable, number_printable, formula_printable, argument_printable, arguments_printable, labels_printable, par_printable, declared_printable, names_printable, loop_printable, entries_printable, fields_printable}
use Rattle.deck_laws.proofs.PrintedSpecifications.{areas_printable, groups_printable, presets_printable}

-- ---- statements ----

transfer_printable : (u : Par) (l : ℕ) (es : Entries) → is_readable_par u ≡ true → IsLabelInRange l → AreReadableEntries es → ArePrintable (par_text u (44 ∷ (decimal l ++ 41 ∷ entries_text es [])))
transfer_printable u l es ru low fine = par_printable u (44 ∷ (decimal l ++ 41 ∷ entries_text es [])) ru (before (decimal l) (41 ∷ entries_text es []) (number_printable l low) (entries_printable es [] fine refl))

branch_printable : (a : Act) → IsReadableBranch a → has_form a ≡ true → ArePrintable (act_text a [])
branch_printable a (assignment x e place left right) is = formula_printable x (61 ∷ formula_text e []) left.readable (formula_printable e [] right.readable refl)
branch_printable a (jump l low) is = before (decimal l) [] (number_printable l low) refl
branch_printable a (computed l ls x low all name) is =
    before (decimal l) (more_commas label_text ls (41 ∷ 44 ∷ (x ++ []))) (number_printable l low) (labels_printable ls (41 ∷ 44 ∷ (x ++ [])) all (name_printable x [] name refl))
branch_printable a (sign e l m n fine below zero_label above) is =
    formula_printable e (41 ∷ (((decimal l ++ 44 ∷ decimal m) ++ 44 ∷ decimal n) ++ [])) fine.readable
    (before ((decimal l ++ 44 ∷ decimal m) ++ 44 ∷ decimal n) []
    (before (decimal l ++ 44 ∷ decimal m) (44 ∷ decimal n) (before (decimal l) (44 ∷ decimal m) (number_printable l below) (number_printable m zero_label)) (number_printable n above)) refl)
branch_printable a (bare_call x name) is = name_printable x [] name refl
branch_printable a (call x e es name first others) is =
    let passed = and_parts (shapes.is_name x) (are_passed_forms (chained (e ∷ es))) is in
    let both = and_parts (is_passed_form e) (are_passed_forms (chained es)) passed.1 in
    name_printable x (40 ∷ formulas_text (chained (e ∷ es)) (41 ∷ [])) name (argument_printable e (more_formulas_text (chained es) (41 ∷ [])) first both.0 (arguments_printable es (41 ∷ []) others both.1 refl))
branch_printable a (read u l es ru low all) is = transfer_printable u l es ru low all
branch_printable a (write u l es ru low all) is = transfer_printable u l es ru low all
branch_printable a continuation is = refl
branch_printable a stop is = refl
branch_printable a (stop_number n low) is = before (digits 8 false n) [] (letters (digits 8 false n) (stop_letters n low)) refl
branch_printable a return is = refl

list_printable : (d : Declared) (ds : List Declared) → IsReadableDeclared d → AllByRecursion IsReadableDeclared ds → ArePrintable (declared_text d (more_commas declared_text ds []))
list_printable d ds first others = declared_printable d (more_commas declared_text ds []) first (names_printable ds [] others refl)

pub act_printable : (a : Act) → IsReadableAct a → has_form a ≡ true → list_all is_printable (act_text a []) ≡ true
act_printable a (branch b readable) is = branch_printable b readable is
act_printable a (conditional e b fine readable) is =
    formula_printable e (41 ∷ act_text b []) fine.readable (branch_printable b readable (and_parts (shapes.has_shape (When e b)) (has_form b) is).1)
act_printable a (loop l x first last step low name ra rb rc) is =
    before (decimal l) (32 ∷ loop_text x first last step []) (number_printable l low) (loop_printable x first last step [] name ra rb rc refl)
act_printable a (format fs fine) is = fields_printable fs (41 ∷ []) fine is refl
act_printable a (typed Integer d ds first others) is = list_printable d ds first others
act_printable a (typed Logical d ds first others) is = list_printable d ds first others
act_printable a (typed Other d ds first others) is = list_printable d ds first others
act_printable a (dimension d ds first others) is = list_printable d ds first others
act_printable a (common areas fine) is = areas_printable areas fine
act_printable a (equivalence groups fine) is = groups_printable groups fine
act_printable a (preset parts fine) is = presets_printable parts fine is

-- ---- headers ----

dummies_printable : (ds : List Text) (k : List ℕ) → AllByRecursion IsShortName ds → ArePrintable k → ArePrintable (more_commas name_text ds k)
dummies_printable [] k fine all = all
dummies_printable (d ∷ ds) k fine all = name_printable d (more_commas name_text ds k) fine.0.0 (dummies_printable ds k fine.1 all)

headed_printable : (x : Text) (ds : List Text) → IsShortName x → AllByRecursion IsShortName ds → ArePrintable (x ++ in_parentheses name_text ds [])
headed_printable x [] name fine = name_printable x [] name.0 refl
headed_printable x (d ∷ ds) name fine = name_printable x (40 ∷ (d ++ more_commas name_text ds (41 ∷ []))) name.0 (name_printable d (more_commas name_text ds (41 ∷ [])) fine.0.0 (dummies_printable ds (41 ∷ []) fine.1 refl))

pub header_printable : (h : Header) → IsReadableHeader h → list_all is_printable (header_text h) ≡ true
header_printable MainUnit fine = refl
header_printable (SubUnit x ds) fine = headed_printable x ds fine.0 fine.1
header_printable (FuncUnit w x []) fine = absurd fine
header_printable (FuncUnit None x (d ∷ ds)) fine = headed_printable x (d ∷ ds) fine.0 fine.1
header_printable (FuncUnit (Some Integer) x (d ∷ ds)) fine = headed_printable x (d ∷ ds) fine.0 fine.1
header_printable (FuncUnit (Some Logical) x (d ∷ ds)) fine = headed_printable x (d ∷ ds) fine.0 fine.1
header_printable (FuncUnit (Some Other) x (d ∷ ds)) fine = headed_printable x (d ∷ ds) fine.0 fine.1
header_printable DataUnit fine = refl
