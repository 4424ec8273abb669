-- The statements of the unit that a unit without a fault becomes fit their cards, as what its source says does.
use Rattle.std.proofs.Common.{◌≡◌, ℕ, ◌+◌, ◌≤◌, Bool, true, false, true≢false, List, [], ◌∷◌, ◌++◌, length, Option, Some, None, refl, sym, ◌∙◌, arith}
use Rattle.std.specs.Prelude.{◌||◌, if◌then◌else◌, unsigned_abs}
use Rattle.std.specs.List.{list_any, AllByRecursion}
use Rattle.std.proofs.lemmas.Bool.{or_parts, ltb-false}
use Rattle.std.proofs.lemmas.List.{length-append}
use Rattle.std.proofs.lemmas.List.Folds.{list_any-append}
use Rattle.ground.specs.declared.place.Place.{Place}
use Rattle.rule_table.specs.declared.rule.Rule.TheVariants.{NameTooLong}
use Rattle.f66_tree.specs.Units.{is_main, name_of}
use Rattle.f66_tree.specs.Syntax.{Header, MainUnit, SubUnit, FuncUnit, DataUnit, Text, Formula, Formulas, NoFormula, AndFormula, Par, Constant, Named, Act, Assign, Sign, When, Loop, Invoke, Line}
use Rattle.f66_names.specs.Uses.{Usage, uses_of_par}
use Rattle.f66_names.specs.NameRules.{has_name, is_long}
use Rattle.unit_rules.specs.Heads.{header_names}
use Rattle.unit_rules.specs.UnitRules.{has_long_name}
use Rattle.stmt_text.specs.Characters.{comma, equals}
use Rattle.stmt_text.specs.Texts.{par_text, is_one, step_text, loop_text}
use Rattle.stmt_text.specs.Fitting.{FitsCards}
use Rattle.stmt_text.proofs.TextLengths.{length-decimal}
use Rattle.rat_tree.specs.Syntax.{Commands, RatRoutine}
use Rattle.rat_check.specs.Parts.{Form, Bare, RepeatHead, Statement, Condition, Selector, CaseList, ForHead, DoHead, LoopExit, ReturnHead, Part, unit_parts}
use Rattle.rat_check.specs.Said.{said_by, said_in, value_acts, said_if_any, condition_if_any, returned_if_any}
use Rattle.rat_check.specs.LongTexts.{is_long_expression, are_some_long, is_long_if_any, is_long_test, is_long_form}
use Rattle.rat_check.specs.Rules.{is_plain, is_simple, is_ratfor, returns_wrong, Before, behind, nothing_before, UnitRules, break_names}
use Rattle.rat_check.specs.FirstFault.{unit_whole}
use Rattle.rat_check.proofs.CleanLemmas.{and_true, AllKeep, Passed}
use Rattle.rat_lower.specs.Code.{have_switch, all_code, ends_itself, end_unless, declared_if, unit_code}
use Rattle.rat_lower.specs.Emitted.{spare_name}
use Rattle.rat_lower.proofs.Accepted.NoFault.{AllOf}
use Rattle.rat_lower.proofs.Checks.{says}
use Rattle.rat_lower.proofs.Soundness.Kept.{AllSay, good_unit}
use Rattle.rat_lower.proofs.Soundness.Texts.{LeavesRoom, Fits, condition_fits, value_fits, store_fits, return_fits, loop_fits, fits_keep, fits_values, declaration_fits, fit_cards}

-- ---- the words of a `do` ----

abbrev any_long : List Usage → Bool
any_long us = list_any (λ (u : Usage). is_long u.name) us

par_length : (p : Par) (k : List ℕ) → any_long (uses_of_par p) ≡ false → length (par_text p k) ≤ 64 + length k
par_length (Constant z) k short = length-decimal (unsigned_abs z) k
par_length (Named x) k short = omega (arith, length-append x k, ltb-false 6 (length x) (or_parts (is_long x) false short).0)

step_length : (p : Par) → any_long (uses_of_par p) ≡ false → length (step_text p []) ≤ 65
step_length p short = by (is_one p) (par_length p [] short)
  where
    by : (v : Bool) → length (par_text p []) ≤ 64 + 0 → length (if v then [] else comma ∷ par_text p []) ≤ 65
    by true h = omega arith
    by false h = omega (arith, h)

words_length : (x : Text) (a b c : Par) → has_name is_long (Loop 0 x a b c) ≡ false → length (loop_text x a b c []) ≤ 1200
words_length x a b c short =
    let first = or_parts (is_long x) (any_long (uses_of_par a ++ (uses_of_par b ++ uses_of_par c))) short in
    let second = or_parts (any_long (uses_of_par a)) (any_long (uses_of_par b ++ uses_of_par c)) (sym (list_any-append (λ (u : Usage). is_long u.name) (uses_of_par a) (uses_of_par b ++ uses_of_par c)) ∙ first.1) in
    let third = or_parts (any_long (uses_of_par b)) (any_long (uses_of_par c)) (sym (list_any-append (λ (u : Usage). is_long u.name) (uses_of_par b) (uses_of_par c)) ∙ second.1) in
    omega (
      arith,
      length-append x (equals ∷ par_text a (comma ∷ par_text b (step_text c []))),
      ltb-false 6 (length x) first.0,
      par_length a (comma ∷ par_text b (step_text c [])) second.0,
      par_length b (step_text c []) third.0,
      step_length c third.1,
    )

-- ---- what a part says ----

of_append : (xs ys : List Act) → AllOf Fits xs → AllOf Fits ys → AllOf Fits (xs ++ ys)
of_append [] ys h k = k
of_append (x ∷ xs) ys h k = (h.0, of_append xs ys h.1 k)

plain_room : (a : Act) → is_plain a ≡ true → LeavesRoom a
plain_room (Sign e l m n) plain = absurd (true≢false (sym plain))
plain_room (When e a) plain = absurd (true≢false (sym plain))
plain_room (Loop l x a b c) plain = absurd (true≢false (sym plain))
plain_room _ plain = tt

values_fit : (es : Formulas) → are_some_long es ≡ false → AllOf Fits (value_acts es)
values_fit NoFormula short = tt
values_fit (AndFormula e es) short = let k = or_parts (is_long_expression e) (are_some_long es) short in (value_fits e (ltb-false 1200 _ k.0), values_fit es k.1)

test_fits : (o : Option Formula) → is_long_test o ≡ false → AllOf Fits (condition_if_any o)
test_fits None short = tt
test_fits (Some e) short = (condition_fits e (ltb-false 1200 _ short), tt)

step_fits : (o : Option Act) → is_simple o ≡ true → is_long_if_any o ≡ false → AllOf Fits (said_if_any o)
step_fits None simple short = tt
step_fits (Some (Assign x e)) simple short = ((ltb-false 1320 _ short, tt), tt)
step_fits (Some (Invoke x es)) simple short = ((ltb-false 1320 _ short, tt), tt)
step_fits (Some _) simple short = absurd (true≢false (sym simple))

-- a value that a function returns, which has a name of at most six characters
returned_fits : (h : Header) (e : Formula) → is_long (name_of h) ≡ false → returns_wrong h (ReturnHead (Some e)) ≡ false → is_long_expression e ≡ false → AllOf Fits (returned_if_any h (Some e))
returned_fits MainUnit e short right fit = absurd (true≢false right)
returned_fits (SubUnit x ds) e short right fit = absurd (true≢false right)
returned_fits DataUnit e short right fit = absurd (true≢false right)
returned_fits (FuncUnit t x ds) e short right fit = (store_fits x e (ltb-false 6 (length x) short) (ltb-false 1200 _ fit), tt)

module _ (u : UnitRules) (own_short : is_long (name_of u.context.header) ≡ false) where
  form_fits : (form : Form) (n : ℕ) → is_ratfor form ≡ true → returns_wrong u.context.header form ≡ false → is_long_form form ≡ false → break_names u.context u.said n (said_by u.context.header form) NameTooLong ≡ false → AllOf Fits (said_by u.context.header form)
  form_fits Bare n built right short named = tt
  form_fits RepeatHead n built right short named = tt
  form_fits (Statement a) n built right short named = ((ltb-false 1320 _ short, plain_room a built), tt)
  form_fits (Condition e) n built right short named = (condition_fits e (ltb-false 1200 _ short), tt)
  form_fits (Selector e) n built right short named = (value_fits e (ltb-false 1200 _ short), tt)
  form_fits (CaseList es second) n built right short named = values_fit es short
  form_fits (ForHead a e b) n built right short named =
      let simple = and_true (is_simple a) (is_simple b) built in
      let first = or_parts (is_long_if_any a) (is_long_test e || is_long_if_any b) short in
      let more = or_parts (is_long_test e) (is_long_if_any b) first.1 in
      of_append (said_if_any a) (condition_if_any e ++ said_if_any b) (step_fits a simple.0 first.0) (of_append (condition_if_any e) (said_if_any b) (test_fits e more.0) (step_fits b simple.1 more.1))
  form_fits (DoHead x a b c) n built right short named = (loop_fits 0 x a b c (words_length x a b c (or_parts (has_name is_long (Loop 0 x a b c)) false (or_parts (has_long_name (Loop 0 x a b c)) false named).0).0), tt)
  form_fits (LoopExit m) n built right short named = tt
  form_fits (ReturnHead None) n built right short named = tt
  form_fits (ReturnHead (Some e)) n built right short named = returned_fits u.context.header e own_short right short

  said_fits : (b : Before) (vs : List Part) → AllKeep u b vs → AllOf Fits (said_in u.context.header vs)
  said_fits b [] h = tt
  said_fits b (v ∷ vs) h =
      of_append (said_by u.context.header v.form) (said_in u.context.header vs) (form_fits v.form b.said h.0.ratfor h.0.returned h.0.fits (h.0.named NameTooLong)) (said_fits (behind u.context.header b v) vs h.1)

-- ---- the unit ----

-- the header's names are short
own_short : (h : Header) → list_any is_long (header_names h) ≡ false → is_long (name_of h) ≡ false
own_short MainUnit e = refl
own_short DataUnit e = refl
own_short (SubUnit x ds) e = (or_parts (is_long x) _ e).0
own_short (FuncUnit t x ds) e = (or_parts (is_long x) _ e).0

module _ (unit : RatRoutine) (accepted : Passed unit.header (unit_parts unit.body)) (made : ℕ → ℕ) (last : Place) where
  abbrev h : Header
  h = unit.header

  abbrev ss : Commands
  ss = unit.body

  abbrev spare : Text
  spare = spare_name unit

  abbrev added : Bool
  added = ends_itself h (all_code made spare (name_of h) ss 0 [] [])

  abbrev code1 : List Line
  code1 = all_code made spare (name_of h) ss 0 [] (end_unless (is_main h) added last)

  code1_fits : AllSay Fits code1
  code1_fits =
      good_unit Fits made spare (name_of h) fits_keep ss (is_main h) added last (λ e. return_fits) (λ e. fits_values spare refl)
      (says h ss accepted Fits return_fits (said_fits (unit_whole h (unit_parts ss)) (own_short h (accepted.headed NameTooLong)) nothing_before (unit_parts ss) accepted.keep))

  pub unit_fits : AllByRecursion FitsCards (unit_code made spare h unit.place last ss)
  unit_fits = by (have_switch ss)
    where
      by : (v : Bool) → AllByRecursion FitsCards (declared_if v unit.place spare code1)
      by true = (declaration_fits spare refl, fit_cards code1 code1_fits)
      by false = fit_cards code1 code1_fits
