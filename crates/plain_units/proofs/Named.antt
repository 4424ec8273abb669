-- Where the labels of a unit are as they have to be, none is bad, and each that a statement names leads to where it has to.
use Rattle.std.proofs.Common.{◌≡◌, ℕ, ◌≤◌, Bool, true, false, true≢false, List, Option, Some, None, refl, sym, ap, ◌∙◌, arith, option_and_then, ◌||◌}
use Rattle.std.specs.Prelude.{nat_lt, nat_eq, not, ◌==◌}
use Rattle.std.specs.List.{Contains, list_any, slice_get}
use Rattle.std.proofs.lemmas.Bool.{or_from}
use Rattle.std.proofs.lemmas.Bool.{eqb-true}
use Rattle.std.proofs.lemmas.Bool.Decides.{nat_tests}
use Rattle.std.proofs.lemmas.List.Elements.{All-contains_itself, All-weaker}
use Rattle.std.proofs.lemmas.List.Folds.{list_any_none}
use Rattle.rule_table.specs.Words.{is_below, is_some_and}
use Rattle.rule_table.proofs.WordLemmas.{find-first_place}
use Rattle.f66_tree.specs.Syntax.{Act, Line}
use Rattle.f66_tree.specs.Execution.{has_label}
use Rattle.f66_flow.specs.Acts.{is_executable, is_format, branches, formats_named}
use Rattle.f66_flow.specs.Ranges.{label_place, named}
use Rattle.f66_flow.specs.FlowRules.{has_bad_label, leads_nowhere, names_no_format, leads_wrong}
use Rattle.plain_units.specs.Labels.{LeadsTo, HasLabels}
use Rattle.plain_units.proofs.Places.{first_is}

-- a test that no element passes
pub none_of : {X : Type 0} (test : X → Bool) (xs : List X) → ((x : X) → Contains xs x → test x ≡ false) → list_any test xs ≡ false
none_of {X} test xs h = list_any_none test xs (All-weaker (Contains xs) (λ x. test x ≡ false) h xs (All-contains_itself xs))

label_is : (l : ℕ) (o : Option ℕ) → has_label l o ≡ true → o ≡ Some l
label_is l None h = absurd (true≢false (sym h))
label_is l (Some m) h = ap (λ k. Some k) (eqb-true m l h)

is_label : (l : ℕ) (o : Option ℕ) → o ≡ Some l → has_label l o ≡ true
is_label l o e = let same : nat_eq l l ≡ true = grind arith in ap (has_label l) e ∙ same

module _ (lines : List Line) (ok : HasLabels lines) where
  -- the place of a label is that of the statement that has it
  placed : (i l : ℕ) (s : Line) → slice_get lines i ≡ Some s → s.label ≡ Some l → label_place lines l ≡ Some i
  placed i l s e h =
      first_is (λ t. has_label l t.label) lines i s e (is_label l s.label h) (λ j t f k. ok.once j i l t s f e (label_is l t.label k) h)

  leads_well : (test : Act → Bool) (l : ℕ) → LeadsTo test lines l → not (is_some_and (λ s. test s.act) (named lines l)) ≡ false
  leads_well test l to =
      ap (λ o. not (is_some_and (λ s. test s.act) o))
      (find-first_place (λ t. has_label l t.label) lines ∙ ap (option_and_then (slice_get lines)) (placed to.place l to.line to.at to.label) ∙ to.at)
      ∙ ap not to.passes

  pub names_well : (i : ℕ) (s : Line) → slice_get lines i ≡ Some s → leads_wrong lines s.act ≡ false
  names_well i s e =
      or_from (list_any (leads_nowhere lines) (branches s.act)) (list_any (names_no_format lines) (formats_named s.act))
      (none_of (leads_nowhere lines) (branches s.act) (λ l h. leads_well is_executable l (ok.leads i l s e h)))
      (none_of (names_no_format lines) (formats_named s.act) (λ l h. leads_well is_format l (ok.formats i l s e h)))

  pub has_good_label : (i : ℕ) (s : Line) → slice_get lines i ≡ Some s → has_bad_label lines i s ≡ false
  has_good_label i s e = go s.label refl
    where
      go : (o : Option ℕ) → s.label ≡ o → is_some_and (λ l. l == 0 || (nat_lt 99999 l || is_below i (label_place lines l))) o ≡ false
      go None h = refl
      go (Some l) h =
          let within = ok.range i l s e h in
          let low : 1 ≤ l = within.0 in
          let high : l ≤ 99999 = within.1 in
          let some : nat_eq l 0 ≡ false = grind (arith, nat_tests) in
          let no_more : nat_lt 99999 l ≡ false = grind (arith, nat_tests) in
          let not_before : nat_lt i i ≡ false = grind (arith, nat_tests) in
          or_from (nat_eq l 0) (nat_lt 99999 l || is_below i (label_place lines l)) some
          (or_from (nat_lt 99999 l) (is_below i (label_place lines l)) no_more (ap (is_below i) (placed i l s e h) ∙ not_before))
