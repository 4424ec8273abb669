-- What each part keeps in a unit without a fault.
use Rattle.std.proofs.Common.{◌≡◌, Bool, true, false, true≢false, List, [], ◌∷◌, Option, Some, None, refl, sym}
use Rattle.std.specs.Prelude.{not, ◌&&◌, ◌||◌, ⊤}
use Rattle.std.proofs.lemmas.Bool.{or_parts}
use Rattle.std.proofs.lemmas.Option.{none-some}
use Rattle.ground.specs.declared.place.Place.{Place}
use Rattle.rule_table.specs.declared.rule.Rule.{Rule}
use Rattle.rule_table.specs.declared.rule.Rule.TheVariants.{Syntax, TypeClash, BadLabel, BadBreak, DuplicateCase, LongText}
use Rattle.rule_table.specs.FaultRules.{first_rule}
use Rattle.rule_table.proofs.RuleLemmas.{first_rule-least}
use Rattle.f66_tree.specs.Syntax.{Header}
use Rattle.unit_rules.specs.Heads.{breaks_header}
use Rattle.rat_check.specs.Parts.{Part}
use Rattle.rat_check.specs.Said.{said_by, context_of_parts}
use Rattle.rat_check.specs.LongTexts.{is_long_header, is_long_form}
use Rattle.rat_check.specs.Rules.{breaks_length, breaks_unit_header, is_ratfor, Before, nothing_before, behind, UnitRules, is_misplaced_form, returns_wrong, is_late_form, is_own_label, finds_labels, is_second_default, breaks_own, break_names, breaks, broken_rule}
use Rattle.rat_check.specs.FirstFault.{or_else, fault_if, first_broken, unit_whole, fault_of_parts}

-- ---- truth values and faults ----

pub and_true : (a b : Bool) → (a && b) ≡ true → (a ≡ true) × (b ≡ true)
and_true true b e = (refl, e)
and_true false b e = absurd (true≢false (sym e))

not_false : (a : Bool) → not a ≡ false → a ≡ true
not_false true e = refl
not_false false e = absurd (true≢false e)

or_none : {A : Type 0} (a b : Option A) → or_else a b ≡ None → (a ≡ None) × (b ≡ None)
or_none None b e = (refl, e)
or_none (Some x) b e = absurd (none-some x (sym e))

no_rule : (p : Place) (o : Option Rule) → fault_if p o ≡ None → o ≡ None
no_rule p None e = refl
no_rule p (Some r) e = absurd (none-some _ (sym e))

-- ---- a part without a fault ----

-- what a part without a fault keeps, behind those before it
pub record Keeps (u : UnitRules) (b : Before) (v : Part) : Type 0 where
  pub ratfor : is_ratfor v.form ≡ true
  pub placed : is_misplaced_form u.context.header v.label v.form ≡ false
  pub early : is_late_form b.begun v.form ≡ false
  pub returned : returns_wrong u.context.header v.form ≡ false
  pub own : is_own_label b.labels v.label ≡ true
  pub found : finds_labels u.formats v.reached v.form ≡ true
  pub inside : v.inside ≡ true
  pub single : is_second_default v.form ≡ false
  pub fits : is_long_form v.form ≡ false
  pub named : (k : Rule) → break_names u.context u.said b.said (said_by u.context.header v.form) k ≡ false

keeps : (u : UnitRules) (b : Before) (v : Part) → broken_rule u b v ≡ None → Keeps u b v
keeps u b v e =
    let clean : (k : Rule) → breaks u b v k ≡ false = first_rule-least (breaks u b v) None (sym e) in
    let rule : (k : Rule) → (breaks_own u.context.header u.formats b v k ≡ false) × (break_names u.context u.said b.said (said_by u.context.header v.form) k ≡ false) = λ k. or_parts (breaks_own u.context.header u.formats b v k) _ (clean k) in
    let labels = and_true (is_own_label b.labels v.label) (finds_labels u.formats v.reached v.form) (not_false _ (rule BadLabel).0) in
    let form = or_parts (not (is_ratfor v.form)) (is_misplaced_form u.context.header v.label v.form || is_late_form b.begun v.form) (rule Syntax).0 in
    let order = or_parts (is_misplaced_form u.context.header v.label v.form) (is_late_form b.begun v.form) form.1 in
    record { ratfor = not_false (is_ratfor v.form) form.0; placed = order.0; early = order.1; returned = (rule TypeClash).0; own = labels.0; found = labels.1; inside = not_false v.inside (rule BadBreak).0; single = (rule DuplicateCase).0; fits = (rule LongText).0; named = λ k. (rule k).1 }

-- the first part keeps the rules, and those behind it do
pub first_keeps : (u : UnitRules) (b : Before) (v : Part) (vs : List Part) → first_broken u b (v ∷ vs) ≡ None → Keeps u b v × (first_broken u (behind u.context.header b v) vs ≡ None)
first_keeps u b v vs e =
    let n = or_none (fault_if v.place (broken_rule u b v)) (first_broken u (behind u.context.header b v) vs) e in
    (keeps u b v (no_rule v.place (broken_rule u b v) n.0), n.1)

-- ---- a unit without a fault ----

-- each part keeps the rules behind those before it
abbrev pub AllKeep : UnitRules → Before → List Part → Type 0
AllKeep u b [] = ⊤
AllKeep u b (v ∷ vs) = Keeps u b v × AllKeep u (behind u.context.header b v) vs

pub all_keep : (u : UnitRules) (b : Before) (vs : List Part) → first_broken u b vs ≡ None → AllKeep u b vs
all_keep u b [] clean = tt
all_keep u b (v ∷ vs) clean = let n = first_keeps u b v vs clean in (n.0, all_keep u (behind u.context.header b v) vs n.1)

-- what a unit of any kind without a fault keeps
pub record Passed (h : Header) (vs : List Part) : Type 0 where
  pub headed : (k : Rule) → breaks_header (context_of_parts h vs) k ≡ false
  pub short : is_long_header h ≡ false
  pub keep : AllKeep (unit_whole h vs) nothing_before vs
  pub unbroken : first_broken (unit_whole h vs) nothing_before vs ≡ None

pub passed : (h : Header) (p : Place) (vs : List Part) → fault_of_parts h p vs ≡ None → Passed h vs
passed h p vs e =
    let c = context_of_parts h vs in
    let broken = first_rule (breaks_unit_header c) in
    let n = or_none (fault_if p broken) (first_broken (unit_whole h vs) nothing_before vs) e in
    let clean : (k : Rule) → (breaks_header c k ≡ false) × (breaks_length h k ≡ false) = λ k. or_parts (breaks_header c k) (breaks_length h k) (first_rule-least (breaks_unit_header c) None (sym (no_rule p broken n.0)) k) in
    record {
      headed = λ k. (clean k).0;
      short = (clean LongText).1;
      keep = all_keep (unit_whole h vs) nothing_before vs n.1;
      unbroken = n.1;
    }
