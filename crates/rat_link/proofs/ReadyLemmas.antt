-- What a unit says that its checks accept is ready for its association: none of its COMMON, EQUIVALENCE and arrays breaks a rule.
use Rattle.std.proofs.Common.{◌≡◌, ◌<◌, ◌+◌, ℕ, zero, suc, Bool, true, false, List, [], ◌∷◌, ◌++◌, length, map, get_or, None, refl, sym, ap, ◌∙◌, subst, arith}
use Rattle.std.specs.Prelude.{if◌then◌else◌}
use Rattle.std.specs.List.{AllByRecursion}
use Rattle.std.proofs.lemmas.List.{map-append}
use Rattle.rule_table.specs.declared.rule.Rule.{Rule}
use Rattle.f66_tree.specs.Syntax.{Header, Act, Continue, Line}
use Rattle.f66_tree.specs.Units.{Note, Context, is_note}
use Rattle.f66_names.specs.Declaring.{noted, context_by}
use Rattle.f66_soundness.specs.SoundUnits.{acts_in_unit}
use Rattle.unit_rules.specs.UnitRules.{breaks_rule}
use Rattle.sound_units.proofs.ReadyLemmas.{IsTidy, tidy, ready_by}
use Rattle.rat_tree.specs.Syntax.{RatRoutine}
use Rattle.rat_check.specs.Parts.{Part, unit_parts}
use Rattle.rat_check.specs.Said.{said_by, said_in, context_of_parts}
use Rattle.rat_check.specs.Rules.{nothing_before}
use Rattle.rat_check.specs.FirstFault.{unit_whole, unit_fault}
use Rattle.rat_check.proofs.CleanLemmas.{passed}
use Rattle.rat_check.proofs.SaidLemmas.{AllRight, said_right}
use Rattle.rat_said.specs.Said.{or_continue, said_line, part_lines, said_lines, said_routine}
use Rattle.rat_link.specs.Laws.{SaidIsReady}

-- ---- the statements of lines ----

one_noted : (a : Act) (xs ys : List Note) (v : Bool) → (if v then (record { label = None; act = a } ∷ (xs ++ ys)) else (xs ++ ys)) ≡ (if v then (record { label = None; act = a } ∷ xs) else xs) ++ ys
one_noted a xs ys true = refl
one_noted a xs ys false = refl

noted_joined : (xs ys : List Act) → noted (xs ++ ys) ≡ noted xs ++ noted ys
noted_joined [] ys = refl
noted_joined (a ∷ xs) ys = ap (λ ns. if is_note a then (record { label = None; act = a } ∷ ns) else ns) (noted_joined xs ys) ∙ one_noted a (noted xs) (noted ys) (is_note a)

part_acts : (v : Part) (acts : List Act) → acts_in_unit (map (said_line v) acts) ≡ acts
part_acts v [] = refl
part_acts v (a ∷ acts) = ap (λ bs. a ∷ bs) (part_acts v acts)

noted_continued : (acts : List Act) → noted (or_continue acts) ≡ noted acts
noted_continued [] = refl
noted_continued (a ∷ acts) = refl

-- names mean the same to the checks of a unit and of what it says
module _ (h : Header) where
  lines_noted : (vs : List Part) → noted (acts_in_unit (said_lines h vs)) ≡ noted (said_in h vs)
  lines_noted [] = refl
  lines_noted (v ∷ vs) =
      let own = or_continue (said_by h v.form) in
      ap noted (map-append (λ s. s.act) (part_lines h v) (said_lines h vs)) ∙ noted_joined (acts_in_unit (part_lines h v)) (acts_in_unit (said_lines h vs))
      ∙ ap (λ ns. ns ++ noted (acts_in_unit (said_lines h vs))) (ap noted (part_acts v own) ∙ noted_continued (said_by h v.form))
      ∙ ap (λ ns. noted (said_by h v.form) ++ ns) (lines_noted vs) ∙ sym (noted_joined (said_by h v.form) (said_in h vs))

  pub same_context : (vs : List Part) → context_by h (acts_in_unit (said_lines h vs)) ≡ context_of_parts h vs
  same_context vs = ap (λ ns. record { header = h; notes = ns }) (lines_noted vs)

-- ---- what holds of all that is said, and of a CONTINUE ----

module _ (P : Act → Type 0) (idle : P Continue) where
  abbrev OfLines : List Line → Type 0
  OfLines lines = AllByRecursion (λ s. P s.act) lines

  abbrev OfActs : List Act → Type 0
  OfActs acts = AllByRecursion P acts

  of_right : (c : Context) (said : List Act) → ((n : ℕ) (a : Act) → ((k : Rule) → breaks_rule c said n a k ≡ false) → P a) → (n : ℕ) (acts : List Act) → AllRight c said n acts → OfActs acts
  of_right c said f n [] r = tt
  of_right c said f n (a ∷ acts) r = (f n a r.0, of_right c said f (n + 1) acts r.1)

  halves : (xs ys : List Act) → OfActs (xs ++ ys) → OfActs xs × OfActs ys
  halves [] ys t = (tt, t)
  halves (x ∷ xs) ys t = let k = halves xs ys t.1 in ((t.0, k.0), k.1)

  mapped : (v : Part) (acts : List Act) → OfActs acts → OfLines (map (said_line v) acts)
  mapped v [] t = tt
  mapped v (a ∷ acts) t = (t.0, mapped v acts t.1)

  continued : (acts : List Act) → OfActs acts → OfActs (or_continue acts)
  continued [] t = (idle, tt)
  continued (a ∷ acts) t = t

  whole : (xs ys : List Line) → OfLines xs → OfLines ys → OfLines (xs ++ ys)
  whole [] ys t k = k
  whole (x ∷ xs) ys t k = (t.0, whole xs ys t.1 k)

  of_lines : (h : Header) (vs : List Part) → OfActs (said_in h vs) → OfLines (said_lines h vs)
  of_lines h [] t = tt
  of_lines h (v ∷ vs) t =
      let k = halves (said_by h v.form) (said_in h vs) t in
      whole (part_lines h v) (said_lines h vs) (mapped v (or_continue (said_by h v.form)) (continued (said_by h v.form) k.0)) (of_lines h vs k.1)

  at_each : (lines : List Line) → OfLines lines → (i : ℕ) (s : Line) → i < length lines → P (get_or lines i s).act
  at_each [] t i s lt = absurd (omega (arith, lt))
  at_each (x ∷ lines) t zero s lt = t.0
  at_each (x ∷ lines) t (suc i) s lt = at_each lines t.1 i s (omega (arith, lt))

  -- each line of a unit that its checks accept is such a one, where what keeps the rules is
  pub said_keeps : (u : RatRoutine) → unit_fault u ≡ None →
      ((n : ℕ) (a : Act) → ((k : Rule) → breaks_rule (context_of_parts u.header (unit_parts u.body)) (said_in u.header (unit_parts u.body)) n a k ≡ false) → P a) →
      (i : ℕ) (s : Line) → i < length (said_routine u).lines → P (get_or (said_routine u).lines i s).act
  said_keeps u clean f =
      let h = u.header in
      let vs = unit_parts u.body in
      let right = said_right (unit_whole h vs) nothing_before vs (passed h u.place vs clean).keep in
      at_each (said_lines h vs) (of_lines h vs (of_right (context_of_parts h vs) (said_in h vs) f 0 (said_in h vs) right))

-- ---- a unit ----

pub said_is_ready : SaidIsReady
said_is_ready u clean =
    let h = u.header in
    let vs = unit_parts u.body in
    let c = context_of_parts h vs in
    let keeps = said_keeps (IsTidy c) (record { listed = refl; equated = refl; fits = refl; small = refl }) u clean (tidy c (said_in h vs)) in
    ready_by (said_routine u) (λ i s lt. subst (λ d. IsTidy d (get_or (said_lines h vs) i s).act) (sym (same_context h vs)) (keeps i s lt))
