-- A history only grows: what passed a limit first stays so, and what comes later passes it later.
use Rattle.std.proofs.Common.{◌≡◌, ◌≤◌, ℕ, arith, ◌++◌, List, [], ◌∷◌, Option, Some, None, refl, sym, ◌∙◌, ap, subst, append_assoc}
use Rattle.grammar.specs.declared.language.Event.{Event}
use Rattle.grammar.specs.declared.language.Event.TheVariants.{Open, Take, Close}
use Rattle.grammar.specs.Grammar.{Grammar, Tree, Trees, leaf, node, none, some, values_of}
use Rattle.grammar.specs.Limits.{history, history_all, Meter, Passing, taken, passing_at, earlier_of, reading, first_passing}
use Rattle.grammar.specs.Lookahead.{GoesAll}
use Rattle.grammar.specs.Descent.{Item, left, behind, Receives, Continues}
use Rattle.grammar.proofs.StepLemmas.{all_end}

-- the later history is the earlier one and more
pub record Extends {E : Type 0} (past all : List E) : Type 0 where
  pub newer : List E
  pub is : all ≡ newer ++ past

extends_same : {E : Type 0} → (past : List E) → Extends past past
extends_same past = record { newer = []; is = refl }

extends_one : {E : Type 0} → (e : E) → (past all : List E) → Extends past all → Extends past (e ∷ all)
extends_one e past all h = record { newer = e ∷ h.newer; is = ap (λ es. e ∷ es) h.is }

pub extends_then : {E : Type 0} → (past middle all : List E) → Extends past middle → Extends middle all → Extends past all
extends_then past middle all h k = record {
  newer = k.newer ++ h.newer;
  is = k.is ∙ (ap (λ es. k.newer ++ es) h.is ∙ sym (append_assoc k.newer h.newer past));
}

module _ {Token T N P V : Type 0} (g : Grammar Token T N P V) (predict : N → T → Option P) where
  mutual
    extends_tree : (c : Tree Token P) → (past : List (Event T P)) → Extends past (history g c past)
    extends_tree (leaf t) past = extends_one (Take (g.terminal_of t)) past past (extends_same past)
    extends_tree (node p cs) past =
        extends_one (Close p) past (history_all g cs (Open p ∷ past))
        (extends_then past (Open p ∷ past) (history_all g cs (Open p ∷ past)) (extends_one (Open p) past past (extends_same past)) (extends_trees cs (Open p ∷ past)))

    extends_trees : (cs : Trees Token P) → (past : List (Event T P)) → Extends past (history_all g cs past)
    extends_trees none past = extends_same past
    extends_trees (some c cs) past = extends_then past (history g c past) (history_all g cs (history g c past)) (extends_tree c past) (extends_trees cs (history g c past))

  extends_close : (cs : Trees Token P) → (p : P) → (past : List (Event T P)) → Extends past (Close p ∷ history_all g cs past)
  extends_close cs p past = extends_one (Close p) past (history_all g cs past) (extends_trees cs past)

  extends_receives : (fs : List (Item P V)) → (v : V) → (past : List (Event T P)) → (ts : List Token) → (c : V) → (all : List (Event T P)) →
      Receives g predict fs v past ts c all → Extends past all
  extends_receives [] v past ts c all h = record { newer = []; is = sym h.1 }
  extends_receives (f ∷ fs) v past ts c all h =
      extends_then past (Close f.production ∷ history_all g h.0 past) all (extends_close h.0 f.production past)
      (extends_receives fs (g.build f.production (values_of g h.0 (v ∷ f.values))) (Close f.production ∷ history_all g h.0 past) h.1 c all h.3)

  pub extends : (fs : List (Item P V)) → (past : List (Event T P)) → (ts : List Token) → (c : V) → (all : List (Event T P)) →
      Continues g predict fs past ts c all → Extends past all
  extends [] past ts c all h = absurd h
  extends (f ∷ fs) past ts c all h =
      extends_then past (Close f.production ∷ history_all g h.0 past) all (extends_close h.0 f.production past)
      (extends_receives fs (g.build f.production (values_of g h.0 f.values)) (Close f.production ∷ history_all g h.0 past) h.1 c all h.3)

module _ {T P M : Type 0} (meter : Meter T P M) where
  kept_at : (o later : Option Passing) → (at : Passing) → o ≡ Some at → earlier_of o later ≡ Some at
  kept_at None later at e = cc
  kept_at (Some a) later at e = e

  -- What is passed stays the first.
  pub kept : (newer past : List (Event T P)) → (at : Passing) → first_passing meter past ≡ Some at → first_passing meter (newer ++ past) ≡ Some at
  kept [] past at e = e
  kept (Open p ∷ newer) past at e = kept newer past at e
  kept (Take t ∷ newer) past at e =
      kept_at (first_passing meter (newer ++ past)) (passing_at (taken (newer ++ past)) (meter.passed (reading meter (Take t ∷ newer ++ past)))) at (kept newer past at e)
  kept (Close p ∷ newer) past at e = kept newer past at e

  taken-append : (newer past : List (Event T P)) → taken past ≤ taken (newer ++ past)
  taken-append [] past = omega arith
  taken-append (Open p ∷ newer) past = taken-append newer past
  taken-append (Take t ∷ newer) past = omega (arith, taken-append newer past)
  taken-append (Close p ∷ newer) past = taken-append newer past

  passing_token : (i : ℕ) → (o : Option ℕ) → (at : Passing) → passing_at i o ≡ Some at → i ≡ at.token
  passing_token i None at e = cc
  passing_token i (Some k) at e = let same : record { token = i; limit = k } ≡ at = cc in ap (λ (a : Passing). a.token) same

  late_at : (o later : Option Passing) → (at : Passing) → (least : ℕ) → ((a : Passing) → o ≡ Some a → least ≤ a.token) →
      ((a : Passing) → later ≡ Some a → least ≤ a.token) → earlier_of o later ≡ Some at → least ≤ at.token
  late_at None later at least first second e = second at e
  late_at (Some a) later at least first second e = first at e

  -- What is passed later is passed at a later token.
  pub late : (newer past : List (Event T P)) → (at : Passing) → first_passing meter past ≡ None → first_passing meter (newer ++ past) ≡ Some at → taken past ≤ at.token
  late [] past at quiet_so_far e = absurd (let f : None ≡ Some at = sym quiet_so_far ∙ e in cc)
  late (Open p ∷ newer) past at quiet_so_far e = late newer past at quiet_so_far e
  late (Take t ∷ newer) past at quiet_so_far e =
      late_at (first_passing meter (newer ++ past)) (passing_at (taken (newer ++ past)) (meter.passed (reading meter (Take t ∷ newer ++ past)))) at (taken past)
      (λ a f. late newer past a quiet_so_far f)
      (λ a f. subst (λ i. taken past ≤ i) (passing_token (taken (newer ++ past)) (meter.passed (reading meter (Take t ∷ newer ++ past))) a f) (taken-append newer past))
      e
  late (Close p ∷ newer) past at quiet_so_far e = late newer past at quiet_so_far e

module _ {Token T N P V M : Type 0} (g : Grammar Token T N P V) (predict : N → T → Option P) (meter : Meter T P M) where
  -- At the end of the text nothing is passed any more.
  quiet_receives : (fs : List (Item P V)) → (v : V) → (past : List (Event T P)) → (ts : List Token) → (c : V) → (all : List (Event T P)) →
      ts ≡ [] → Receives g predict fs v past ts c all → first_passing meter all ≡ first_passing meter past
  quiet_receives [] v past ts c all e h = ap (first_passing meter) (sym h.1)
  quiet_receives (f ∷ fs) v past ts c all e h =
      let by = all_end g predict h.0 (behind g f) h.1 (subst (λ us. GoesAll g predict h.0 (behind g f) us h.1) e h.2) in
      quiet_receives fs (g.build f.production (values_of g h.0 (v ∷ f.values))) (Close f.production ∷ history_all g h.0 past) h.1 c all (sym by.tokens) h.3
      ∙ ap (λ cs. first_passing meter (history_all g cs past)) by.trees

  pub quiet : (fs : List (Item P V)) → (past : List (Event T P)) → (c : V) → (all : List (Event T P)) →
      Continues g predict fs past [] c all → first_passing meter all ≡ first_passing meter past
  quiet [] past c all h = absurd h
  quiet (f ∷ fs) past c all h =
      let by = all_end g predict h.0 (left g f) h.1 h.2 in
      quiet_receives fs (g.build f.production (values_of g h.0 f.values)) (Close f.production ∷ history_all g h.0 past) h.1 c all (sym by.tokens) h.3
      ∙ ap (λ cs. first_passing meter (history_all g cs past)) by.trees
