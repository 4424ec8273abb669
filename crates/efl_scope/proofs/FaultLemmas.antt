-- The fault that a walk over a procedure notes is the first of its parts.
use Rattle.std.proofs.Common.{◌≡◌, ℕ, Bool, true, false, nat_eq, not, ◌&&◌, ◌||◌, List, [], ◌∷◌, ◌++◌, Option, Some, None, option_map, find, filter, flat_map, refl, sym, ap, ◌∙◌, arith, if◌then◌else◌}
use Rattle.std.specs.List.{slice_get}
use Rattle.std.specs.Option.{option_or}
use Rattle.std.specs.Str.{bytes_eq}
use Rattle.std.proofs.lemmas.List.{append-nil, append_assoc}
use Rattle.rule_table.specs.Words.{is_some_and}
use Rattle.rule_table.proofs.WordLemmas.{filter-push, list_any-push}
use Rattle.efl_tree.specs.Syntax.{Text, EflProcedure}
use Rattle.efl_scope.specs.declared.rule.ScopeRule.{ScopeRule}
use Rattle.efl_scope.specs.declared.rule.ScopeRule.TheVariants.{OutOfProfileType, DuplicateName, BadLabel, BadBreak, CommonMismatch}
use Rattle.efl_scope.specs.Parts.{Form, Header, Declares, Groups, States, Until, Chooses, Part, parts_by}
use Rattle.efl_scope.specs.ScopeRules.{Names, no_name, holds, again, scope_rules, labels_of, labels_before, misses_label, lists_agree, area_declared, is_declared, mismatches_area, breaks}
use Rattle.efl_scope.specs.FirstFault.{fault_of, first_in}
use Rattle.efl_scope.specs.Sights.{with_names, anew, Walk, starting, fault_if, noting, with_area, clashes, procedure_seen}
use Rattle.efl_scope.proofs.NameLemmas.{same_names, declaring_all-names}
use Rattle.efl_scope.proofs.PartLemmas.{breaks_in, part_rule, taking, stands_again, note_part, noting_all, or_nothing}
use Rattle.efl_scope.proofs.TypeSights.{alone, once, with_more}
use Rattle.efl_scope.proofs.StatementSights.{procedure_seen-parts}
use Rattle.efl_scope.proofs.UnitLemmas.{InUnit, parts_by-unit, OutOf, out-labels, out-areas}
use Rattle.efl_scope.proofs.WalkLemmas.{option_or_assoc, mapped}

-- ---- what a part leaves behind ----

area_labels : (o : Option Text) (w : Walk) → (with_area o w).labels.names ≡ w.labels.names
area_labels None w = refl
area_labels (Some q) w = refl

area_fault : (o : Option Text) (w : Walk) → (with_area o w).fault ≡ w.fault
area_fault None w = refl
area_fault (Some q) w = refl

area_added : (o : Option Text) (w : Walk) (q : Text) → (with_area o w).areas q ≡ (is_some_and (bytes_eq q) o || w.areas q)
area_added None w q = refl
area_added (Some r) w q = refl

taking_labels : (form : Form) (w : Walk) → (taking form w).labels.names ≡ with_names (labels_of form) w.labels.names
taking_labels (Header o fs) w = refl
taking_labels (Declares before k) w = refl
taking_labels (Groups before t vs) w = refl
taking_labels (States ls k) w = declaring_all-names no_name ls (anew w.labels)
taking_labels (Until e) w = refl
taking_labels (Chooses es fallback zs seen) w = refl

taking_areas : (form : Form) (w : Walk) → (taking form w).areas ≡ w.areas
taking_areas (Header o fs) w = refl
taking_areas (Declares before k) w = refl
taking_areas (Groups before t vs) w = refl
taking_areas (States ls k) w = refl
taking_areas (Until e) w = refl
taking_areas (Chooses es fallback zs seen) w = refl

taking_fault : (form : Form) (w : Walk) → (taking form w).fault ≡ w.fault
taking_fault (Header o fs) w = refl
taking_fault (Declares before k) w = refl
taking_fault (Groups before t vs) w = refl
taking_fault (States ls k) w = refl
taking_fault (Until e) w = refl
taking_fault (Chooses es fallback zs seen) w = refl

-- whether its labels stand again
labels_again : (form : Form) (w : Walk) (before : List Text) → holds before ≡ w.labels.names → stands_again form (taking form w) ≡ again before (labels_of form)
labels_again (Header o fs) w before are = refl
labels_again (Declares earlier k) w before are = refl
labels_again (Groups earlier t vs) w before are = refl
labels_again (States ls k) w before are = once no_name ls before w.labels.names (alone before w.labels.names are)
labels_again (Until e) w before are = refl
labels_again (Chooses es fallback zs seen) w before are = refl

fault_is : (earlier : List Part) (v : Part) (o : Option ScopeRule) → option_map fault_of (option_map (λ k. ((earlier, v), k)) o) ≡ fault_if v.place o
fault_is earlier v None = refl
fault_is earlier v (Some r) = refl

or_turned : (a b : Bool) → (a || b) ≡ (b || a)
or_turned true true = refl
or_turned true false = refl
or_turned false true = refl
or_turned false false = refl

same_number : (n : ℕ) → nat_eq n n ≡ true
same_number n = grind arith

same_tests : (f g : ScopeRule → Bool) → ((r : ScopeRule) → f r ≡ g r) → f ≡ g
same_tests f g same i r = same r i

-- the parts before, by what a walk keeps in mind
pub record Minds (n : ℕ) (earlier : List Part) (w : Walk) : Type 0 where
  pub labels : holds (labels_before n earlier) ≡ w.labels.names
  pub areas : (q : Text) → is_declared n q earlier ≡ w.areas q

module _ (us : List EflProcedure) (n : ℕ) (agreeing : Names) (agree : (q : Text) → agreeing q ≡ is_some_and (lists_agree us q) (slice_get us n)) where
  module _ (v : Part) (earlier : List Part) (w : Walk) (its : v.around.unit ≡ n) (minds : Minds n earlier w) where
    here : nat_eq n v.around.unit ≡ true
    here = ap (nat_eq n) its ∙ same_number n

    one_labels : labels_before n (earlier ++ v ∷ []) ≡ labels_before n earlier ++ labels_of v.form
    one_labels =
        ap (flat_map (λ x. labels_of x.form)) (filter-push (λ x. nat_eq n x.around.unit) earlier v)
        ∙ ap (λ b. flat_map (λ x. labels_of x.form) (filter (λ x. nat_eq n x.around.unit) earlier ++ (if b then v ∷ [] else []))) here
        ∙ flat_push (filter (λ x. nat_eq n x.around.unit) earlier)
      where
        flat_push : (xs : List Part) → flat_map (λ x. labels_of x.form) (xs ++ v ∷ []) ≡ flat_map (λ x. labels_of x.form) xs ++ labels_of v.form
        flat_push [] = append-nil (labels_of v.form)
        flat_push (x ∷ xs) = ap (λ ls. labels_of x.form ++ ls) (flat_push xs) ∙ sym (append_assoc (labels_of x.form) (flat_map (λ y. labels_of y.form) xs) (labels_of v.form))

    mind_labels : holds (labels_before n (earlier ++ v ∷ [])) ≡ (note_part agreeing v w).labels.names
    mind_labels =
        ap holds one_labels ∙ with_more (labels_before n earlier) (labels_of v.form) w.labels.names minds.labels
        ∙ sym (taking_labels v.form w) ∙ sym (area_labels (area_declared v.form) (noting v.place (part_rule agreeing (taking v.form w) v (stands_again v.form (taking v.form w))) (taking v.form w)))

    mind_areas : (q : Text) → is_declared n q (earlier ++ v ∷ []) ≡ (note_part agreeing v w).areas q
    mind_areas q =
        list_any-push (λ x. nat_eq n x.around.unit && is_some_and (bytes_eq q) (area_declared x.form)) earlier v
        ∙ ap (λ b. is_declared n q earlier || (b && is_some_and (bytes_eq q) (area_declared v.form))) here
        ∙ ap (λ b. b || is_some_and (bytes_eq q) (area_declared v.form)) (minds.areas q)
        ∙ or_turned (w.areas q) (is_some_and (bytes_eq q) (area_declared v.form))
        ∙ ap (λ ns. is_some_and (bytes_eq q) (area_declared v.form) || ns q) (sym (taking_areas v.form w))
        ∙ sym (area_added (area_declared v.form) (noting v.place (part_rule agreeing (taking v.form w) v (stands_again v.form (taking v.form w))) (taking v.form w)) q)

    same_rule : (r : ScopeRule) → breaks_in agreeing (taking v.form w) v (stands_again v.form (taking v.form w)) r ≡ breaks us earlier v r
    same_rule OutOfProfileType = refl
    same_rule DuplicateName = refl
    same_rule BadLabel =
        ap (λ b. b || misses_label v.around.labels v.form) (labels_again v.form w (labels_before n earlier) minds.labels ∙ ap (λ m. again (labels_before m earlier) (labels_of v.form)) (sym its))
    same_rule BadBreak = refl
    same_rule CommonMismatch = ap (λ f. is_some_and f (area_declared v.form)) (same_names (clashes agreeing (taking v.form w).areas) (mismatches_area us earlier v.around.unit) clash)
      where
        clash : (q : Text) → clashes agreeing (taking v.form w).areas q ≡ mismatches_area us earlier v.around.unit q
        clash q =
            ap (λ ns. not (ns q) && not (agreeing q)) (taking_areas v.form w)
            ∙ ap (λ b. not b && not (agreeing q)) (sym (minds.areas q))
            ∙ ap (λ b. not (is_declared n q earlier) && not b) (agree q)
            ∙ ap (λ m. mismatches_area us earlier m q) (sym its)

    mind_fault : (note_part agreeing v w).fault ≡ option_or w.fault (fault_if v.place (find (breaks us earlier v) scope_rules))
    mind_fault =
        area_fault (area_declared v.form) (noting v.place (part_rule agreeing (taking v.form w) v (stands_again v.form (taking v.form w))) (taking v.form w))
        ∙ ap (λ o. option_or o (fault_if v.place (part_rule agreeing (taking v.form w) v (stands_again v.form (taking v.form w))))) (taking_fault v.form w)
        ∙ ap (λ test. option_or w.fault (fault_if v.place (find test scope_rules))) (same_tests (breaks_in agreeing (taking v.form w) v (stands_again v.form (taking v.form w))) (breaks us earlier v) same_rule)

  pub noting-first : (vs earlier : List Part) (w : Walk) → InUnit n vs → Minds n earlier w → (noting_all agreeing vs w).fault ≡ option_or w.fault (first_in us earlier vs)
  noting-first [] earlier w within minds = sym (or_nothing w.fault)
  noting-first (v ∷ vs) earlier w within minds =
      let o = find (breaks us earlier v) scope_rules in
      let rest = first_in us (earlier ++ v ∷ []) vs in
      noting-first vs (earlier ++ v ∷ []) (note_part agreeing v w) within.1
      (record { labels = mind_labels v earlier w within.0 minds; areas = mind_areas v earlier w within.0 minds })
      ∙ ap (λ f. option_or f rest) (mind_fault v earlier w within.0 minds)
      ∙ sym (option_or_assoc w.fault (fault_if v.place o) rest)
      ∙ ap (λ f. option_or w.fault (option_or f rest)) (sym (fault_is earlier v o))
      ∙ ap (option_or w.fault) (sym (mapped fault_of (option_map (λ k. ((earlier, v), k)) o) _))

  -- the fault of a procedure, behind those before it
  pub procedure-first : (u : EflProcedure) (earlier : List Part) → OutOf n earlier → (procedure_seen agreeing u).fault ≡ first_in us earlier (parts_by n u)
  procedure-first u earlier out =
      ap (λ w. w.fault) (procedure_seen-parts agreeing n u)
      ∙ noting-first (parts_by n u) earlier starting (parts_by-unit n u)
      (record { labels = ap holds (out-labels n earlier out); areas = λ q. out-areas n q earlier out })
