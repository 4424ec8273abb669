-- Constants one by one.
use Rattle.std.proofs.Common.{◌≡◌, ℤ, Bool, true, false, cond, not, ◌||◌, List, [], ◌∷◌, ◌++◌, refl, sym, ap, subst, ◌∙◌, arith}
use Rattle.std.specs.List.{list_any}
use Rattle.std.specs.HashSet.{HashSet, contains}
use Rattle.std.specs.Ordering.{int_eq}
use Rattle.std.proofs.lemmas.Bool.Decides.{Decides-int_eq}
use Rattle.std.proofs.lemmas.List.Folds.{list_any-append}
use Rattle.efl_types.specs.Statements.{same_whole, chosen_again}
use Rattle.efl_statements.specs.Clauses.{Has, Adds}

-- ---- tests ----

le_both : (y z : ℤ) → same_whole y z ≡ true → y ≡ z
le_both y z is = grind (arith, is)

le_self : (z : ℤ) → same_whole z z ≡ true
le_self z = grind arith

same_is : (x q : ℤ) → int_eq x q ≡ same_whole q x
same_is x q = each (int_eq x q) (same_whole q x) refl refl
  where
    each : (b d : Bool) → int_eq x q ≡ b → same_whole q x ≡ d → b ≡ d
    each true true one two = refl
    each true false one two = sym (subst (λ y. same_whole q y ≡ true) (sym ((Decides-int_eq x q).0 one)) (le_self q)) ∙ two
    each false true one two = sym one ∙ (Decides-int_eq x q).1 (sym (le_both q x two))
    each false false one two = refl

either_by : (b d : Bool) → cond b true d ≡ (b || d)
either_by true d = refl
either_by false d = refl

not_not : (b : Bool) → not (not b) ≡ b
not_not true = refl
not_not false = refl

or_assoc : (a b d : Bool) → ((a || b) || d) ≡ (a || (b || d))
or_assoc true b d = refl
or_assoc false b d = refl

or_moved : (a b d : Bool) → ((a || b) || d) ≡ (b || (a || d))
or_moved true true d = refl
or_moved true false d = refl
or_moved false b d = refl

or_false : (a : Bool) → (a || false) ≡ a
or_false true = refl
or_false false = refl

-- ---- constants ----

-- some have come, and these are left
pub record HasSeen {S : Type 0} (before constants left : List ℤ) (s : HashSet ℤ S) (again : Bool) : Type 0 where
  pub seen : List ℤ
  pub has : Has seen s
  pub all : (z : ℤ) → (list_any (same_whole z) seen || list_any (same_whole z) left) ≡ list_any (same_whole z) (before ++ constants)
  pub told : (again || chosen_again seen left) ≡ chosen_again before constants

pub seen_none : {S : Type 0} (before constants : List ℤ) (s : HashSet ℤ S) → Has before s → HasSeen before constants constants s false
seen_none before constants s has = record { seen = before; has = has; all = λ z. sym (list_any-append (same_whole z) before constants); told = refl }

pub seen_next : {S : Type 0} (before constants : List ℤ) (x : ℤ) (left : List ℤ) (s n : HashSet ℤ S) (again added now : Bool) → HasSeen before constants (x ∷ left) s again →
    added ≡ not (contains int_eq s x) → ((q : ℤ) → contains int_eq n q ≡ cond (int_eq x q) true (contains int_eq s q)) → now ≡ (again || not added) → HasSeen before constants left n now
seen_next before constants x left s n again added now h is updates next = record {
  seen = x ∷ h.seen;
  has = λ z. updates z ∙ either_by (int_eq x z) (contains int_eq s z) ∙ ap (λ b. b || contains int_eq s z) (same_is x z) ∙ ap (λ b. same_whole z x || b) (h.has z);
  all = λ z. or_moved (same_whole z x) (list_any (same_whole z) h.seen) (list_any (same_whole z) left) ∙ h.all z;
  told = ap (λ b. b || chosen_again (x ∷ h.seen) left) (next ∙ ap (λ b. again || b) (ap not is ∙ not_not (contains int_eq s x) ∙ h.has x))
      ∙ or_assoc again (list_any (same_whole x) h.seen) (chosen_again (x ∷ h.seen) left) ∙ h.told;
}

pub seen_all : {S : Type 0} (before constants left : List ℤ) (s : HashSet ℤ S) (again : Bool) → left ≡ [] → HasSeen before constants left s again → Adds before constants s again
seen_all before constants left s again none h = record {
  has = λ z. h.has z ∙ sym (or_false (list_any (same_whole z) h.seen)) ∙ ap (λ xs. list_any (same_whole z) h.seen || list_any (same_whole z) xs) (sym none) ∙ h.all z;
  told = sym (or_false again) ∙ ap (λ xs. again || chosen_again h.seen xs) (sym none) ∙ h.told;
}
