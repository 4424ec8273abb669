-- The places that labels name, and the first and the last place of a list that is seen through a function.
use Rattle.std.proofs.Common.{◌≡◌, ◌+◌, ◌<◌, ℕ, suc, Bool, true, false, cond, Option, Some, None, List, [], ◌∷◌, length, refl, ◌∙◌, sym, ap, arith, map, option_map, option_and_then}
use Rattle.std.specs.List.{slice_get}
use Rattle.std.proofs.lemmas.Option.{slice_get-map}
use Rattle.rule_table.specs.Words.{first_place, last_place}
use Rattle.rule_table.proofs.WordLemmas.{find-first_place}
use Rattle.f66_tree.specs.declared.statement.Stmt.{Stmt}
use Rattle.f66_tree.specs.Syntax.{Line}
use Rattle.f66_tree.specs.Views.{act_of, line_of, lines_of}
use Rattle.f66_tree.specs.Execution.{has_label}
use Rattle.f66_flow.specs.Ranges.{label_place, named, range_end}

pub first_place-map : {X Y : Type 0} (test : Y → Bool) (f : X → Y) (xs : List X) → first_place test (map f xs) ≡ first_place (λ x. test (f x)) xs
first_place-map test f [] = refl
first_place-map test f (x ∷ xs) = grind (arith, first_place-map test f xs)

pub last_place-map : {X Y : Type 0} (test : Y → Bool) (f : X → Y) (xs : List X) → last_place test (map f xs) ≡ last_place (λ x. test (f x)) xs
last_place-map test f [] = refl
last_place-map test f (x ∷ xs) = grind (arith, last_place-map test f xs)

-- the statement at the place that a label names, and none where it names none
pub named_at : (xs : List Stmt) (l p : ℕ) → label_place (lines_of xs) l ≡ Some p → option_map line_of (slice_get xs p) ≡ named (lines_of xs) l
named_at xs l p e =
    sym (find-first_place (λ s. has_label l s.label) (lines_of xs) ∙ ap (option_and_then (slice_get (lines_of xs))) e ∙ slice_get-map line_of xs p)

pub named_nowhere : (xs : List Stmt) (l : ℕ) → label_place (lines_of xs) l ≡ None → None ≡ named (lines_of xs) l
named_nowhere xs l e = sym (find-first_place (λ s. has_label l s.label) (lines_of xs) ∙ ap (option_and_then (slice_get (lines_of xs))) e)

-- a place that a label names is one of the list
within_parts : (b : Bool) (o : Option ℕ) (n p : ℕ) → ((q : ℕ) → o ≡ Some q → q < n) → cond b (Some 0) (option_map (λ k. k + 1) o) ≡ Some p → p < suc n
within_parts true o n p below e = let zero_is : 0 ≡ p = cc in omega arith
within_parts false None n p below e = absurd (cc)
within_parts false (Some q) n p below e = let more : q + 1 ≡ p = cc in omega (arith, below q refl)

first_place-within : {X : Type 0} (test : X → Bool) (xs : List X) (p : ℕ) → first_place test xs ≡ Some p → p < length xs
first_place-within test [] p e = absurd (cc)
first_place-within test (x ∷ xs) p e = within_parts (test x) (first_place test xs) (length xs) p (λ q h. first_place-within test xs q h) e

pub named_within : (xs : List Stmt) (l p : ℕ) → label_place (lines_of xs) l ≡ Some p → p < length xs
named_within xs l p e = first_place-within (λ s. has_label l s.label) xs p (sym (first_place-map (λ s. has_label l s.label) line_of xs) ∙ e)

-- where ranges end, by the trees in memory
pub ends_by : (lines : List Line) (xs : List Stmt) → map (λ s. range_end lines (act_of s.kind)) xs ≡ map (λ s. range_end lines s.act) (lines_of xs)
ends_by lines [] = refl
ends_by lines (x ∷ xs) = ap (λ rest. range_end lines (act_of x.kind) ∷ rest) (ends_by lines xs)
