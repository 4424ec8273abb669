-- The first fault of a program is that of its first procedure with one.
use Rattle.std.proofs.Common.{◌≡◌, ◌≤◌, ℕ, suc, ◌+◌, List, [], ◌∷◌, ◌++◌, Some, length, refl, sym, ap, ◌∙◌, arith}
use Rattle.std.specs.List.{slice_get}
use Rattle.std.specs.Option.{option_or}
use Rattle.rule_table.specs.Words.{is_some_and}
use Rattle.efl_tree.specs.Syntax.{EflProcedure}
use Rattle.efl_scope.specs.declared.areas.AreaLists.{AreaLists}
use Rattle.efl_scope.specs.Parts.{Part, parts_by, parts_from}
use Rattle.efl_scope.specs.ScopeRules.{lists_agree}
use Rattle.efl_scope.specs.FirstFault.{first_in}
use Rattle.efl_scope.specs.AreaViews.{agreeing_in, AreAgreements, first_along}
use Rattle.efl_scope.proofs.UnitLemmas.{OutOf, out-both, other_unit, parts_by-unit}
use Rattle.efl_scope.proofs.FaultLemmas.{procedure-first}
use Rattle.efl_scope.proofs.WalkLemmas.{first_in-append}

module _ (firsts : AreaLists) (all : List EflProcedure) where
  pub agreements-length : (lists : List AreaLists) (us : List EflProcedure) → AreAgreements firsts all lists us → length lists ≡ length us
  agreements-length [] [] right = refl
  agreements-length [] (u ∷ us) right = absurd right
  agreements-length (own ∷ lists) [] right = absurd right
  agreements-length (own ∷ lists) (u ∷ us) right = ap suc (agreements-length lists us right.1)

  pub along-first : (us : List EflProcedure) (lists : List AreaLists) (n : ℕ) (earlier : List Part) → ((k : ℕ) → slice_get us k ≡ slice_get all (n + k)) →
      AreAgreements firsts all lists us → ((k : ℕ) → n ≤ k → OutOf k earlier) → first_along firsts lists us ≡ first_in all earlier (parts_from n us)
  along-first [] [] n earlier at right out = refl
  along-first [] (own ∷ lists) n earlier at right out = absurd right
  along-first (u ∷ us) [] n earlier at right out = absurd right
  along-first (u ∷ us) (own ∷ lists) n earlier at right out =
      ap (λ f. option_or f (first_along firsts lists us))
      (procedure-first all n (agreeing_in firsts own) (λ q. right.0 q ∙ ap (is_some_and (lists_agree all q)) here) u earlier (out n (omega arith)))
      ∙ ap (option_or (first_in all earlier (parts_by n u))) (along-first us lists (n + 1) (earlier ++ parts_by n u) behind right.1 later)
      ∙ sym (first_in-append all earlier (parts_by n u) (parts_from (n + 1) us))
    where
      here : Some u ≡ slice_get all n
      here = let e : n + 0 ≡ n = omega arith in at 0 ∙ ap (slice_get all) e

      behind : (k : ℕ) → slice_get us k ≡ slice_get all (n + 1 + k)
      behind k = let e : n + suc k ≡ n + 1 + k = omega arith in at (suc k) ∙ ap (slice_get all) e

      later : (k : ℕ) → n + 1 ≤ k → OutOf k (earlier ++ parts_by n u)
      later k above = out-both k earlier (parts_by n u) (out k (omega (arith, above))) (other_unit k n (parts_by n u) (grind (arith, above)) (parts_by-unit n u))

  -- the procedures of a program
  pub program-first : (lists : List AreaLists) → AreAgreements firsts all lists all → first_along firsts lists all ≡ first_in all [] (parts_from 0 all)
  program-first lists right = along-first all lists 0 [] (λ k. let e : k ≡ 0 + k = omega arith in ap (slice_get all) e) right (λ k above. tt)
