-- Lists of areas in memory.
use Rattle.std.proofs.Common.{◌≡◌, false, nat_eq, ◌&&◌, List, [], ◌∷◌, length, refl, sym, ap, ◌∙◌, arith}
use Rattle.efl_scope.specs.declared.areas.Sort.{Sort}
use Rattle.efl_scope.specs.AreaViews.{sort_agrees, sorts_agree}
use Rattle.efl_scope.proofs.NameLemmas.{and_false}

-- lists that agree have the same length
pub unequal_lists : (all others : List Sort) → nat_eq (length all) (length others) ≡ false → false ≡ sorts_agree all others
unequal_lists [] [] apart = sym apart
unequal_lists [] (b ∷ others) apart = refl
unequal_lists (a ∷ all) [] apart = refl
unequal_lists (a ∷ all) (b ∷ others) apart =
    sym (and_false (sort_agrees a b)) ∙ ap (λ x. sort_agrees a b && x) (unequal_lists all others (grind (arith, apart)))
