-- Dimensions without subscripts.
use Rattle.std.proofs.Common.{◌≡◌, List, [], ◌∷◌, map, length, refl, arith}
use Rattle.std.specs.Prelude.{not, nat_lt}
use Rattle.f66_tree.specs.Syntax.{NoFormula}
use Rattle.f66_tree.specs.declared.declaration.Par.{Par}
use Rattle.f66_tree.specs.Views.{par_of}
use Rattle.unit_rules.specs.Storage.{are_within}

pub within_none : (ns : List Par) → are_within (map par_of ns) NoFormula ≡ not (nat_lt 0 (length ns))
within_none [] = refl
within_none (n ∷ ns) = grind arith
