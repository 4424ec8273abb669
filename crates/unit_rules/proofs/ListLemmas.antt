-- Tests of lists in memory.
use Rattle.std.proofs.Common.{◌≡◌, List, [], ◌∷◌, length, refl, arith}
use Rattle.std.proofs.lemmas.Grind.{common_steps}
use Rattle.std.proofs.lemmas.List.Folds.{list_all-map}
use Rattle.std.proofs.lemmas.List.{length-map}
use Rattle.rule_table.proofs.WordLemmas.{list_any_map}
use Rattle.f66_tree.specs.declared.expression.Expr.{Expr}
use Rattle.f66_tree.specs.Views.{formulas_of}
use Rattle.f66_names.specs.Uses.{many}

pub many_seen : (list : List Expr) → many (formulas_of list) ≡ length list
many_seen [] = refl
many_seen (e ∷ rest) = grind (arith, many_seen rest)

pub ruleset list_steps = (common_steps, list_all-map, list_any_map, length-map, many_seen)
