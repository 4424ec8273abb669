-- The variables and functions of a type of each procedure, by the groups in memory.
use Rattle.std.proofs.Common.{◌≡◌, ◌<◌, ◌≤◌, ℕ, ◌+◌, nat_eq, List, [], length, map, replicate, Some, None, option_map, ap, ◌∙◌, arith}
use Rattle.std.specs.Prelude.{unwrap_or}
use Rattle.std.specs.List.{AllZip, slice_get, list_any}
use Rattle.ground.specs.declared.value.Kind.{Kind}
use Rattle.efl_tree.specs.Syntax.{EflProgram}
use Rattle.efl_scope.specs.Marks.{program_variables}
use Rattle.efl_scoped.specs.Numbers.{Table}
use Rattle.efl_types.specs.Whole.{edges_of}
use Rattle.efl_lowered.specs.Lowering.{calls, variables_in, functions_in}
use Rattle.efl_variables.specs.declared.variables.Variable.{Variable}
use Rattle.efl_variables.specs.Numbered.{IsListed}
use Rattle.efl_units.specs.Groups.{put_all, group_at, owned_in, called_in}
use Rattle.efl_units.specs.Once.{each_once}
use Rattle.efl_units.proofs.Grouped.{got, group_is}
use Rattle.efl_units.proofs.Owned.{owned_by}
use Rattle.efl_units.proofs.Functions.{called_once, is_caller}

module _ (p : EflProgram) (k : Kind) where
  abbrev many : ℕ
  many = length p.procedures

  pub variables_are : (f : Table) (vs : List Variable) (groups : List (List ℕ)) → AllZip (IsListed f) (program_variables p) vs → groups ≡ put_all (owned_in k 0 vs) (replicate many []) →
      (n : ℕ) → n < many → slice_get groups n ≡ Some (variables_in (program_variables p) n k)
  variables_are f vs groups zip is n lt =
      ap (λ gs. slice_get gs n) is ∙ group_is (owned_in k 0 vs) many n lt ∙ ap (λ g. Some g) (owned_by f n k (program_variables p) vs 0 zip)

  pub functions_are : (callers groups : List (List ℕ)) → callers ≡ put_all (map (λ e. (e.to, e.from)) (edges_of p)) (replicate many []) → groups ≡ put_all (called_in k callers 0 p.procedures) (replicate many []) →
      (n : ℕ) → n < many → option_map each_once (slice_get groups n) ≡ Some (functions_in p n k)
  functions_are callers groups back is n lt =
      ap (λ gs. option_map each_once (slice_get gs n)) is ∙ ap (option_map each_once) (group_is (called_in k callers 0 p.procedures) many n lt)
      ∙ ap (λ g. Some g) (called_once k callers n (calls p n) p.procedures None 0 tt same)
    where
      group : (m : ℕ) → m < many → group_at callers m ≡ got m (map (λ e. (e.to, e.from)) (edges_of p))
      group m high = ap (λ gs. unwrap_or (slice_get gs m) []) back ∙ ap (λ o. unwrap_or o []) (group_is (map (λ e. (e.to, e.from)) (edges_of p)) many m high)

      same : (m : ℕ) → 0 ≤ m → m < 0 + many → list_any (λ c. nat_eq c n) (group_at callers m) ≡ calls p n m
      same m low high = ap (list_any (λ c. nat_eq c n)) (group m (omega (arith, high))) ∙ is_caller n m (edges_of p)
