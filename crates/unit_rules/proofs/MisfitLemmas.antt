-- The values of DATA, one after another.
use Rattle.std.proofs.Common.{◌≡◌, ◌<◌, ◌+◌, ℕ, Bool, List, length, get_or, take, drop, map, ap, sym, ◌∙◌}
use Rattle.std.specs.Prelude.{not, ◌||◌}
use Rattle.std.specs.List.{list_any}
use Rattle.std.proofs.lemmas.List.{take-map, drop-map}
use Rattle.rule_table.proofs.WordLemmas.{list_any_map}
use Rattle.f66_tree.specs.declared.expression.Expr.{Expr}
use Rattle.f66_tree.specs.Syntax.{Formula}
use Rattle.f66_tree.specs.Units.{Context}
use Rattle.f66_tree.specs.Views.{formula_of, initial_of}
use Rattle.f66_names.specs.Kinds.{takes_kind}
use Rattle.f66_names.proofs.SizeLemmas.{read_on}
use Rattle.unit_rules.specs.Types.{kind_seen}
use Rattle.unit_rules.specs.Storage.{has_misfit}

-- the next value, and those behind it
pub misfit_on : (c : Context) (rest now later : List Expr) (vs : List (ℕ × Expr)) (i : ℕ) (v : ℕ × Expr) → i < length vs → v ≡ get_or vs i v →
    now ≡ take v.0 rest → later ≡ drop v.0 rest →
    has_misfit c (map formula_of rest) (map initial_of (drop i vs))
    ≡ (list_any (λ p. not (takes_kind c (formula_of p) (kind_seen c (formula_of v.1)))) now || has_misfit c (map formula_of later) (map initial_of (drop (i + 1) vs)))
misfit_on c rest now later vs i v h is front back =
    let test : Formula → Bool = λ p. not (takes_kind c p (kind_seen c (formula_of v.1))) in
    let ws = map initial_of (drop (i + 1) vs) in
    ap (λ us. has_misfit c (map formula_of rest) (map initial_of us)) (sym (read_on vs i v h is))
    ∙ ap (λ ps. list_any test ps || has_misfit c (drop v.0 (map formula_of rest)) ws) (take-map formula_of v.0 rest ∙ ap (map formula_of) (sym front))
    ∙ ap (λ b. b || has_misfit c (drop v.0 (map formula_of rest)) ws) (list_any_map test formula_of now)
    ∙ ap (λ ps. list_any (λ p. test (formula_of p)) now || has_misfit c ps ws) (drop-map formula_of v.0 rest ∙ ap (map formula_of) (sym back))
