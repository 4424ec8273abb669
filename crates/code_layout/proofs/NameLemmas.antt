-- Where a name stands in a list.
use Rattle.std.proofs.Common.{◌≡◌, ◌+◌, ℕ, zero, Bool, true, false, cond, List, [], ◌∷◌, Option, Some, None, option_map, refl, ap, ◌∙◌, arith}
use Rattle.std.specs.Prelude.{if◌then◌else◌}
use Rattle.std.specs.Str.{bytes_eq}
use Rattle.rule_table.specs.Words.{first_place}
use Rattle.f66_tree.specs.Syntax.{Text}
use Rattle.f66_tree.specs.Units.{one_on, position}

one_more : (o : Option ℕ) → option_map (λ n. n + 1) o ≡ one_on o
one_more None = refl
one_more (Some i) = ap Some (omega arith)

pub position_first : (x : Text) (ys : List Text) → first_place (bytes_eq x) ys ≡ position x ys
position_first x [] = refl
position_first x (y ∷ ys) = here (bytes_eq x y) (one_more (first_place (bytes_eq x) ys)) (position_first x ys)
  where
    here : (b : Bool) → option_map (λ n. n + 1) (first_place (bytes_eq x) ys) ≡ one_on (first_place (bytes_eq x) ys) → first_place (bytes_eq x) ys ≡ position x ys → cond b (Some 0) (option_map (λ n. n + 1) (first_place (bytes_eq x) ys)) ≡ (if b then Some zero else one_on (position x ys))
    here true e f = refl
    here false e f = e ∙ ap one_on f
