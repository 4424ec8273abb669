-- Lists of declarations in memory, and what is asked of their names.
use Rattle.std.proofs.Common.{◌≡◌, ℕ, List, [], ◌∷◌, map, refl, ap, sym, ◌∙◌}
use Rattle.std.specs.Prelude.{◌||◌}
use Rattle.std.specs.List.{list_any}
use Rattle.rule_table.specs.Words.{first_place, is_below, repeats}
use Rattle.rule_table.proofs.WordLemmas.{list_any_map}
use Rattle.f66_tree.specs.Syntax.{Declared, Act}
use Rattle.unit_rules.specs.Storage.{commons, recommons}

names_seen : {X : Type 0} (seen : X → Declared) (ds : List X) → map (λ d. (seen d).name) ds ≡ map (λ d. d.name) (map seen ds)
names_seen seen [] = refl
names_seen seen (d ∷ ds) = ap (λ ns. (seen d).name ∷ ns) (names_seen seen ds)

-- names that stand in a common block before, or twice in this list
pub again_seen : {X : Type 0} (acts : List Act) (i : ℕ) (seen : X → Declared) (ds : List X) (es : List Declared) → map seen ds ≡ es →
    (list_any (λ d. is_below i (first_place (commons (seen d).name) acts)) ds || repeats (map (λ d. (seen d).name) ds)) ≡ recommons acts i es
again_seen acts i seen ds es e =
    ap (λ b. b || repeats (map (λ d. (seen d).name) ds)) (sym (list_any_map (λ d. is_below i (first_place (commons d.name) acts)) seen ds))
    ∙ ap (λ ns. list_any (λ d. is_below i (first_place (commons d.name) acts)) (map seen ds) || repeats ns) (names_seen seen ds)
    ∙ ap (recommons acts i) e
