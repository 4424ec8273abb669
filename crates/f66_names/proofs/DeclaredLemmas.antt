-- Lists of declarations in memory, and their names.
use Rattle.std.proofs.Common.{◌≡◌, ◌∷◌, Bool, true, false, cond, List, [], map, filter, refl, ap}
use Rattle.std.proofs.lemmas.Grind.{common_steps}
use Rattle.f66_tree.specs.declared.declaration.Declared.{Declared}
use Rattle.f66_tree.specs.Views.{declared_of}
use Rattle.rule_table.proofs.WordLemmas.{list_any_map, list_any_filter}
use Rattle.f66_names.specs.Declaring.{is_sized}

pub names_seen : (ds : List Declared) → map (λ d. d.name) (map declared_of ds) ≡ map (λ d. d.name) ds
names_seen [] = refl
names_seen (d ∷ ds) = ap (λ xs. d.name ∷ xs) (names_seen ds)

pub sized_seen : (ds : List Declared) → filter is_sized (map declared_of ds) ≡ map declared_of (filter (λ d. is_sized (declared_of d)) ds)
sized_seen [] = refl
sized_seen (d ∷ ds) = by (is_sized (declared_of d)) (sized_seen ds)
  where
    by : (b : Bool) → filter is_sized (map declared_of ds) ≡ map declared_of (filter (λ d. is_sized (declared_of d)) ds) →
        cond b (declared_of d ∷ filter is_sized (map declared_of ds)) (filter is_sized (map declared_of ds))
        ≡ map declared_of (cond b (d ∷ filter (λ e. is_sized (declared_of e)) ds) (filter (λ e. is_sized (declared_of e)) ds))
    by true e = ap (λ xs. declared_of d ∷ xs) e
    by false e = e

pub ruleset declared_steps = (common_steps, list_any_map, list_any_filter, names_seen, sized_seen)
