-- The end of a walk over places with their numbers.
use Rattle.std.proofs.Common.{◌≡◌, ◌≤◌, ℕ, zero, suc, List, [], ◌∷◌, ◌++◌, length, drop, Option, refl, sym, ap, ◌∙◌, arith, append-nil}
use Rattle.ground.specs.declared.value.Value.{Value}
use Rattle.storage_rules.specs.declared.preset.Preset.{Preset}
use Rattle.whole_program.specs.Linked.{initial_in}

nothing_behind : (ns : List ℕ) (ps : List Preset) (k : ℕ) → length ps ≤ k → initial_in ns (drop k ps) ≡ []
nothing_behind [] ps k le = refl
nothing_behind (n ∷ ns) [] zero le = refl
nothing_behind (n ∷ ns) [] (suc k) le = refl
nothing_behind (n ∷ ns) (p ∷ ps) zero le = absurd (omega (arith, le))
nothing_behind (n ∷ ns) (p ∷ ps) (suc k) le = nothing_behind (n ∷ ns) ps k (omega (arith, le))

-- behind the last place all pairs are there
pub all_there : (done all : List (ℕ × Option Value)) (ns : List ℕ) (ps : List Preset) (k : ℕ) → length ps ≤ k → done ++ initial_in (drop k ns) (drop k ps) ≡ all → done ≡ all
all_there done all ns ps k le e = sym (ap (λ xs. done ++ xs) (nothing_behind (drop k ns) ps k le) ∙ append-nil done) ∙ e
