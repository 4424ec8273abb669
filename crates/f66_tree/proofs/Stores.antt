-- What a store holds.
use Rattle.std.proofs.Common.{◌≡◌, ◌≢◌, ℕ, suc, List, [], ◌∷◌, refl, ap, ◌∙◌, arith, if◌then◌else◌}
use Rattle.std.specs.Prelude.{All}
use Rattle.std.proofs.lemmas.Bool.{eq-eqb, ne_eqb}
use Rattle.ground.specs.Content.{Content, Nothing}
use Rattle.f66_tree.specs.World.{Store, put_in, fresh}
use Rattle.f66_tree.specs.FirstLaws.{StoreKeeps}

pub read_same : (p : ℕ) (c : Content) (st : Store) → put_in p c st p ≡ c
read_same p c st = ap (λ v. if v then c else st p) (eq-eqb p p refl)

pub read_other : (p q : ℕ) (c : Content) (st : Store) → q ≢ p → put_in p c st q ≡ st q
read_other p q c st apart = ap (λ v. if v then c else st q) (ne_eqb q p apart)

pub fresh_nothing : (presets : List (ℕ × Content)) (q : ℕ) → All (λ preset. q ≢ preset.0) presets → fresh presets q ≡ Nothing
fresh_nothing [] q all = refl
fresh_nothing (preset ∷ presets) q all = read_other preset.0 q preset.1 (fresh presets) (all 0 preset (omega arith)) ∙ fresh_nothing presets q (λ k d below. all (suc k) d (omega arith))

pub store_keeps : StoreKeeps
store_keeps = record { same = read_same; other = read_other; fresh = fresh_nothing }
