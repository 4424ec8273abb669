-- The value of the place with a number, where numbers do not repeat.
use Rattle.std.proofs.Common.{◌≡◌, ◌<◌, ℕ, zero, suc, nat_eq, Bool, true, false, List, [], ◌∷◌, length, slice_index, Some, refl, ap, ◌∙◌, arith}
use Rattle.std.specs.Prelude.{if◌then◌else◌}
use Rattle.std.specs.List.{slice_get}
use Rattle.std.proofs.lemmas.Bool.{eqb-true, eq-eqb}
use Rattle.ground.specs.Content.{Content, Nothing}
use Rattle.f66_program.specs.Initial.{Preset}
use Rattle.storage_rules.specs.Repeats.{HasNoRepeat}
use Rattle.whole_program.specs.Linkage.{value_at}

-- a choice by a test, where only one way is left

chosen : (b : Bool) (x y : Content) → b ≡ true → (if b then x else y) ≡ x
chosen true x y e = refl
chosen false x y e = absurd (cc)

passed : (b : Bool) (x y : Content) → (b ≡ true → ⊥) → (if b then x else y) ≡ y
passed true x y e = absurd (e refl)
passed false x y e = refl

fewer_repeats : (n : ℕ) (ns : List ℕ) → HasNoRepeat (n ∷ ns) → HasNoRepeat ns
fewer_repeats n ns none k lt r = none (suc k) (omega (arith, lt)) (suc r.0, (let l = r.1 in omega (arith, l)), r.2)

pub value_there : (ns : List ℕ) (ps : List Preset) (k : ℕ) (p : Preset) → HasNoRepeat ns → k < length ns → slice_get ps k ≡ Some p → value_at ns ps (slice_index ns k) ≡ p.value
value_there [] ps k p none lt here = absurd (omega (arith, lt))
value_there (n ∷ ns) [] k p none lt here = absurd (cc)
value_there (n ∷ ns) (q ∷ ps) zero p none lt here = chosen (nat_eq n n) q.value (value_at ns ps n) (eq-eqb n n refl) ∙ (let same : q ≡ p = (let g : Some q ≡ Some p = here in cc) in ap (λ q. q.value) same)
value_there (n ∷ ns) (q ∷ ps) (suc k) p none lt here =
    let m = slice_index ns k in
    passed (nat_eq n m) q.value (value_at ns ps m) (λ e. none (suc k) lt (0, omega arith, eqb-true n m e))
    ∙ value_there ns ps k p (fewer_repeats n ns none) (omega (arith, lt)) here

pub no_value : (ns : List ℕ) (ps : List Preset) (m : ℕ) → ((k : ℕ) (p : Preset) → k < length ns → slice_get ps k ≡ Some p → slice_index ns k ≡ m → ⊥) → value_at ns ps m ≡ Nothing
no_value [] ps m none = refl
no_value (n ∷ ns) [] m none = refl
no_value (n ∷ ns) (q ∷ ps) m none =
    passed (nat_eq n m) q.value (value_at ns ps m) (λ e. none 0 q (omega arith) refl (eqb-true n m e)) ∙ no_value ns ps m (λ k p lt here e. none (suc k) p (omega (arith, lt)) here e)
