-- The entries of distinct units are those of their layout.
use Rattle.std.proofs.Common.{◌≡◌, cond, ℕ, zero, suc, ◌+◌, inl, inr, List, [], ◌∷◌, Some, slice_get, map, ap, subst, ◌∙◌, arith}
use Rattle.std.proofs.lemmas.Bool.{eq-eqb, ne_eqb}
use Rattle.code_gen.specs.Behaves.{IsAmong}
use Rattle.code_gen.specs.LayingOut.{before, AreDistinct}
use Rattle.code_emit.specs.Entries.{entries_from}

among : (us : List ℕ) (k u : ℕ) → slice_get us k ≡ Some u → IsAmong u us
among [] k u is = (cc)
among (v ∷ us) zero u is = inl (cc)
among (v ∷ us) (suc k) u is = inr (among us k u is)

pub apart : (u v : ℕ) (vs : List ℕ) → (IsAmong v vs → ⊥) → IsAmong u vs → u ≡ v → ⊥
apart u v vs absent m e = absent (subst (λ w. IsAmong w vs) e m)

pub first_before : (size : ℕ → ℕ) (u v : ℕ) (vs : List ℕ) → u ≡ v → before size (v ∷ vs) u ≡ 0
first_before size u v vs e = ap (λ b. cond b 0 (size v + before size vs u)) (eq-eqb u v e)

pub later_before : (size : ℕ → ℕ) (u v : ℕ) (vs : List ℕ) → (u ≡ v → ⊥) → before size (v ∷ vs) u ≡ size v + before size vs u
later_before size u v vs ne = ap (λ b. cond b 0 (size v + before size vs u)) (ne_eqb u v ne)

pub entries_before : (size : ℕ → ℕ) (us : List ℕ) (at k u : ℕ) → AreDistinct us → slice_get us k ≡ Some u → slice_get (entries_from at (map size us)) k ≡ Some (at + before size us u)
entries_before size [] at k u distinct is = (cc)
entries_before size (v ∷ us) at zero u distinct is =
    let same : u ≡ v = (cc) in
    let none = first_before size u v us same in
    let e : at ≡ at + before size (v ∷ us) u = omega arith in
    ap Some e
entries_before size (v ∷ us) at (suc k) u distinct is =
    let later = later_before size u v us (apart u v us distinct.0 (among us k u is)) in
    let e : (at + size v) + before size us u ≡ at + before size (v ∷ us) u = omega arith in
    entries_before size us (at + size v) k u distinct.1 is ∙ ap Some e
