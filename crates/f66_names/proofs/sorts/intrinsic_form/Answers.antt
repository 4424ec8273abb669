-- Other lengths are no intrinsic function's.
use Rattle.std.proofs.Common.{◌≡◌, ◌≤◌, ℕ, ap, sym, arith, length, inl, inr}
use Rattle.f66_names.specs.Sorts.{form_by}
use Rattle.f66_names.proofs.IntrinsicLemmas.{no_intrinsic}
use Rattle.f66_names.proofs.sorts.intrinsic_form.Goals as goal

pub returns-then-size-lt3 : goal.returns-then-size-lt3
returns-then-size-lt3 c =
    let x = c.args.name.now in
    let same = ap length c.as_bytes-size.ensures in
    let apart : (k : ℕ) → 3 ≤ k → k ≤ 5 → k ≡ length x → ⊥ =
    λ k low high e. elim c.then-size-lt3.either [ inl short ↦ omega (arith, short, low, e, same) | inr long ↦ omega (arith, long.1, high, e, same) ] in
    sym (ap form_by (no_intrinsic x (apart 3 (omega (arith)) (omega (arith))) (apart 4 (omega (arith)) (omega (arith))) (apart 5 (omega (arith)) (omega (arith)))))
