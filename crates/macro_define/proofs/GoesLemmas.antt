-- Calls that go from what is told to what is left, at a `?`.
use Rattle.std.proofs.Common.{◌≡◌, Result, Err, sym, ◌∙◌, subst}
use Rattle.std.specs.Prelude.{IsErr}
use Rattle.std.specs.Result.{IsErrAnd}
use Rattle.std.proofs.lemmas.Result.{err_from_is_err_and}
use Rattle.ground.specs.declared.fault.Fault.{Fault}
use Rattle.ground.specs.declared.fault.Refusal.{Refusal}
use Rattle.ground.specs.declared.fault.Refusal.TheVariants.{Fault as Faulty, Memory as WantOfMemory}
use Rattle.macro_define.specs.Made.{Goes}

goes-refused : (B D : Type 0) {A C : Type 0} (told later : Result A Fault) (x y : Result C Fault) (e : Refusal)
    → Goes {B = B} told (Err e) later → ((fault : Fault) → told ≡ Err fault → x ≡ Err fault) → Goes {B = D} x (Err e) y
goes-refused B D told later x y (Faulty fault) h on = on fault h
goes-refused B D told later x y WantOfMemory h on = Prim.tt

-- a call that refused, and what is told around it
pub goes-failed : (B D : Type 0) {A C : Type 0} (told later : Result A Fault) (x y : Result C Fault) (e : Refusal) (r : Result D Refusal)
    → Goes {B = B} told (Err e) later → ((fault : Fault) → told ≡ Err fault → x ≡ Err fault) → IsErr r × IsErrAnd r (λ f. f ≡ e) → Goes x r y
goes-failed B D told later x y e r h on is =
    let p = err_from_is_err_and r is.1 in
    let same : r ≡ Err e = p.1 ∙ (λ i. Err (p.2 i)) in
    subst (λ q. Goes {B = D} x q y) (sym same) (goes-refused B D told later x y e h on)
