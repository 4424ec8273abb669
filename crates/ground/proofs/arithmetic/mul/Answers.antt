-- The product of two integers in range fits 64 bits, so the code's product is the exact one.
use Rattle.std.proofs.Common.{◌*ℤ◌, FitsSigned, w64, lit<}
use Rattle.std.proofs.lemmas.Int.{to_z-of_z, fits_signed_mul}
use Rattle.ground.proofs.arithmetic.mul.Goals as goal

pub returns : goal.returns
returns c =
    let a_fits : FitsSigned w64 c.args.a = c.ranges.a in
    let b_fits : FitsSigned w64 c.args.b = c.ranges.b in
    let fits : FitsSigned w64 (c.args.a *ℤ c.args.b) =
    fits_signed_mul w64 c.args.a c.args.b 2147483647 2147483647 c.requires.first.magnitude c.requires.second.magnitude (lit< tt) in
    simp to_z-of_z at c.in_range.ensures
