-- One subscript more moves the place.
use Rattle.std.proofs.Common.{◌≡◌, ◌∙◌, ◌*◌, ◌+ℤ◌, ◌-ℤ◌, ◌*ℤ◌, pos, unsigned_abs, map, rules, w64, sym, ap}
use Rattle.std.proofs.lemmas.Int.{to_z-of_z}
use Rattle.f66_tree.specs.Views.{chained, formula_of, par_of}
use Rattle.f66_program.specs.Association.{shift}
use Rattle.storage_assoc.proofs.GroupLemmas.{shift_more}
use Rattle.storage_assoc.proofs.equivalences.+shift.Goals as goal

pub returns : goal.returns
returns t c = λ m is.
    let n = c.in-Some-Number-default in
    let s = c.in-Some-Int-default in
    let all = c.in_ok-all.all in
    let here = c.in_ok-here.here in
    let beyond = c.in_ok-beyond.beyond in
    let gap = c.in_ok-difference.field-0 in
    let wide = c.in_ok-widened.field-0 in
    let step_is : c.args.step ≡ pos m = is in
    let all_is : all ≡ here +ℤ beyond = rw (to_z-of_z w64 here (search rules), to_z-of_z w64 beyond (search rules)) at c.in_ok-all.ensures in
    let gap_is : gap ≡ (s.subscript -ℤ pos 1) = rw (s.subscript-is, to_z-of_z w64 s.subscript (search rules)) at c.in_ok-difference.ensures in
    let here_is : here ≡ (s.subscript -ℤ pos 1) *ℤ pos m = rw (to_z-of_z w64 gap (search rules) ∙ gap_is, to_z-of_z w64 c.args.step (search rules) ∙ step_is) at c.in_ok-here.ensures in
    let wide_is : wide ≡ pos (m * unsigned_abs n.size) = rw (to_z-of_z w64 n.size (search rules)) at (c.in_ok-widened.ensures m (to_z-of_z w64 c.args.step (search rules) ∙ step_is)) in
    let beyond_is : beyond ≡ shift (m * unsigned_abs n.size) (map par_of n.sizes.now) (chained (map formula_of s.subscripts.now)) =
    c.in_ok-beyond.ensures (m * unsigned_abs n.size) (to_z-of_z w64 wide (search rules) ∙ wide_is) in
    to_z-of_z w64 all (search rules)
    ∙ all_is
    ∙ ap (λ h. h +ℤ beyond) here_is
    ∙ ap (λ b. ((s.subscript -ℤ pos 1) *ℤ pos m) +ℤ b) beyond_is
    ∙ sym (shift_more m c.args.sizes.now n.sizes.now _ n.size c.args.subscripts.now s.subscripts.now _ s.subscript n.ensures.cases.0 n.field-0-0-is s.ensures.cases.0 s.field-0-0-is)
