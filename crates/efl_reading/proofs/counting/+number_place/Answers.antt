-- The place of the outer block has the number 0, and another its number within the place around it.
use Rattle.std.proofs.Common.{IfOk, ◌∷◌, sym, subst}
use Rattle.std.proofs.lemmas.Result.{IfOk-weaker}
use Rattle.efl_storage.specs.Meets.{IsWithin}
use Rattle.efl_blocks.specs.HomeViews.{position_of}
use Rattle.efl_reading.specs.Counting.{IsPlace}
use Rattle.efl_reading.proofs.CountingLemmas.{place_top, place_inside}
use Rattle.efl_reading.proofs.counting.+number_place.Goals as goal

pub returns-in-Top : goal.returns-in-Top
returns-in-Top t c = subst (λ p. IsPlace c.args.storage.now (position_of p) c.args.storage.now 0) (sym c.in-Top.is) (place_top c.args.storage.now)

pub returns-in_ok-home-in-Inside : goal.returns-in_ok-home-in-Inside
returns-in_ok-home-in-Inside t c =
    let old = c.args.storage.now in
    let mid = c.number_place.new.storage in
    let new = c.place_within.new.self in
    let step = c.in-Inside.step in
    let home = c.in_ok-home-in-Inside.home in
    let rest = position_of c.in-Inside.outside.now in
    subst (λ p. IfOk c.place_within.result (λ m. IsPlace old (position_of p) new m)) (sym c.in-Inside.is)
    (IfOk-weaker c.place_within.result (λ m. IsWithin mid step home new m) (λ m. IsPlace old (step ∷ rest) new m)
    (λ m inside. place_inside old mid new rest step home m c.in_ok-home-in-Inside.ensures inside) c.place_within.ensures)
