-- By where the block stands.
use Rattle.std.proofs.Common.{sym, subst}
use Rattle.efl_scoped.specs.Seen.{table_of}
use Rattle.efl_blocks.specs.HomeViews.{position_of}
use Rattle.efl_reading.specs.Counting.{ArePlaces}
use Rattle.efl_reading.proofs.CountingLemmas.{inside_places}
use Rattle.efl_reading.proofs.counting.places_at.Goals as goal

pub returns-in-Inside : goal.returns-in-Inside
returns-in-Inside c = λ y.
    let s = c.args.site.now in
    let firsts = c.args.firsts.now in
    let x = c.args.name.now in
    let many = c.declared_places.result in
    subst (λ p. ArePlaces y s firsts x (position_of p) many) (sym c.in-Inside.is)
    (inside_places y s firsts x _ _ many (λ us u a v is means. c.declared_places.ensures (table_of y.numbers) y.structures.list.items a.blocks v is.blocks means))

pub returns-in-Top : goal.returns-in-Top
returns-in-Top c = λ y.
    subst (λ p. ArePlaces y c.args.site.now c.args.firsts.now c.args.name.now (position_of p) c.outer_places.result) (sym c.in-Top.is) (c.outer_places.ensures y)
