-- A formal has none, and a variable of an area those of the first procedure that has it.
use Rattle.std.proofs.Common.{refl, sym, ◌∙◌, true, false}
use Rattle.std.specs.Option.{option_map}
use Rattle.efl_scoped.specs.Seen.{table_of}
use Rattle.efl_reading.proofs.CountingLemmas.{formal_places, area_places}
use Rattle.efl_reading.proofs.counting.outer_places.Goals as goal

pub returns-then-is_formal : goal.returns-then-is_formal
returns-then-is_formal c = λ y. formal_places y c.args.site.now c.args.firsts.now c.args.name.now (sym c.is_formal.ensures ∙ c.if-is_formal.true)

pub returns-then-not-is_first : goal.returns-then-not-is_first
returns-then-not-is_first c = λ y.
    area_places y c.args.site.now c.args.firsts.now c.args.name.now (option_map (λ q. q.now) c.area_of.result) false 0 (sym c.is_formal.ensures ∙ c.if-is_formal.false) c.area_of.ensures
    (λ us are. sym c.if-not-is_first.true ∙ c.is_first.ensures us are) (λ us u a v is means. refl)

pub returns : goal.returns
returns c = λ y.
    area_places y c.args.site.now c.args.firsts.now c.args.name.now (option_map (λ q. q.now) c.area_of.result) true c.declared_places.result (sym c.is_formal.ensures ∙ c.if-is_formal.false) c.area_of.ensures
    (λ us are. sym c.if-not-is_first.false ∙ c.is_first.ensures us are)
    (λ us u a v is means. c.declared_places.ensures (table_of y.numbers) y.structures.list.items a.blocks v is.blocks means)
