-- The name is no variable's, or it is met by where its block stands.
use Rattle.std.proofs.Common.{sym, ap, ◌∙◌}
use Rattle.std.specs.Option.{option_map}
use Rattle.std.proofs.lemmas.Result.{on_ok_weaker}
use Rattle.efl_blocks.specs.HomeViews.{position_of}
use Rattle.efl_reading.proofs.CountingLemmas.{none_listed, one_listed}
use Rattle.efl_reading.proofs.counting.meet_name.Goals as goal

pub returns-in-None : goal.returns-in-None
returns-in-None c = λ y.
    none_listed y c.args.site.now c.args.firsts.now c.args.name.now c.args.storage.now (sym (ap (option_map (λ p. position_of p.now)) c.in-None.is) ∙ c.home_of.ensures)

pub returns-in_ok-home-in-Some : goal.returns-in_ok-home-in-Some
returns-in_ok-home-in-Some c =
    on_ok_weaker c.meet_named.result
    (λ meets y.
    one_listed y c.args.site.now c.args.firsts.now c.args.name.now (position_of c.in-Some.position.now) c.declared_kind-kind.result c.places_at-places.result c.in_ok-home-in-Some.home c.args.storage.now c.number_place.new.storage c.meet_named.new.self
    (sym (ap (option_map (λ p. position_of p.now)) c.in-Some.is) ∙ c.home_of.ensures) (c.places_at-places.ensures y) c.declared_kind-kind.ensures c.in_ok-home-in-Some.ensures meets)
    c.meet_named.ensures
