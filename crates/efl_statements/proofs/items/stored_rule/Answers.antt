-- What the store breaks, and what the place breaks itself.
use Rattle.std.proofs.Common.{sym}
use Rattle.efl_tree.specs.Views.{place_of}
use Rattle.efl_types.specs.Expressions.{store_wants, place_faults}
use Rattle.efl_places.proofs.RuleLemmas.{both_are}
use Rattle.efl_statements.proofs.items.stored_rule.Goals as goal

pub returns : goal.returns
returns c = λ f n stands.
    let ss = c.args.names.now.structures.now.list.items in
    let p = place_of c.args.place.now in
    let is = c.check_place-placed.ensures f n stands in
    both_are c.lower.result c.store_rule.result c.check_place-placed.result.rule (store_wants n c.args.kind p) (place_faults n p) c.lower.ensures
    (c.store_rule.ensures f ss n p is) (sym is.rule)
