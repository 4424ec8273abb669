-- The loops are noted, or there are none.
use Rattle.std.proofs.Common.{rules, ◌≡◌, ◌∙◌, [], ap, sym, map, nat_eq, Some, None}
use Rattle.std.specs.HashMap.{get}
use Rattle.code_emit.specs.Turns.{listed, turn_seen}
use Rattle.code_emit.proofs.TurnLemmas.{turns_close}
use Rattle.code_emit.proofs.labels.Labels.turns_at.Goals as goal

pub returns-in_default : goal.returns-in_default
returns-in_default c lines are =
    let found : get nat_eq c.args.self.now.turns c.args.label ≡ None = search rules in
    turns_close c.args.label lines [] (ap (λ o. map turn_seen (listed o)) (sym found) ∙ are c.args.label)

pub returns : goal.returns
returns c lines are =
    let found : get nat_eq c.args.self.now.turns c.args.label ≡ Some c.in-Some.turns.now = search rules in
    turns_close c.args.label lines c.deref.result.now (ap (map turn_seen) c.deref.ensures.value ∙ ap (λ o. map turn_seen (listed o)) (sym found) ∙ are c.args.label)
