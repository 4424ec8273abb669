-- The group gets the number, where there is one.
use Rattle.std.proofs.Common.{[], ◌∷◌, ◌++◌, ◌∙◌, ap, sym}
use Rattle.efl_units.proofs.GroupSteps.{put_set, put_past}
use Rattle.efl_units.proofs.groups.put.Goals as goal

pub returns-in_ok-push : goal.returns-in_ok-push
returns-in_ok-push c = put_set c.args.groups.now c.args.group c.args.number c.index-groups-group.result c.push.new.self c.if-group-groups.true c.index-groups-group.is (c.in_ok-push.ensures.items ∙ ap (λ v. v.items ++ c.args.number ∷ []) (sym c.index-groups-group.is))

pub returns-else-group-groups : goal.returns-else-group-groups
returns-else-group-groups c = put_past c.args.groups.now c.args.group c.args.number c.if-group-groups.false
