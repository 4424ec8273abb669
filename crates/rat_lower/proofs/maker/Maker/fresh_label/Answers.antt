-- The next label is the one that the order of labels gives, and the order stays.
use Rattle.rat_lower.proofs.Emitting.MadeLabels.{order_kept, label_made}
use Rattle.rat_lower.proofs.maker.Maker.fresh_label.Goals as goal

pub invariant_of-self : goal.invariant_of-self
invariant_of-self c = order_kept c.fresh_label.result c.self.inside.names c.fresh_label.new.self c.self.invariant c.fresh_label.ensures.made c.fresh_label.ensures.kept

pub returns-clause-label : goal.returns-clause-label
returns-clause-label c = label_made c.fresh_label.result c.self.inside.names.labels c.self.inside.spare c.self.inside.own c.args.self.now c.self.invariant c.self.view_is c.fresh_label.ensures.label
