-- A variable that is not declared.
use Rattle.std.proofs.Common.{sym, ap, ◌∙◌}
use Rattle.efl_scope.specs.Scopes.{implicit_type}
use Rattle.efl_types.specs.Expressions.{undeclared_faults}
use Rattle.efl_expressions.specs.FirstRule.{first_rule}
use Rattle.efl_expressions.proofs.NameLemmas.{none_known}
use Rattle.efl_names.proofs.names.Names.variable_rule.Goals as goal

pub returns-in-None : goal.returns-in-None
returns-in-None c = λ f n stands.
    let ss = c.args.self.now.structures.now.list.items in
    let t = implicit_type n.implied c.args.name.now in
    c.undeclared_rule.ensures f ss t (c.implicit.ensures f n stands)
    ∙ sym (ap (λ o. first_rule (undeclared_faults t o)) (none_known f ss n.blocks c.args.self.now.blocks.now c.args.name.now stands.blocks c.in-None.ensures))
