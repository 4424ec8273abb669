-- The value is built from the parts of the innermost production.
use Rattle.std.proofs.Common.{ap, ◌∙◌}
use Rattle.grammar.proofs.StackLemmas.{split_parts, split_rest}
use Rattle.grammar.proofs.stack.make.Goals as goal

pub returns-clause-made : goal.returns-clause-made
returns-clause-made g c =
    let stack = c.args.stack.now in
    c.in_ok-value.ensures
    ∙ ap (g.L.Language.grammar.build stack.top.production)
    (split_parts g.L.Language.view stack.top.count stack.values.items c.take_parts.new.values.items c.take_parts.new.parts.items c.in_ok-take_parts.ensures)

pub returns-clause-below : goal.returns-clause-below
returns-clause-below g c =
    let stack = c.args.stack.now in
    split_rest g.L.Language.view stack.top.count stack.values.items c.take_parts.new.values.items c.take_parts.new.parts.items c.in_ok-take_parts.ensures
