-- Why `untested` gives its clause.
use Rattle.std.proofs.Common.{true, map, ap, ◌∙◌}
use Rattle.f66_tree.specs.Views.{formula_of, chained}
use Rattle.rat_tree.specs.Syntax.{AndClause}
use Rattle.rat_tree.specs.Views.{commands}
use Rattle.rat_parse_values.proofs.TreeLemmas.{whole_clause}
use Rattle.rat_descent.proofs.control.untested.Goals as goal

pub returns : goal.returns
returns c =
    whole_clause c.new-tests.result true c.args.body c.args.place
    ∙ ap (λ tests rest. AndClause (chained (map formula_of tests)) true (commands c.args.body.items) c.args.place rest) c.new-tests.ensures.items
