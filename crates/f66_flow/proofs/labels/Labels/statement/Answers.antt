-- Why `Labels::statement` keeps its clauses.
use Rattle.std.proofs.Common.{◌∙◌, sym, ap, option_map}
use Rattle.f66_tree.specs.Views.{line_of}
use Rattle.rule_table.proofs.WordLemmas.{got_at}
use Rattle.f66_flow.proofs.PlaceLemmas.{named_at, named_nowhere}
use Rattle.f66_flow.proofs.labels.Labels.statement.Goals as goal

pub returns-in-Some : goal.returns-in-Some
returns-in-Some c =
    ap (option_map line_of) (got_at c.args.self.now.statements.now c.in-Some.place c.get.result c.get.ensures.lookup)
    ∙ named_at c.args.self.now.statements.now c.args.label c.in-Some.place (sym c.in-Some.ensures)

pub returns-in-None : goal.returns-in-None
returns-in-None c = named_nowhere c.args.self.now.statements.now c.args.label (sym c.in-None.ensures)
