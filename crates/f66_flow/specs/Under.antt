-- The statements that the tables in memory are of, as plain data.
use Rattle.std.specs.Prelude.{List}
use Rattle.f66_tree.specs.Syntax.{Line}
use Rattle.f66_tree.specs.Views.{lines_of}
use Rattle.f66_flow.specs.declared.flow.Flow.{Flow}
use Rattle.f66_flow.specs.declared.labels.Labels.{Labels}

abbrev pub lines_named : Labels → List Line
lines_named labels = lines_of labels.statements.now

abbrev pub lines_under : Flow → List Line
lines_under flow = lines_named flow.labels
