-- The formats before have their plans.
use Rattle.std.proofs.Common.{◌≡◌, ◌++◌, drop}
use Rattle.f66_tree.specs.Views.{lines_of}
use Rattle.code_emit.specs.Plans.{formats_in}
use Rattle.code_emit.proofs.FormatLemmas.{AreShallow}
use Rattle.code_emit.proofs.formats.put_plans.Given as goal

abbrev pub invariant-loop-statement : goal.invariant-loop-statement
invariant-loop-statement g l = record {
  shallow : AreShallow (formats_in (lines_of (drop l.statement-index l.statements)));
  put : l.plans.items ++ formats_in (lines_of (drop l.statement-index l.statements)) ≡ l.initial.plans.items ++ formats_in (lines_of l.statements);
}
