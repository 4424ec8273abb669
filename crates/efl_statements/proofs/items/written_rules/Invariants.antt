-- What stands before has been seen.
use Rattle.std.proofs.Common.{◌≡◌, drop, map}
use Rattle.efl_tree.specs.Views.{write_item_of}
use Rattle.efl_types.specs.Signatures.{Names}
use Rattle.efl_types.specs.Statements.{written_faults}
use Rattle.efl_scoped.specs.Numbers.{Table}
use Rattle.efl_expressions.specs.FirstRule.{or_lower}
use Rattle.efl_names.specs.NameViews.{Stands}
use Rattle.efl_statements.proofs.WidthLemmas.{all_rule}
use Rattle.efl_statements.proofs.items.written_rules.Given as goal

abbrev pub invariant-loop-item : goal.invariant-loop-item
invariant-loop-item l = (f : Table) (n : Names) → Stands f n l.names →
    or_lower l.rule (all_rule (written_faults n) (map write_item_of (drop l.item-index l.list))) ≡ all_rule (written_faults n) (map write_item_of l.list)
