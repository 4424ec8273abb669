-- The labels have their numbers, and those that are made come behind them.
use Rattle.std.proofs.Common.{◌∙◌, ap, arith}
use Rattle.std.specs.Prelude.{unwrap_or}
use Rattle.efl_typed_tree.specs.Views.{stmts_of}
use Rattle.efl_lowered.specs.Labels.{all_labels}
use Rattle.efl_units.specs.Numbered.{none_numbered}
use Rattle.efl_units.proofs.NumberLemmas.{label_is, count_all}
use Rattle.efl_units.proofs.naming.name_unit.Goals as goal

pub returns-clause-labels : goal.returns-clause-labels
returns-clause-labels c = λ l. ap (λ s. unwrap_or (s.number l) 0) c.in_ok-labels.ensures ∙ label_is (all_labels (stmts_of c.args.body.now)) l

pub returns-clause-made : goal.returns-clause-made
returns-clause-made c = λ i.
    let count = ap (λ s. s.count) c.in_ok-labels.ensures ∙ count_all (all_labels (stmts_of c.args.body.now)) none_numbered in
    omega (arith, count)
