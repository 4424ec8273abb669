-- Why `labels_of` keeps its clauses.
use Rattle.std.proofs.Common.{◌∙◌, sym}
use Rattle.f66_tree.specs.Views.{line_of}
use Rattle.f66_tree.specs.Execution.{has_label}
use Rattle.f66_flow.proofs.PlaceLemmas.{first_place-map}
use Rattle.f66_flow.proofs.labels.labels_of.Goals as goal

pub invariant_of-result : goal.invariant_of-result
invariant_of-result c = record {
  named = λ l. c.in_ok-places.ensures l ∙ sym (first_place-map (λ s. has_label l s.label) line_of c.args.statements.now);
}
