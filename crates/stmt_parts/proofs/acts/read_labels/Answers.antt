-- Labels in memory are numbers.
use Rattle.std.proofs.Common.{Some, sym, ap, ◌∙◌}
use Rattle.stmt_parts.specs.Lists.{list_if}
use Rattle.stmt_parts.proofs.ListLemmas.{labels_same}
use Rattle.stmt_parts.proofs.acts.read_labels.Goals as goal

pub returns-in-Some : goal.returns-in-Some
returns-in-Some c = labels_same (Some c.in-Some.labels) ∙ ap (list_if (λ l. l)) (sym c.in-Some.is) ∙ c.in_ok-read_list.ensures
