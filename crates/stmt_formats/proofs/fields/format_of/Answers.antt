-- One pair of parentheses.
use Rattle.std.proofs.Common.{◌≡◌, Option, subst}
use Rattle.std.specs.Prelude.{IfOk}
use Rattle.f66_tree.specs.Syntax.{Act}
use Rattle.stmt_reader.specs.Acts.{act_if}
use Rattle.stmt_reader.specs.Formats.{Ends, Then}
use Rattle.stmt_formats.specs.States.{format_of_items}
use Rattle.stmt_formats.proofs.ItemLemmas.{nest_seen}
use Rattle.stmt_formats.proofs.fields.format_of.Goals as goal

pub returns-in-Nest : goal.returns-in-Nest
returns-in-Nest c =
    subst (λ (x : Option Act). IfOk c.format_nest.result (λ s. act_if s ≡ x))
    (nest_seen (λ i. format_of_items (Then i Ends)) c.args.item.now c.in-Nest.count c.in-Nest.inside c.deref.result.now c.in-Nest.is c.deref.ensures.value) c.format_nest.ensures
