-- An array has dimensions, and nothing else has.
use Rattle.std.proofs.Common.{sym, ap, ◌∙◌}
use Rattle.f66_tree.specs.Units.{sizes_of}
use Rattle.f66_tree.specs.Views.{par_of}
use Rattle.f66_mentions.specs.UnitViews.{context_in}
use Rattle.rat_said.proofs.Voices.{no_array, an_array}
use Rattle.rat_said.proofs.variables.array_of.Goals as goal

pub returns-then-is_empty : goal.returns-then-is_empty
returns-then-is_empty c =
    let x = c.args.name.now in
    let notes = (context_in c.args.names.now).notes in
    sym (no_array par_of x (sizes_of x notes) c.sizes_of.result.now (c.sizes_of.ensures ∙ ap (λ n. sizes_of n notes) c.as_bytes.ensures) (sym c.is_empty.ensures ∙ c.if-is_empty.true))

pub returns-else-is_empty : goal.returns-else-is_empty
returns-else-is_empty c =
    let x = c.args.name.now in
    let notes = (context_in c.args.names.now).notes in
    sym (an_array par_of x (sizes_of x notes) c.sizes_of.result.now (c.sizes_of.ensures ∙ ap (λ n. sizes_of n notes) c.as_bytes.ensures) (sym c.is_empty.ensures ∙ c.if-is_empty.false))
