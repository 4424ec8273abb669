-- Why `first_of` keeps its clauses.
use Rattle.std.proofs.Common.{◌∙◌, map, ap}
use Rattle.f66_tree.specs.Views.{act_of, lines_of, routine_of}
use Rattle.f66_names.specs.DeclarationViews.{context_in, acts_in}
use Rattle.f66_flow.specs.Under.{lines_under}
use Rattle.f66_check.proofs.PartLemmas.{acts_told, context_told, told_by}
use Rattle.f66_check.proofs.sound.first_of.Goals as goal

pub returns-clause-first : goal.returns-clause-first
returns-clause-first c =
    let unit = c.args.unit.now in
    let names = c.in_ok-names.names.declarations in
    let same_acts = acts_told names unit c.in_ok-sayings.sayings.items (c.in_ok-names.ensures.sayings ∙ c.deref-2.ensures.value)
    (c.in_ok-sayings.ensures ∙ ap (map (λ s. act_of s.kind)) c.deref.ensures.value) in
    let same_context = context_told names unit c.in_ok-names.ensures.header same_acts in
    told_by c.args.scope (routine_of unit) (context_in names) (acts_in names) (lines_under c.in_ok-flow.flow) c.first_broken.result same_context same_acts
    (ap lines_of (c.in_ok-flow.ensures ∙ c.deref-3.ensures.value)) c.first_broken.ensures.first
