-- The names of the header are kept, and those of the body behind them.
use Rattle.std.proofs.Common.{ap, sym, ◌∙◌}
use Rattle.std.specs.List.{flat_map}
use Rattle.f66_tree.specs.Views.{header_of}
use Rattle.f66_names.specs.ActViews.{acts_of}
use Rattle.rat_tree.specs.Views.{commands}
use Rattle.rat_check.specs.Parts.{unit_parts}
use Rattle.rat_check.specs.Said.{said_in}
use Rattle.name_alloc.specs.MadeNames.{keeping_all}
use Rattle.rat_lower.specs.Emitted.{header_names, named_in, names_of}
use Rattle.rat_lower.proofs.Emitting.SpareNames.{keeping_append}
use Rattle.rat_lower.proofs.names.keep_unit.Goals as goal

pub returns : goal.returns
returns c =
    let own = header_names (header_of c.args.unit.now.header) in
    let h = header_of c.args.unit.now.header in
    let others = names_of h (commands c.args.unit.now.body.items) in
    c.in_ok-keep_all.ensures ∙ ap (λ v. keeping_all (flat_map named_in (acts_of v)) c.keep_header.new.names) c.deref-2.ensures.value
    ∙ ap (λ acts. keeping_all (flat_map named_in acts) c.keep_header.new.names) (c.in_ok-sayings.ensures ∙ ap (λ b. said_in h (unit_parts (commands b))) c.deref.ensures.value)
    ∙ ap (keeping_all others) c.in_ok-keep_header.ensures
    ∙ sym (keeping_append own others c.args.names.now)
