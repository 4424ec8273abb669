-- The structure is the last one.
use Rattle.std.proofs.Common.{refl, ap, ◌∙◌}
use Rattle.efl_expressions.specs.declared.types.Element.TheVariants as elements
use Rattle.efl_blocks.proofs.MemberLemmas.{structure_added}
use Rattle.efl_blocks.proofs.types.add_structure.Goals as goal

pub returns : goal.returns
returns c =
    structure_added c.args.types.now _ c.args.summary c.args.members.items (record { summary = c.args.summary; members = c.args.members }) _ refl c.in_ok-push.ensures.items refl refl refl refl
    (ap elements.Structured (c.len-number.ensures ∙ c.args.types.now.structures.list.ok.0))
