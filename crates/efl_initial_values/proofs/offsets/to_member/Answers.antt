-- The member is there, and then its element.
use Rattle.efl_tree.specs.Views.{exprs_of}
use Rattle.efl_types.specs.Types.{member_type}
use Rattle.efl_types.specs.Presets.{member_offset}
use Rattle.efl_initial_values.proofs.OffsetLemmas.{none_of}
use Rattle.efl_initial_values.proofs.PlaceLemmas.{no_element, member_found}
use Rattle.efl_initial_values.proofs.offsets.to_member.Goals as goal

pub returns-in-None : goal.returns-in-None
returns-in-None c = λ f t made rest. no_element t c.args.name.now (exprs_of c.args.subscripts.now) rest (none_of (member_offset c.args.name.now t) (c.in-None.ensures f t made))

pub returns-in-Some : goal.returns-in-Some
returns-in-Some c = λ f t made.
    member_found f c.args.structures.now.list.items t c.args.name.now (exprs_of c.args.subscripts.now) c.args.from.now.before c.in-Some.offset c.add-before.result c.to_element.result
    (c.in-Some.ensures f t made) c.add-before.ensures
    (c.to_element.ensures f (member_type c.args.name.now t) (c.member-member.ensures f t made))
