-- What is told of them, and then the members.
use Rattle.std.proofs.Common.{refl}
use Rattle.efl_tree.specs.Views.{vars_of}
use Rattle.efl_blocks.proofs.MemberLemmas.{members_taken}
use Rattle.efl_blocks.proofs.types.take_members.Goals as goal

pub returns : goal.returns
returns c =
    let y = c.args.types.now in
    members_taken y (record y { numbers = c.with_members.new.numbers }) c.add_members.new.types c.args.kind c.args.before c.in_ok-after.after (vars_of c.args.list.now)
    c.args.members.now.items c.add_members.new.members.items refl c.in_ok-after.ensures c.in_ok-add_members.ensures
