-- The type, and then the letters.
use Rattle.std.proofs.lemmas.Result.{on_ok_weaker}
use Rattle.efl_tree.specs.Views.{type_of}
use Rattle.efl_blocks.proofs.OuterLemmas.{text_implied}
use Rattle.efl_blocks.proofs.outer.imply.Goals as goal

pub returns : goal.returns
returns c =
    on_ok_weaker c.give_all.result
    (λ given. text_implied c.args.types.now c.make_type.new.types c.args.known.now c.make_type.new.block c.args.letters.now c.give_all.new.letters c.args.ranges.now
    (type_of c.args.kind.now) c.in_ok-made.made c.in_ok-made.ensures given)
    c.give_all.ensures
