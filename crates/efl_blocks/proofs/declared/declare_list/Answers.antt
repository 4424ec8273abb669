-- The type, and then the variables.
use Rattle.std.proofs.lemmas.Result.{on_ok_weaker}
use Rattle.efl_tree.specs.Views.{type_of, vars_of}
use Rattle.efl_blocks.proofs.DeclaredLemmas.{list_added}
use Rattle.efl_blocks.proofs.declared.declare_list.Goals as goal

pub returns : goal.returns
returns c =
    on_ok_weaker c.add_variables.result
    (λ added. list_added c.args.types.now c.make_type.new.types c.add_variables.new.types c.args.known.now c.make_type.new.block c.args.block.now c.add_variables.new.block c.args.beyond.now
    (type_of c.args.kind.now) (vars_of c.args.list.now) c.in_ok-made.made c.in_ok-made.ensures added)
    c.add_variables.ensures
