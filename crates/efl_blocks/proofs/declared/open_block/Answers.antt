-- The names first, and then the variables.
use Rattle.std.proofs.lemmas.Result.{IfOk-weaker}
use Rattle.efl_tree.specs.Views.{decls_of}
use Rattle.efl_blocks.specs.DeclaredViews.{DeclaresAll, Opens}
use Rattle.efl_blocks.proofs.DeclaredLemmas.{block_opened}
use Rattle.efl_blocks.proofs.declared.open_block.Goals as goal

pub returns : goal.returns
returns c =
    let y = c.args.types.now in
    let z = c.declare_all.new.types in
    let beyond = c.args.beyond.now in
    let ds = decls_of c.args.list.now in
    let known = c.name_declared.new.block in
    IfOk-weaker c.declare_all.result (λ block. DeclaresAll y known beyond ds z block) (λ block. Opens y beyond ds z block)
    (λ block declared. block_opened y z c.new-known.result known block beyond ds c.new-known.ensures c.in_ok-name_declared.ensures declared)
    c.declare_all.ensures
