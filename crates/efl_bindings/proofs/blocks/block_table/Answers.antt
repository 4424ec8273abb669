-- The table of the block at its place.
use Rattle.std.proofs.Common.{refl}
use Rattle.std.proofs.lemmas.Result.{IfOk-weaker}
use Rattle.efl_tree.specs.Views.{decls_of}
use Rattle.efl_bindings.proofs.SiteLemmas.{opened_to}
use Rattle.efl_bindings.proofs.blocks.block_table.Goals as goal

pub returns : goal.returns
returns c =
    IfOk-weaker c.declared_table.result _ _ (λ t declared. opened_to (decls_of c.args.declarations.now) c.args.site.now _ t refl refl refl declared) c.declared_table.ensures
