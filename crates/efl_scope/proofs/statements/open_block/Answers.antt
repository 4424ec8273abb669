-- The variables of the block hide structures around, and then its declarations come.
use Rattle.std.proofs.Common.{ap, ◌∙◌}
use Rattle.std.proofs.lemmas.Result.{IfOk-weaker}
use Rattle.efl_tree.specs.Views.{decls_of}
use Rattle.efl_scope.specs.ScopeRules.{no_name}
use Rattle.efl_scope.specs.Sights.{hiding, declarations_seen, opening_seen}
use Rattle.efl_scope.specs.AreaViews.{agreeing_of}
use Rattle.efl_scope.specs.BlockViews.{known_of}
use Rattle.efl_scope.specs.WalkViews.{walk_of}
use Rattle.efl_scope.proofs.statements.open_block.Goals as goal

pub returns : goal.returns
returns c =
    let known = known_of c.args.setting.now.known.now in
    let ds = decls_of c.args.declarations.now in
    IfOk-weaker c.see_block_declarations.result _ _
    (λ kinds e. e ∙ ap (λ ns. (declarations_seen (agreeing_of c.args.agreeing.now) no_name ds (opening_seen ns (walk_of c.args.walk.now))).sight) (c.in_ok-hide_declared.ensures known ∙ ap (hiding ds) (c.new-kinds.ensures known)))
    c.see_block_declarations.ensures
