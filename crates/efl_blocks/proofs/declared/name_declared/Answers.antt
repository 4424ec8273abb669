-- One declaration more.
use Rattle.std.proofs.Common.{◌+◌, drop, subst}
use Rattle.std.proofs.lemmas.List.{drop_all}
use Rattle.efl_tree.specs.Views.{decl_of, decls_of}
use Rattle.efl_scope.proofs.TreeLemmas.{drop_next}
use Rattle.efl_blocks.specs.DeclaredViews.{declared_names, named_by}
use Rattle.efl_blocks.proofs.DeclaredLemmas.{NamesLeft, names_begun, names_passed, names_ended}
use Rattle.efl_blocks.proofs.declared.name_declared.Goals as goal

pub loop-declaration-init : goal.loop-declaration-init
loop-declaration-init c = names_begun c.args.block.now (declared_names (decls_of c.args.list.now))

pub loop-declaration-preserved : goal.loop-declaration-preserved
loop-declaration-preserved c =
    let l = c.loop-declaration in
    let list = c.args.list.now in
    let d = c.declaration-item.result in
    names_passed c.args.block.now l.block c.name_by.new.block (declared_names (decls_of list)) (named_by (decl_of d).kind) (declared_names (decls_of (drop (l.declaration-index + 1) list)))
    (subst (λ xs. NamesLeft c.args.block.now (declared_names (decls_of list)) l.block (declared_names (decls_of xs)))
    (drop_next list l.declaration-index d c.loop-declaration-test.true c.declaration-item.is) l.invariant)
    c.in_ok-name_by.ensures

pub returns : goal.returns
returns c =
    let l = c.loop-declaration in
    let list = c.args.list.now in
    names_ended c.args.block.now l.block (declared_names (decls_of list))
    (subst (λ xs. NamesLeft c.args.block.now (declared_names (decls_of list)) l.block (declared_names (decls_of xs))) (drop_all l.declaration-index list c.loop-declaration-test.false) l.invariant)
