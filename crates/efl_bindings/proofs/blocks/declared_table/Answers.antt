-- One declaration more.
use Rattle.std.proofs.Common.{◌+◌, drop, subst}
use Rattle.std.proofs.lemmas.List.{drop_all}
use Rattle.efl_tree.specs.Views.{decl_of, decls_of}
use Rattle.efl_scope.proofs.TreeLemmas.{drop_next}
use Rattle.efl_bindings.proofs.TableLemmas.{DeclarationsLeft, declarations_begun, declaration_passed, declarations_ended}
use Rattle.efl_bindings.proofs.blocks.declared_table.Goals as goal

pub loop-declaration-init : goal.loop-declaration-init
loop-declaration-init c = declarations_begun c.args.home.now (decls_of c.args.list.now) c.new-table.result c.new-table.ensures

pub loop-declaration-preserved : goal.loop-declaration-preserved
loop-declaration-preserved c =
    let l = c.loop-declaration in
    let list = c.args.list.now in
    let d = c.declaration-item.result in
    declaration_passed c.args.home.now (decls_of list) l.table c.declare.new.table (decl_of d) (decls_of (drop (l.declaration-index + 1) list))
    (subst (λ xs. DeclarationsLeft c.args.home.now (decls_of list) l.table (decls_of xs)) (drop_next list l.declaration-index d c.loop-declaration-test.true c.declaration-item.is) l.invariant)
    c.in_ok-declare.ensures

pub returns : goal.returns
returns c =
    let l = c.loop-declaration in
    let list = c.args.list.now in
    declarations_ended c.args.home.now (decls_of list) l.table
    (subst (λ xs. DeclarationsLeft c.args.home.now (decls_of list) l.table (decls_of xs)) (drop_all l.declaration-index list c.loop-declaration-test.false) l.invariant)
