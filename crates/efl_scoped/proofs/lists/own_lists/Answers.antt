-- One declaration more.
use Rattle.std.proofs.Common.{◌+◌, drop, subst}
use Rattle.efl_tree.specs.Views.{decl_of, decls_of}
use Rattle.efl_scope.proofs.TreeLemmas.{drop_next}
use Rattle.efl_scoped.specs.Seen.{table_of}
use Rattle.efl_scoped.proofs.ListLemmas.{DeclarationsLeft, declarations_begun, declaration_passed, declarations_ended}
use Rattle.std.proofs.lemmas.List.{drop_all}
use Rattle.efl_scoped.proofs.lists.own_lists.Goals as goal

pub loop-declaration-preserved : goal.loop-declaration-preserved
loop-declaration-preserved c =
    let l = c.loop-declaration in
    let d = c.declaration-item.result in
    let all = c.args.declarations.now in
    let f = table_of c.args.numbers.now in
    let next = c.see_declaration.new in
    declaration_passed f (table_of l.numbers) (table_of next.numbers) (decls_of all) l.known next.known l.lists next.lists (decl_of d) (decls_of (drop (l.declaration-index + 1) all))
    (subst (λ xs. DeclarationsLeft f (decls_of all) (table_of l.numbers) l.known l.lists (decls_of xs)) (drop_next all l.declaration-index d c.loop-declaration-test.true c.declaration-item.is) l.invariant)
    c.in_ok-see_declaration.ensures

pub loop-declaration-init : goal.loop-declaration-init
loop-declaration-init c =
    declarations_begun (table_of c.args.numbers.now) (decls_of c.args.declarations.now) c.new-known.result c.no_lists-lists.result c.new-known.ensures c.no_lists-lists.ensures

pub returns-clause-told : goal.returns-clause-told
returns-clause-told c =
    let l = c.loop-declaration in
    let f = table_of c.args.numbers.now in
    let all = c.args.declarations.now in
    declarations_ended f (table_of l.numbers) (decls_of all) l.known l.lists
    (subst (λ xs. DeclarationsLeft f (decls_of all) (table_of l.numbers) l.known l.lists (decls_of xs)) (drop_all l.declaration-index all c.loop-declaration-test.false) l.invariant)
