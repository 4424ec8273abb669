-- One declaration more, and in the end all variables of the procedure.
use Rattle.std.proofs.Common.{[], ◌∷◌, ◌+◌, drop, sym, subst}
use Rattle.std.proofs.lemmas.List.{drop_all}
use Rattle.efl_tree.specs.Views.{decl_of, decls_of}
use Rattle.efl_scope.specs.Scopes.{declared_in, naming}
use Rattle.efl_scope.proofs.TreeLemmas.{drop_next}
use Rattle.efl_initial_values.specs.Surveys.{Holds}
use Rattle.efl_initial_values.proofs.AreaLemmas.{DeclarationsLeft, declarations_begun, declaration_passed, declarations_ended, all_known}
use Rattle.efl_initial_values.proofs.areas.areas_of.Goals as goal

pub loop-declaration-init : goal.loop-declaration-init
loop-declaration-init c = λ bs. declarations_begun bs (decls_of c.args.declarations.now) c.new-members.result c.new-areas.result c.new-members.ensures c.new-areas.ensures

pub loop-declaration-preserved : goal.loop-declaration-preserved
loop-declaration-preserved c = λ bs.
    let l = c.loop-declaration in
    let d = c.declaration-item.result in
    let all = c.args.declarations.now in
    let next = c.add_declared.new in
    let whole = declared_in [] bs (decls_of all) in
    declaration_passed whole (decl_of d) (decls_of (drop (l.declaration-index + 1) all)) l.members next.members l.areas next.areas
    (subst (λ xs. DeclarationsLeft whole (decls_of xs) l.members l.areas) (drop_next all l.declaration-index d c.loop-declaration-test.true c.declaration-item.is) (l.invariant bs))
    c.in_ok-add_declared.ensures

pub returns : goal.returns
returns c = λ u are.
    let l = c.loop-declaration in
    let all = c.args.declarations.now in
    let bs = naming u.declarations ∷ [] in
    let whole = declared_in [] bs (decls_of all) in
    all_known u l.members l.areas
    (subst (λ ds. Holds (declared_in [] bs ds) l.members l.areas) (sym are)
    (declarations_ended whole l.members l.areas
    (subst (λ xs. DeclarationsLeft whole (decls_of xs) l.members l.areas) (drop_all l.declaration-index all c.loop-declaration-test.false) (l.invariant bs))))
