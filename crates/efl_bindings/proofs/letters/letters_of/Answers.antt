-- One declaration more.
use Rattle.std.proofs.Common.{◌+◌, drop, subst}
use Rattle.std.proofs.lemmas.List.{drop_all}
use Rattle.efl_tree.specs.Views.{decl_of, decls_of}
use Rattle.efl_scope.proofs.TreeLemmas.{drop_next}
use Rattle.efl_bindings.proofs.LetterLemmas.{RulesLeft, rules_begun, rules_passed, rules_ended}
use Rattle.efl_bindings.proofs.letters.letters_of.Goals as goal

pub loop-declaration-init : goal.loop-declaration-init
loop-declaration-init c = rules_begun (decls_of c.args.declarations.now) c.new-letters.result c.new-letters.ensures

pub loop-declaration-preserved : goal.loop-declaration-preserved
loop-declaration-preserved c =
    let l = c.loop-declaration in
    let list = c.args.declarations.now in
    let d = c.declaration-item.result in
    rules_passed (decls_of list) l.letters c.imply.new.letters (decl_of d) (decls_of (drop (l.declaration-index + 1) list))
    (subst (λ xs. RulesLeft (decls_of list) l.letters (decls_of xs)) (drop_next list l.declaration-index d c.loop-declaration-test.true c.declaration-item.is) l.invariant)
    c.in_ok-imply.ensures

pub returns : goal.returns
returns c =
    let l = c.loop-declaration in
    let list = c.args.declarations.now in
    rules_ended (decls_of list) l.letters
    (subst (λ xs. RulesLeft (decls_of list) l.letters (decls_of xs)) (drop_all l.declaration-index list c.loop-declaration-test.false) l.invariant)
