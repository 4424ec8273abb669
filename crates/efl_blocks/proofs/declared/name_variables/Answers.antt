-- One name more.
use Rattle.std.proofs.Common.{◌+◌, ◌∷◌, [], drop, subst}
use Rattle.std.proofs.lemmas.List.{drop_all}
use Rattle.efl_tree.specs.Views.{vars_of}
use Rattle.efl_scope.specs.Parts.{names_of}
use Rattle.efl_scope.proofs.TreeLemmas.{drop_next}
use Rattle.efl_scoped.specs.Seen.{table_of}
use Rattle.efl_blocks.proofs.DeclaredLemmas.{NamesLeft, Comes, names_begun, names_passed, names_ended, name_comes}
use Rattle.efl_blocks.proofs.declared.name_variables.Goals as goal

pub loop-variable-init : goal.loop-variable-init
loop-variable-init c = names_begun c.args.block.now (names_of (vars_of c.args.list.now))

pub loop-variable-preserved : goal.loop-variable-preserved
loop-variable-preserved c =
    let l = c.loop-variable in
    let list = c.args.list.now in
    let x = c.variable-item.result in
    let new = c.declare.new.self in
    names_passed c.args.block.now l.block new (names_of (vars_of list)) (x.name ∷ []) (names_of (vars_of (drop (l.variable-index + 1) list)))
    (subst (λ xs. NamesLeft c.args.block.now (names_of (vars_of list)) l.block (names_of (vars_of xs))) (drop_next list l.variable-index x c.loop-variable-test.true c.variable-item.is) l.invariant)
    (name_comes l.block new x.name c.nothing.result (λ y. c.nothing.ensures (table_of y.numbers) y.structures.list.items)
    (subst (λ n. Comes l.block n c.nothing.result new) c.as_bytes.ensures c.in_ok-declare.ensures))

pub returns : goal.returns
returns c =
    let l = c.loop-variable in
    let list = c.args.list.now in
    names_ended c.args.block.now l.block (names_of (vars_of list))
    (subst (λ xs. NamesLeft c.args.block.now (names_of (vars_of list)) l.block (names_of (vars_of xs))) (drop_all l.variable-index list c.loop-variable-test.false) l.invariant)
