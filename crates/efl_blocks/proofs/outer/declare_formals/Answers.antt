-- One formal more.
use Rattle.std.proofs.Common.{◌+◌, drop, subst}
use Rattle.std.proofs.lemmas.List.{drop_all}
use Rattle.efl_scope.specs.Scopes.{implicit_type}
use Rattle.efl_scope.proofs.TreeLemmas.{drop_next}
use Rattle.efl_scoped.specs.Seen.{table_of}
use Rattle.efl_blocks.specs.Within.{IsIn}
use Rattle.efl_blocks.proofs.DeclaredLemmas.{Comes}
use Rattle.efl_blocks.proofs.OuterLemmas.{FormalsLeft, formals_begun, formal_passed, formals_ended}
use Rattle.efl_blocks.proofs.outer.declare_formals.Goals as goal

pub loop-formal-init : goal.loop-formal-init
loop-formal-init c = formals_begun c.args.letters.now c.args.block.now c.args.formals.now

pub loop-formal-preserved : goal.loop-formal-preserved
loop-formal-preserved c =
    let l = c.loop-formal in
    let letters = c.args.letters.now in
    let list = c.args.formals.now in
    let x = c.formal-item.result in
    let d = c.implicit-implicit.result in
    let new = c.declare.new.self in
    formal_passed letters c.args.block.now l.block new list x (drop (l.formal-index + 1) list) d
    (subst (λ xs. FormalsLeft letters c.args.block.now list l.block xs) (drop_next list l.formal-index x c.loop-formal-test.true c.formal-item.is) l.invariant)
    (λ y rules are. subst (λ n. IsIn y (implicit_type rules n) d) c.as_bytes.ensures (c.implicit-implicit.ensures (table_of y.numbers) y.structures.list.items rules are))
    (subst (λ n. Comes l.block n d new) c.as_bytes-in-loop-formal.ensures c.in_ok-declare.ensures)

pub returns : goal.returns
returns c =
    let l = c.loop-formal in
    let list = c.args.formals.now in
    formals_ended c.args.letters.now c.args.block.now l.block list
    (subst (λ xs. FormalsLeft c.args.letters.now c.args.block.now list l.block xs) (drop_all l.formal-index list c.loop-formal-test.false) l.invariant)
