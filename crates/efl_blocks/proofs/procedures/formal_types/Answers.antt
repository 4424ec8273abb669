-- One formal more.
use Rattle.std.proofs.Common.{◌+◌, drop, sym, subst}
use Rattle.std.proofs.lemmas.List.{drop_all}
use Rattle.efl_scope.specs.DataTypes.{NoType}
use Rattle.efl_scope.specs.Scopes.{meaning}
use Rattle.efl_scope.proofs.TreeLemmas.{drop_next}
use Rattle.efl_types.specs.Signatures.{type_by}
use Rattle.efl_scoped.specs.Seen.{table_of}
use Rattle.efl_blocks.specs.Within.{IsIn}
use Rattle.efl_blocks.proofs.WithinLemmas.{within_known}
use Rattle.efl_blocks.proofs.ProcedureLemmas.{TypesLeft, type_passed, types_ended}
use Rattle.efl_expressions.specs.declared.names.Blocks.TheBlock.{Outside}
use Rattle.efl_blocks.proofs.procedures.formal_types.Goals as goal

pub loop-formal-preserved : goal.loop-formal-preserved
loop-formal-preserved c =
    let l = c.loop-formal in
    let list = c.args.formals.now in
    let block = c.args.block.now in
    let x = c.formal-item.result in
    let d = c.variable_type-kind.result in
    let rest = drop (l.formal-index + 1) list in
    subst (λ ds. TypesLeft block list rest ds) (sym c.in_ok-push.ensures.items)
    (type_passed block list x rest l.all.items d
    (subst (λ xs. TypesLeft block list xs l.all.items) (drop_next list l.formal-index x c.loop-formal-test.true c.formal-item.is) l.invariant)
    (λ y bs is. subst (λ n. IsIn y (type_by NoType (meaning bs n)) d) c.as_bytes.ensures
    (c.variable_type-kind.ensures (table_of y.numbers) y.structures.list.items bs NoType (within_known y bs block Outside is) (c.nothing-none.ensures (table_of y.numbers) y.structures.list.items))))

pub returns : goal.returns
returns c =
    let l = c.loop-formal in
    let list = c.args.formals.now in
    types_ended c.args.block.now list l.all.items
    (subst (λ xs. TypesLeft c.args.block.now list xs l.all.items) (drop_all l.formal-index list c.loop-formal-test.false) l.invariant)
