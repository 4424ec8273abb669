-- Variable by variable.
use Rattle.std.proofs.Common.{◌+◌, drop, subst}
use Rattle.std.proofs.lemmas.List.{drop_all}
use Rattle.efl_tree.specs.Views.{var_of, vars_of}
use Rattle.efl_scope.proofs.TreeLemmas.{drop_next}
use Rattle.efl_scoped.specs.Seen.{table_of}
use Rattle.efl_statements.proofs.VariableLemmas.{SizesLeft, sizes_begun, size_passed, sizes_ended}
use Rattle.efl_statements.proofs.variables.variables_rule.Goals as goal

pub loop-variable-init : goal.loop-variable-init
loop-variable-init c = sizes_begun c.args.formals.now (table_of c.args.numbers.now) c.args.kind (vars_of c.args.list.now)

pub loop-variable-preserved : goal.loop-variable-preserved
loop-variable-preserved c =
    let l = c.loop-variable in
    let formals = c.args.formals.now in
    let f = table_of c.args.numbers.now in
    let g = table_of l.numbers in
    let h = table_of c.variable_rule.new.numbers in
    let list = c.args.list.now in
    let x = c.variable-item.result in
    size_passed formals f g h c.args.kind (vars_of list) l.rule c.in_ok-own.own c.lower-rule.result (var_of x) (vars_of (drop (l.variable-index + 1) list))
    (subst (λ xs. SizesLeft formals f c.args.kind (vars_of list) g l.rule (vars_of xs)) (drop_next list l.variable-index x c.loop-variable-test.true c.variable-item.is) l.invariant)
    c.in_ok-own.ensures.kept c.in_ok-own.ensures.first c.lower-rule.ensures

pub returns : goal.returns
returns c =
    let l = c.loop-variable in
    let formals = c.args.formals.now in
    let f = table_of c.args.numbers.now in
    let g = table_of l.numbers in
    let list = c.args.list.now in
    let left = subst (λ xs. SizesLeft formals f c.args.kind (vars_of list) g l.rule (vars_of xs)) (drop_all l.variable-index list c.loop-variable-test.false) l.invariant in
    record { kept = left.grows; first = sizes_ended formals f g c.args.kind (vars_of list) l.rule left }
