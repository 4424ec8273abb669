-- A switch's clauses are those of its list.
use Rattle.std.proofs.Common.{◌≡◌, [], subst}
use Rattle.std.specs.Prelude.{IfOk}
use Rattle.efl_tree.specs.Syntax.{Statement}
use Rattle.efl_tree.proofs.Rows.{switch_kind}
use Rattle.efl_parse_values.specs.Values.{value, stmt}
use Rattle.efl_parse_statements.proofs.statements.switch.Goals as goal

pub returns : goal.returns
returns c = subst (λ x. IfOk c.stated.result (λ v. value v ≡ stmt (Statement [] c.args.place x))) (switch_kind c.args.test c.args.list) c.stated.ensures
