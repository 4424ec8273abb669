-- A block's statements are those of its list.
use Rattle.std.proofs.Common.{◌≡◌, [], subst}
use Rattle.std.specs.Prelude.{IfOk}
use Rattle.efl_tree.specs.Syntax.{Statement}
use Rattle.efl_tree.proofs.Rows.{block_kind}
use Rattle.efl_parse_values.specs.Values.{value, stmt}
use Rattle.efl_parse_statements.proofs.statements.block.Goals as goal

pub returns : goal.returns
returns c = subst (λ x. IfOk c.stated.result (λ v. value v ≡ stmt (Statement [] c.args.place x))) (block_kind c.args.declarations c.args.body) c.stated.ensures
