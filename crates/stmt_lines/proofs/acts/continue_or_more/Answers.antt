-- The word alone, or what is tried behind it.
use Rattle.std.proofs.Common.{◌≡◌, subst}
use Rattle.std.specs.Prelude.{IfOk}
use Rattle.f66_tree.specs.Syntax as f66
use Rattle.stmt_reader.specs.Acts.{act_if}
use Rattle.stmt_lines.specs.Orders.{stops_or_more}
use Rattle.stmt_lines.proofs.BareLemmas.{taken, passed}
use Rattle.stmt_lines.proofs.acts.continue_or_more.Goals as goal

pub returns-then-branch : goal.returns-then-branch
returns-then-branch c = taken _ f66.Continue _ (stops_or_more c.args.tokens.now) (c.in_ok-is_bare.ensures f66.Continue) c.if-branch.true

pub returns : goal.returns
returns c = subst (λ v. IfOk c.stop_or_more.result (λ s. act_if s ≡ v)) (passed _ f66.Continue _ (stops_or_more c.args.tokens.now) (c.in_ok-is_bare.ensures f66.Continue) c.if-branch.false) c.stop_or_more.ensures
