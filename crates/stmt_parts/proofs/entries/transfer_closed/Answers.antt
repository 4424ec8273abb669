-- A parenthesis closes the unit and the format, or not.
use Rattle.std.proofs.Common.{rules, ◌≡◌, Option, subst}
use Rattle.std.specs.Prelude.{IfOk}
use Rattle.f66_tree.specs.Syntax.{Act}
use Rattle.stmt_reader.specs.Acts.{act_if}
use Rattle.stmt_parts.specs.EntryStates.{transfer_by}
use Rattle.stmt_parts.proofs.RecordLemmas.{record_closed, record_wrong}
use Rattle.stmt_parts.proofs.entries.transfer_closed.Goals as goal

pub returns-then-not-is_close : goal.returns-then-not-is_close
returns-then-not-is_close c = record_wrong (transfer_by c.args.way) c.args.unit.now c.args.format c.args.tokens.now c.token-item.result c.token-item.is c.in-len1-up.len_at_least (search rules)

pub returns-else-not-is_close : goal.returns-else-not-is_close
returns-else-not-is_close c =
    subst (λ (x : Option Act). IfOk c.transfer.result (λ s. act_if s ≡ x))
    (record_closed (transfer_by c.args.way) c.args.unit.now c.args.format c.args.tokens.now c.token-item.result c.token-item.is c.in-len1-up.len_at_least (search rules)) c.transfer.ensures
