-- A list is open, or none.
use Rattle.std.proofs.Common.{[], Vec, Global, ap, sym, ◌∙◌}
use Rattle.std.proofs.Common.{List}
use Rattle.f66_tree.specs.declared.statement.Entry.{Entry}
use Rattle.stmt_parts.specs.EntryStates.{around_onto, entries_in, has_some}
use Rattle.stmt_parts.proofs.EntryLemmas.{all_none}
use Rattle.stmt_parts.proofs.entry_stack.Lists.into_entries.Goals as goal

pub returns-then-has_lists : goal.returns-then-has_lists
returns-then-has_lists c =
    all_none (entries_in c.args.self.here) (around_onto c.args.self.around.items [])
    (ap (λ (v : List (Vec Entry Global)). has_some (around_onto v [])) (sym c.deref.ensures.value) ∙ sym c.has_lists.ensures ∙ c.if-has_lists.true)
