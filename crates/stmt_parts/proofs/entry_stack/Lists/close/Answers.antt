-- The innermost list, and the one around it.
use Rattle.std.proofs.Common.{[], ◌∷◌, Vec, Global, ap, sym, ◌∙◌}
use Rattle.f66_tree.specs.declared.statement.Entry.{Entry}
use Rattle.stmt_parts.specs.EntryStates.{around_onto, entries_in}
use Rattle.stmt_parts.proofs.EntryLemmas.{around_popped}
use Rattle.stmt_parts.proofs.entry_stack.Lists.close.Goals as goal

pub returns-in-Some : goal.returns-in-Some
returns-in-Some c = (
  ap entries_in c.replace.ensures.value,
  around_popped c.args.self.now.around.items c.pop.new.self.items c.in-Some.outer c.in-Some.ensures.items
      ∙ ap (λ (v : Vec Entry Global). entries_in v ∷ around_onto c.pop.new.self.items []) (sym c.replace.ensures.after),
)
