-- An implied DO stands in the list around it.
use Rattle.std.proofs.Common.{[], Vec, Global, ap, ◌∙◌}
use Rattle.f66_tree.specs.declared.statement.Entry.{Entry}
use Rattle.f66_tree.specs.declared.statement.Entry.TheVariants as n
use Rattle.f66_tree.specs.Syntax.{Entry as EntryData, Many}
use Rattle.f66_tree.specs.Views.{entry_of, listed, par_of}
use Rattle.f66_tree.proofs.Rows.{many_entry}
use Rattle.std.proofs.Common.{List}
use Rattle.stmt_parts.specs.EntryStates.{around_onto, entries_in, lists_of}
use Rattle.stmt_parts.proofs.EntryLemmas.{closed_by}
use Rattle.stmt_parts.proofs.entries.close_with.Goals as goal

pub returns-in_ok-add-in-Some-clause-state : goal.returns-in_ok-add-in-Some-clause-state
returns-in_ok-add-in-Some-clause-state c =
    let x = c.args.name in
    let a = c.args.first in
    let b = c.args.last in
    let d = c.args.step in
    closed_by (lists_of c.args.lists.now) (λ es. Many es x (par_of a) (par_of b) (par_of d)) (entry_of (n.Many c.in-Some.inner x a b d))
    (entries_in c.close.new.self.here) (around_onto c.close.new.self.around.items []) (lists_of c.add.new.self)
    c.in-Some.ensures.1
    (many_entry c.in-Some.inner x a b d ∙ ap (λ (es : List EntryData). Many (listed es) x (par_of a) (par_of b) (par_of d)) c.in-Some.ensures.0)
    c.in_ok-add-in-Some.ensures.here
    (ap (λ (v : Vec (Vec Entry Global) Global). around_onto v.items []) c.in_ok-add-in-Some.ensures.around)
