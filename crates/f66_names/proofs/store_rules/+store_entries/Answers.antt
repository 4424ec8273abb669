-- An implied DO.
use Rattle.std.proofs.Common.{◌∙◌}
use Rattle.f66_tree.specs.Views.{par_of}
use Rattle.f66_names.specs.StoreRules.{stores_entry}
use Rattle.f66_names.specs.DeclarationViews.{context_in}
use Rattle.f66_names.proofs.EntryLemmas.{many_seen}
use Rattle.f66_names.proofs.store_rules.+store_entries.Goals as goal

pub stores_entry-returns-in-Many : goal.stores_entry-returns-in-Many
stores_entry-returns-in-Many t c =
    let a = c.in-Many.field-2 in
    let b = c.in-Many.field-3 in
    let d = c.in-Many.field-4 in
    c.store_counted.ensures (par_of a) (par_of b) (par_of d)
    ∙ many_seen (stores_entry c.args.way (context_in c.args.declarations.now)) c.args.entry.now c.in-Many.list c.in-Many.variable a b d c.deref.result.now c.in-Many.is c.deref.ensures.value
