-- The variable was met before, or is a new one.
use Rattle.std.proofs.Common.{[], sym, subst, ◌∙◌}
use Rattle.std.specs.List.{list_any}
use Rattle.efl_scope.specs.Marks.{same_located, distinct}
use Rattle.efl_storage.specs.Counted.{AddsPlaces}
use Rattle.efl_storage.proofs.CountLemmas.{counts_again, counts_more, known_before, met_first}
use Rattle.efl_storage.proofs.storage.Storage.meet_named.Goals as goal

pub returns-then-branch : goal.returns-then-branch
returns-then-branch c = λ us xs x unit home name kind its known.
    let old = c.args.self.now in
    let met = c.in_ok-meet.ensures (distinct [] xs) x unit home name kind known.variables in
    counts_more us xs old.variables c.meet.new.self old.places.items x met.0 known c.args.many c.add_places.new.places.items
    (met_first (list_any (same_located x) (distinct [] xs)) (sym c.if-branch.true ∙ met.1)) its
    (subst (λ u. AddsPlaces old.places.items u c.args.many c.add_places.new.places.items) (sym unit) c.add_places.ensures)

pub returns-else-branch : goal.returns-else-branch
returns-else-branch c = λ us xs x unit home name kind its known.
    let old = c.args.self.now in
    let met = c.in_ok-meet.ensures (distinct [] xs) x unit home name kind known.variables in
    counts_again us xs old.variables c.meet.new.self old.places.items x met.0 known (known_before (list_any (same_located x) (distinct [] xs)) (sym c.if-branch.false ∙ met.1))
