-- The lists that are open, the innermost last in memory.
use Rattle.std.proofs.Common.{◌≡◌, ℕ, ◌+◌, ◌-◌, Bool, true, false, not, nat_eq, map, Vec, Global, List, [], ◌∷◌, ◌++◌, length, take, Option, Some, None, refl, sym, ap, ◌∙◌, arith}
use Rattle.f66_tree.specs.declared.statement.Entry.{Entry}
use Rattle.f66_tree.specs.Syntax as f66
use Rattle.f66_tree.specs.Views.{entry_of, listed}
use Rattle.stmt_reader.specs.Entries.{Behind, Lists, all_in, close_with, closed_in}
use Rattle.std.proofs.lemmas.Bool.{false≢true}
use Rattle.stmt_parts.specs.EntryStates.{around_onto, entries_in, has_some}

pub around_last : (lists : List (Vec Entry Global)) (list : Vec Entry Global) (below : List (List f66.Entry)) → around_onto (lists ++ list ∷ []) below ≡ entries_in list ∷ around_onto lists below
around_last [] list below = refl
around_last (a ∷ lists) list below = around_last lists list (entries_in a ∷ below)

pub around_popped : (old new : List (Vec Entry Global)) (outer : Vec Entry Global) → old ≡ new ++ outer ∷ [] → around_onto old [] ≡ entries_in outer ∷ around_onto new []
around_popped old new outer is = ap (λ (lists : List (Vec Entry Global)). around_onto lists []) is ∙ around_last new outer []

some_below : (lists : List (Vec Entry Global)) (a : List f66.Entry) (below : List (List f66.Entry)) → has_some (around_onto lists (a ∷ below)) ≡ true
some_below [] a below = refl
some_below (list ∷ lists) a below = some_below lists (entries_in list) (a ∷ below)

pub some_around : (lists : List (Vec Entry Global)) → has_some (around_onto lists []) ≡ has_some lists
some_around [] = refl
some_around (list ∷ lists) = some_below lists (entries_in list) []

pub some_entries : (es : List Entry) → has_some (map entry_of es) ≡ has_some es
some_entries [] = refl
some_entries (e ∷ es) = refl

-- where a list is open, there are not all entries
pub all_none : (es : List f66.Entry) (around : List (List f66.Entry)) → has_some around ≡ true → None ≡ all_in es around
all_none es [] some = absurd (false≢true some)
all_none es (a ∷ around) some = refl

pub all_some : (es : List f66.Entry) (around : List (List f66.Entry)) → has_some around ≡ false → Some (listed es) ≡ all_in es around
all_some es [] none = refl
all_some es (a ∷ around) none = absurd (false≢true (sym none))

-- an implied DO ends in the list around it
pub closed_by : (l : Lists) (made : f66.Entries → f66.Entry) (e : f66.Entry) (here : List f66.Entry) (around : List (List f66.Entry)) (new : Lists) → l.around ≡ here ∷ around → e ≡ made (listed l.here) → new.here ≡ here ++ e ∷ [] → new.around ≡ around → Behind new ≡ close_with l made
closed_by l made e here around new outer is more same =
    ap (λ (x : List f66.Entry). Behind (record { here = x; around = new.around })) more
    ∙ ap (λ (y : List (List f66.Entry)). Behind (record { here = here ++ e ∷ []; around = y })) same
    ∙ ap (λ (z : f66.Entry). Behind (record { here = here ++ z ∷ []; around = around })) is
    ∙ ap (closed_in (made (listed l.here))) (sym outer)
