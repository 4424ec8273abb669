-- A law of formatted editing: the turns that execution takes, one item after the other, do what one list of edits and record ends
-- says (X3.9-1966, section 7.2.3.4).
use Rattle.std.specs.Prelude.{◌≡◌, ℕ, List, length}
use Rattle.f66_tree.specs.declared.editing.Way.{Way}
use Rattle.f66_tree.specs.declared.editing.Mark.TheVariants.{Between}
use Rattle.f66_tree.specs.Fields.{Fields, steps, again}
use Rattle.f66_tree.specs.Turns.{hand_at}
use Rattle.f66_tree.specs.Editing.{Files, EditedItem, unfolded, items_run, played}

-- a whole statement has the records and the trap of the list of its format for so many items
abbrev pub EditingIsItsList : Type 0
EditingIsItsList =
    (way : Way) (fs : Fields) (is : List EditedItem) (line : List ℕ) (f : Files)
    → items_run is (hand_at way (steps fs) (steps (again fs)) line Between) f ≡ played way (unfolded fs (length is)) is line f
