-- What a step with a content answers and leaves, by its definition, and what is ahead of a turn.
use Rattle.std.specs.Prelude.{◌≡◌, ℕ, suc, ◌+◌, length, Result, Ok, Err, if◌then◌else◌}
use Rattle.ground.specs.declared.trap.Trap.{Trap}
use Rattle.ground.specs.declared.value.Kind.{Kind}
use Rattle.ground.specs.declared.value.Value.{Value}
use Rattle.ground.specs.Content.{Content}
use Rattle.f66_tree.specs.declared.editing.Way.{Way}
use Rattle.f66_tree.specs.declared.editing.Way.TheVariants.{Reading, Writing}
use Rattle.f66_tree.specs.declared.editing.Mark.{Mark}
use Rattle.f66_tree.specs.declared.editing.Mark.TheVariants.{Between}
use Rattle.f66_tree.specs.Fields.{has_item}
use Rattle.f66_tree.specs.Turns.{Hand, is_over}
use Rattle.f66_tree.specs.Editing.{Files, Break as Broken, to_item, to_end}
use Rattle.f66_tree.specs.World.{Tape, files_of, Move, Moves, Breaks, Misses, Try, Yields, Traps, Fails}
use Rattle.record_flow.specs.declared.flow.Break.{Break}
use Rattle.record_flow.specs.declared.flow.Break.TheVariants.{Trapped, Wrong}
use Rattle.record_flow.specs.Values.{content}

-- ---- a content ----

-- a trap, by which time these records were written; of the rest nothing is asked any more
abbrev pub IsBroken : Move → Trap → Tape → Type 0
IsBroken m e new = (t : Tape) × (m ≡ Breaks e t) × (t.written ≡ new.written)

-- a content goes out, as the definition has it
abbrev pub IsPut : Move → Result (Unit {0}) Break → Tape → Type 0
IsPut m (Ok u) new = m ≡ Moves new
IsPut m (Err (Trapped e)) new = IsBroken m e new
IsPut m (Err Wrong) new = m ≡ Misses

-- a content comes in, as the definition has it
abbrev pub IsTaken : Try (Content × Tape) → Result Value Break → Tape → Type 0
IsTaken said (Ok v) new = said ≡ Yields (content v, new)
IsTaken said (Err (Trapped e)) new = said ≡ Traps e
IsTaken said (Err Wrong) new = said ≡ Fails

-- ---- one turn ----

-- a record that goes out leaves the mark, and one that comes in is not read yet
abbrev pub Changes : Way → Mark → Mark → Type 0
Changes Writing old new = new ≡ old
Changes Reading old new = new ≡ Between

-- all that comes up to an item
abbrev pub onward : Kind → Tape → Result (Hand × Files) Broken
onward k t = to_item t.hand k (files_of t)

-- how many edits may still come before the item: where none of those ahead takes it, control goes back once
abbrev pub ahead : Hand → ℕ
ahead h = if has_item h.rest then length h.rest else suc (length h.rest + length h.cycle)

-- all that comes where no item is left
abbrev pub to_close : Tape → Result (Hand × Files) Broken
to_close t = if is_over t.hand.mark then Ok (t.hand, files_of t) else to_end t.hand (files_of t)

abbrev pub left_of : Hand → ℕ
left_of h = if is_over h.mark then 0 else suc (length h.rest)
