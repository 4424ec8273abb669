-- What READ and WRITE do with the records, step by step (X3.9-1966, section 7.1.3).
use Rattle.std.specs.Prelude.{ℕ, List, Result, Ok, Err}
use Rattle.ground.specs.declared.trap.Trap.{Trap}
use Rattle.ground.specs.declared.value.Kind.{Kind}
use Rattle.ground.specs.Content.{Content, Whole, Truth}
use Rattle.f66_tree.specs.declared.editing.Way.{Way}
use Rattle.f66_tree.specs.declared.editing.Way.TheVariants.{Reading, Writing}
use Rattle.f66_tree.specs.declared.editing.EditKind.TheVariants as edits
use Rattle.f66_tree.specs.declared.editing.Mark.{Mark}
use Rattle.f66_tree.specs.declared.editing.Mark.TheVariants.{Due}
use Rattle.f66_tree.specs.Fields.{Fields}
use Rattle.f66_tree.specs.Turns.{Hand, started, with_record, ◌>>=◌, put_whole, put_truth, put_letter, take_whole, take_truth, take_letter}
use Rattle.f66_tree.specs.Editing.{Files, Break, next_record, to_item, to_end}
use Rattle.f66_tree.specs.World.{Tape, files_of, tape_of, Try, Yields, Traps, Fails, then_try, lifted, Move, Moves, Breaks, Misses}

-- behind a walk over the edits; a trap leaves the hand as it was
abbrev pub tape_placed : Tape → Result (Hand × Files) Break → Move
tape_placed t (Ok x) = Moves (tape_of x.0 x.1)
tape_placed t (Err e) = Breaks e.0 (tape_of t.hand e.1)

abbrev pub read_begun : Fields → Tape → Result (List ℕ × Files) Trap → Move
read_begun fs t (Ok x) = Moves (tape_of (with_record (started Reading fs) x.0) x.1)
read_begun fs t (Err e) = Breaks e t

-- a statement begins; a READ takes its first record
abbrev pub opened : Way → Fields → Tape → Move
opened Reading fs t = read_begun fs t (next_record t.unread (files_of t))
opened Writing fs t = Moves (tape_of (started Writing fs) (files_of t))

-- an item of this type is due: its edit is found, and compared
abbrev pub due : Kind → Tape → Move
due k t = tape_placed t (to_item t.hand k (files_of t))

-- the statement ends
abbrev pub closed : Tape → Move
closed t = tape_placed t (to_end t.hand (files_of t))

abbrev pub put_by : Mark → Content → Hand → Try Hand
put_by (Due edits.Whole w) (Whole n) h = lifted (put_whole h n)
put_by (Due edits.Truth w) (Truth b) h = lifted (put_truth h b)
put_by (Due edits.Letter w) (Whole n) h = lifted (put_letter h n)
put_by m c h = Fails

abbrev pub handed : Tape → Try Hand → Move
handed t (Yields h) = Moves (tape_of h (files_of t))
handed t (Traps e) = Breaks e t
handed t Fails = Misses

-- a content goes to the record in hand, by the edit that is due
abbrev pub put : Content → Tape → Move
put c t = handed t (put_by t.hand.mark c t.hand)

abbrev pub take_by : Mark → Hand → Try (Content × Hand)
take_by (Due edits.Whole w) h = lifted (take_whole h >>= λ x. Ok (Whole x.0, x.1))
take_by (Due edits.Truth w) h = lifted (take_truth h >>= λ x. Ok (Truth x.0, x.1))
take_by (Due edits.Letter w) h = lifted (take_letter h >>= λ x. Ok (Whole x.0, x.1))
take_by m h = Fails

-- a content comes from the record in hand, by the edit that is due
abbrev pub take : Tape → Try (Content × Tape)
take t = then_try (take_by t.hand.mark t.hand) (λ x. Yields (x.0, tape_of x.1 (files_of t)))
