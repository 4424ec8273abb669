-- Units of a row that come or go several at once.
use Rattle.std.specs.Prelude.{◌≡◌, ℕ, ◌+◌, pos, List}
use Rattle.ground.specs.declared.place.Place.{Place}
use Rattle.ground.specs.declared.value.Kind.{Kind}
use Rattle.f66_tree.specs.declared.editing.Way.{Way}
use Rattle.f66_tree.specs.Fields.{Fields}
use Rattle.f66_tree.specs.World.{Record, Tape, Store, World}
use Rattle.format_io.specs.Places.{Stand as Standing}
use Rattle.record_flow.specs.Flows.{tape}
use Rattle.stack_code.specs.StackMachine.{Spot, At, row}
use Rattle.runner.specs.declared.words.Word.{Word}
use Rattle.runner.specs.declared.words.Cell.{Cell}
use Rattle.runner.specs.declared.words.Cell.TheVariants as cells
use Rattle.runner.specs.Words.{Shows, Agrees}

-- a unit that holds the code of a character
abbrev pub coded : ℕ → Cell
coded c = cells.Whole (pos c)

-- a row has come so many units on, over these cells and records
pub record Advances (way : Way) (k : Kind) (p : Spot) (place : Place) (w : World) (index moved n : ℕ) (cells : List Cell) (t : Tape) : Type 0 where
  pub store : Store
  pub agrees : Agrees cells store
  pub is : row place way k p (moved + n) index w ≡ row place way k p n (index + moved) (record { state = record { store = store; tape = t }; left = w.left; count = w.count })

-- so many units of a row come or go, from an index on, and no record does meanwhile
abbrev pub MovesUnits : Way → Kind → Word → ℕ → ℕ → Fields → Standing → Standing → List Cell → List Cell → Type 0
MovesUnits way k word index moved fs old new cells cells1 =
    (p : Spot) (place : Place) (w : World) (unread written : List Record) (n : ℕ) → Shows (At p) word → Agrees cells w.state.store → w.state.tape ≡ tape fs old unread written
    → Advances way k p place w index moved n cells1 (tape fs new unread written)
