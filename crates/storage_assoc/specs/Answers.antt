-- What the numbers of rows say of the units whose ties the links are.
use Rattle.std.specs.Prelude.{ℕ, List, Option}
use Rattle.f66_tree.specs.Syntax.{Text, Routine}
use Rattle.f66_program.specs.Association.{Row, Tie, IsNumbering, AreBad, ties_of}
use Rattle.offset_classes.specs.declared.link.Link.{Link}
use Rattle.storage_assoc.specs.Indexing.{AreIndexed}
use Rattle.storage_assoc.specs.Numbering.{AreSized, number_by}

-- whatever units these links, blocks and sizes stand for, the numbers are those of their storage units, and nothing is bad
abbrev pub NumberRightly : ℕ → List Link → List ℕ → List ℕ → ℕ → Type 0
NumberRightly blocks links sizes firsts total =
    (rs : List Routine) (rows : List Row) (index : Row → ℕ) (find : ℕ → Text → Option ℕ) → AreIndexed (ties_of rs) links rows index blocks → AreSized rs rows find sizes →
    IsNumbering rs (number_by find sizes firsts) total × ¬ AreBad (ties_of rs)

-- whatever ties these links and blocks stand for, they are bad
abbrev pub RefuseRightly : ℕ → List Link → Type 0
RefuseRightly blocks links =
    (ties : List Tie) (rows : List Row) (index : Row → ℕ) → AreIndexed ties links rows index blocks → AreBad ties
