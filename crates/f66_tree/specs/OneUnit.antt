-- A program that is one main unit: it calls nothing, and each place of each of its names is a storage unit of its own.
use Rattle.std.specs.Prelude.{ℕ, ◌+◌, ◌*◌, ◌^◌, List, [], ◌∷◌, None}
use Rattle.f66_tree.specs.Syntax.{MainUnit, Line}
use Rattle.f66_tree.specs.World.{Record, Shown, fresh}
use Rattle.f66_tree.specs.Units.{Note, notes_of, Linkage}
use Rattle.f66_tree.specs.Execution.{f66}

-- a number for each list of numbers: different lists have different ones
abbrev pub list_number : List ℕ → ℕ
list_number [] = 0
list_number (c ∷ cs) = 2 ^ c * (2 * list_number cs + 1)

-- the linkage of a main unit whose statements that are not executed are these
abbrev pub one_unit : List Note → Linkage
one_unit notes = record {
  context = λ u. record { header = MainUnit; notes = notes };
  find = λ x. None;
  main = 0;
  deep = 1;
  number = λ u x o. list_number (o ∷ x);
  first = fresh [];
}

-- what a main unit does over these input records, after at most so many statements
abbrev pub executed : List Line → List Record → ℕ → Shown
executed code input n = f66 (one_unit (notes_of code)) (λ u. code) input n
