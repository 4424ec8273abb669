-- What the examples are made of: names, statements at lines, and a linkage of a few units by the first letters of names.
use Rattle.std.specs.Prelude.{ℕ, zero, suc, ◌+◌, ◌*◌, ℤ, pos, if◌then◌else◌, List, [], ◌∷◌, Option, Some, None, codes}
use Rattle.std.specs.Str.{bytes_eq}
use Rattle.ground.specs.declared.place.Place.{Place}
use Rattle.f66_tree.specs.declared.editing.EditKind.TheVariants as edits
use Rattle.f66_tree.specs.Fields.{NoField, Single, Takes}
use Rattle.f66_tree.specs.Syntax.{Text, Formula, Int, Ref, Item, NoFormula, AndFormula, Constant, Header, MainUnit, One, Entries, NoEntry, AndEntry, Act, Assign, Write, Read, Format, Line, labelled_line}
use Rattle.f66_tree.specs.World.{fresh, Shown}
use Rattle.f66_tree.specs.Units.{notes_of, name_of, Linkage}
use Rattle.f66_tree.specs.Execution.{f66}

-- the place at a line
abbrev pub here : ℕ → Place
here n = record { file = 0; line = n }

abbrev pub i : Text
i = codes "I"

abbrev pub k : Text
k = codes "K"

abbrev pub m : Text
m = codes "M"

abbrev pub n : Text
n = codes "N"

-- a constant, a variable, and an element or value of a name with one argument
abbrev pub num : ℤ → Formula
num z = Int z

abbrev pub var : Text → Formula
var x = Ref x

abbrev pub with_one : Text → Formula → Formula
with_one x a = Item x (AndFormula a NoFormula)

abbrev pub set : Text → Formula → Act
set x a = Assign (Ref x) a

-- WRITE (6,9) and READ (5,9) of some variables
abbrev pub items : List Text → Entries
items [] = NoEntry
items (x ∷ xs) = AndEntry (One (Ref x)) (items xs)

abbrev pub write : List Text → Act
write xs = Write (Constant (pos 6)) 9 (items xs)

abbrev pub read : List Text → Act
read xs = Read (Constant (pos 5)) 9 (items xs)

-- 9 FORMAT (I3)
abbrev pub i3 : Line
i3 = labelled_line 9 (here 99) (Format (Single 1 (Takes edits.Whole 3) NoField))

abbrev pub letter : Text → ℕ
letter [] = 0
letter (c ∷ cs) = c

-- a unit of the examples
abbrev pub Sample : Type 0
Sample = Header × List Line

abbrev pub nth_sample : List Sample → ℕ → Sample
nth_sample [] v = (MainUnit, [])
nth_sample (u ∷ us) zero = u
nth_sample (u ∷ us) (suc v) = nth_sample us v

abbrev pub found : Text → List Sample → ℕ → Option ℕ
found x [] v = None
found x (u ∷ us) v = if bytes_eq x (name_of u.0) then Some v else found x us (v + 1)

-- each unit's names have storage units of their own
abbrev pub linkage : List Sample → Linkage
linkage us = record {
  context = λ v. record { header = (nth_sample us v).0; notes = notes_of (nth_sample us v).1 };
  find = λ x. found x us 0;
  main = 0;
  deep = 5;
  number = λ v x o. 100_000 * v + 1_000 * letter x + o;
  first = fresh [];
}

-- the first unit is the main
abbrev pub runs : List Sample → List Text → ℕ → Shown
runs us input bound = f66 (linkage us) (λ v. (nth_sample us v).1) input bound

abbrev pub main : List Line → List Sample
main lines = (MainUnit, lines) ∷ []
