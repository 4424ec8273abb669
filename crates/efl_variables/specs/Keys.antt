-- The numbers of variables, which the same procedure, block and name alone share.
use Rattle.std.specs.Prelude.{◌≡◌, ℕ, List, [], ◌∷◌, reverse, Option, Some, None}
use Rattle.efl_tree.specs.Syntax.{Text}
use Rattle.efl_scope.specs.Marks.{Located}
use Rattle.efl_scoped.specs.Numbers.{Table, Grows}

abbrev pub pair : Table → Option ℕ → Option ℕ → Option ℕ
pair f (Some a) (Some b) = f a b
pair f _ _ = None

-- a list has that of its first and of the number of the rest, and no list's is 0 but the empty one's
abbrev pub list_number : Table → List ℕ → Option ℕ
list_number f [] = Some 0
list_number f (w ∷ ws) = pair f (Some w) (list_number f ws)

-- of a variable of a procedure, by where its block stands, and by its name from the last letter on
abbrev pub key_of : Table → ℕ → List ℕ → Text → Option ℕ
key_of f u h x = pair f (pair f (Some u) (list_number f h)) (list_number f (reverse x))

abbrev pub key : Table → Located → Option ℕ
key f x = key_of f x.unit x.variable.home x.variable.name

-- a list gets a number
pub record IsTextNumber (f : Table) (ws : List ℕ) (g : Table) (n : ℕ) : Type 0 where
  pub grows : Grows f g
  pub numbered : list_number g ws ≡ Some n

-- a variable gets its number, by that of the place of its block
pub record IsKey (f : Table) (unit home : ℕ) (x : Text) (g : Table) (n : ℕ) : Type 0 where
  pub grows : Grows f g
  pub numbered : (h : List ℕ) → list_number f h ≡ Some home → key_of g unit h x ≡ Some n
