-- What is known behind a variable more.
use Rattle.std.specs.Prelude.{◌≡◌, ℕ, List, [], ◌∷◌, ◌++◌, Option, Some}
use Rattle.ground.specs.declared.value.Kind.{Kind}
use Rattle.efl_tree.specs.Syntax.{Text, EflProcedure}
use Rattle.efl_scope.specs.Marks.{Located}
use Rattle.efl_scoped.specs.Seen.{table_of}
use Rattle.efl_variables.specs.Keys.{list_number}
use Rattle.efl_variables.specs.Numbered.{scalar_kind}
use Rattle.efl_storage.specs.declared.storage.Storage.{Storage}
use Rattle.efl_storage.specs.Counted.{AreItsPlaces, CountsAll}

-- the number of a place
abbrev pub place_number : Storage → List ℕ → Option ℕ
place_number s h = list_number (table_of s.variables.numbers) h

-- the variable of this procedure, block, name and type
abbrev pub MeetsNamed : Storage → ℕ → ℕ → Text → Option Kind → ℕ → Storage → Type 0
MeetsNamed old unit home name kind many new = (us : List EflProcedure) (xs : List Located) (x : Located) →
    x.unit ≡ unit → place_number old x.variable.home ≡ Some home → x.variable.name ≡ name → scalar_kind x.variable.kind ≡ kind → AreItsPlaces us x many →
    CountsAll us xs old → CountsAll us (xs ++ x ∷ []) new

-- a place gets its number, by that of the place around it, and what is known stays
pub record IsWithin (old : Storage) (step outside : ℕ) (new : Storage) (n : ℕ) : Type 0 where
  pub known : (us : List EflProcedure) (xs : List Located) → CountsAll us xs old → CountsAll us xs new
  pub kept : (h : List ℕ) (k : ℕ) → place_number old h ≡ Some k → place_number new h ≡ Some k
  pub numbered : (h : List ℕ) → place_number old h ≡ Some outside → place_number new (step ∷ h) ≡ Some n
