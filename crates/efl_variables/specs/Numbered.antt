-- The variables of a program in memory, by their numbers.
use Rattle.std.specs.Prelude.{◌≡◌, ℕ, true, List, [], ◌∷◌, ◌++◌, Option, Some, None, is_some, if◌then◌else◌}
use Rattle.std.specs.HashMap.{get}
use Rattle.std.specs.List.{list_all, list_any, AllZip}
use Rattle.std.specs.Prelude.{nat_eq}
use Rattle.rule_table.specs.Words.{first_place, is_number}
use Rattle.ground.specs.declared.value.Kind.{Kind}
use Rattle.efl_scope.specs.DataTypes.{DataType, Scalar}
use Rattle.efl_scope.specs.Marks.{Located, same_located}
use Rattle.efl_scoped.specs.Numbers.{Table}
use Rattle.efl_scoped.specs.Seen.{table_of}
use Rattle.efl_variables.specs.declared.variables.Variable as memory
use Rattle.efl_variables.specs.declared.variables.Variables.{Variables}
use Rattle.efl_variables.specs.Keys.{list_number, key}

-- the type of a scalar
abbrev pub scalar_kind : DataType → Option Kind
scalar_kind (Scalar k) = Some k
scalar_kind t = None

-- a variable of this procedure, block, name and type
pub record IsListed (f : Table) (x : Located) (v : memory.Variable) : Type 0 where
  pub unit : v.unit ≡ x.unit
  pub home : list_number f x.variable.home ≡ Some v.home
  pub name : v.name ≡ x.variable.name
  pub kind : v.kind ≡ scalar_kind x.variable.kind

-- Of these variables, each once: each has a key, by which its number is found, and by its number it is listed.
pub record AreVariables (xs : List Located) (s : Variables) : Type 0 where
  pub numbered : list_all (λ x. is_some (key (table_of s.numbers) x)) xs ≡ true
  pub found : (n : ℕ) → get nat_eq s.seen n ≡ first_place (λ x. is_number n (key (table_of s.numbers) x)) xs
  pub listed : AllZip (IsListed (table_of s.numbers)) xs s.list.items

-- one variable more, where it is not there
abbrev pub with_one : List Located → Located → List Located
with_one xs x = if list_any (same_located x) xs then xs else xs ++ x ∷ []
