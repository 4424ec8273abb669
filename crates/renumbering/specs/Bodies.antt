-- The names that the bodies of a program of Ratfor use, as units of FORTRAN with the same names would use them.
use Rattle.std.specs.Prelude.{◌≡◌, ◌||◌, ℕ, true, List, Some, None, ⊤}
use Rattle.std.specs.List.{slice_get}
use Rattle.f66_tree.specs.Syntax.{Text, Routine}
use Rattle.f66_tree.specs.Units.{name_of}
use Rattle.f66_tree.specs.Uses.{Using, NamesOfLinesBy}
use Rattle.f66_tree.specs.Evaluation.{Sort, AnArray, AnIntrinsic, AFunction, sort_of}
use Rattle.f66_program.specs.Mentions.{context_of, is_dummy, is_own_value, has_places}
use Rattle.f66_program.specs.Calls.{unit_named}
use Rattle.rat_tree.specs.Syntax.{Command, Block, If, IfElse, While, For, Repeat, RepeatUntil, Do, Switch, Return, Labelled, Commands, NoCommand, AndCommand, Clauses, NoClause, AndClause}
use Rattle.rat_tree.specs.Meaning.{Body, Ours, Theirs}
use Rattle.rat_tree.specs.Uses.{NamesOfCommandsBy}

-- the name is a dummy of the unit, or has places of the unit's own
abbrev pub HasPlaces : Routine → Text → Type 0
HasPlaces r x = (is_dummy x r.header || has_places r x) ≡ true

-- the unit that the name calls, where there is one, is a function
abbrev pub CallsFunction : List Routine → Text → Type 0
CallsFunction rs x = (v : ℕ) (r : Routine) → unit_named x rs ≡ Some v → slice_get rs v ≡ Some r → is_own_value x r.header ≡ true

-- an array has places, and what is no array and no intrinsic function calls no unit but a function
abbrev pub ListedBy : List Routine → Routine → Text → Sort → Type 0
ListedBy rs r x (AnArray ns) = HasPlaces r x
ListedBy rs r x (AnIntrinsic g) = ⊤
ListedBy rs r x AFunction = CallsFunction rs x

-- something holds of the unit with the number u
abbrev pub InUnit : List Routine → ℕ → (Routine → Type 0) → Type 0
InUnit rs u P = (r : Routine) → slice_get rs u ≡ Some r → P r

-- the names of that unit stand for something there
abbrev pub names_in : List Routine → ℕ → Using
names_in rs u = record { alone = λ x. InUnit rs u (λ r. HasPlaces r x); listed = λ x. InUnit rs u (λ r. ListedBy rs r x (sort_of (context_of r) x)); called = λ x. ⊤ }

-- P holds if a value is returned
abbrev mutual
  pub WhereReturned : Type 0 → Command → Type 0
  WhereReturned P (Block p ss) = AllWhereReturned P ss
  WhereReturned P (If p e c) = WhereReturned P c
  WhereReturned P (IfElse p e c d) = WhereReturned P c × WhereReturned P d
  WhereReturned P (While p e c) = WhereReturned P c
  WhereReturned P (For p first e step c) = WhereReturned P c
  WhereReturned P (Repeat p c) = WhereReturned P c
  WhereReturned P (RepeatUntil p c e q) = WhereReturned P c
  WhereReturned P (Do p x a z d c) = WhereReturned P c
  WhereReturned P (Switch p e cs) = ClausesWhereReturned P cs
  WhereReturned P (Return p None) = ⊤
  WhereReturned P (Return p (Some e)) = P
  WhereReturned P (Labelled m p c) = WhereReturned P c
  WhereReturned P _ = ⊤

  pub AllWhereReturned : Type 0 → Commands → Type 0
  AllWhereReturned P NoCommand = ⊤
  AllWhereReturned P (AndCommand c ss) = WhereReturned P c × AllWhereReturned P ss

  pub ClausesWhereReturned : Type 0 → Clauses → Type 0
  ClausesWhereReturned P NoClause = ⊤
  ClausesWhereReturned P (AndClause es fallback ss p cs) = AllWhereReturned P ss × ClausesWhereReturned P cs

-- The body of the unit with the number u: each name that it uses stands for something there, and where it returns a value, the
-- unit's own name has places, as that of a function has.
abbrev pub IsNamed : List Routine → ℕ → Body → Type 0
IsNamed rs u (Ours ss) = NamesOfCommandsBy (names_in rs u) ss × AllWhereReturned (InUnit rs u (λ r. HasPlaces r (name_of r.header))) ss
IsNamed rs u (Theirs code) = NamesOfLinesBy (names_in rs u) code

-- the bodies of the units
abbrev pub AreNamed : List Routine → (ℕ → Body) → Type 0
AreNamed rs bodies = (u : ℕ) (r : Routine) → slice_get rs u ≡ Some r → IsNamed rs u (bodies u)
