-- What a run of an EFL program has around it. Its state, its ends and how parts of it are bound are those of FORTRAN's runs.
use Rattle.std.specs.Prelude.{ℕ, zero, suc, ◌+◌, nat_eq, nat_lt, if◌then◌else◌, List, [], ◌∷◌, Option, Some, None, ⊤}
use Rattle.ground.specs.declared.place.Place.{Place}
use Rattle.ground.specs.declared.trap.Trap.TheVariants.{Subscript, ValueArgument}
use Rattle.ground.specs.declared.value.Kind.{Kind}
use Rattle.ground.specs.Content.{Content}
use Rattle.f66_tree.specs.World.{Store, put_in, World, Out, Gives, bind, Try, Yields, Traps, Fails, settle, holding}
use Rattle.f66_tree.specs.Evaluation.{asked}

-- A place of a variable, by how many stand before it in the variable's list; or a value that an actual lent.
pub data Spot : Type 0 where
  Held : ℕ → ℕ → Spot
  Lent : Content → Spot

-- What is fixed before a run: the formals of each procedure; the variable that has a variable's storage, since the variables
-- of an area are those of each procedure that names it; how many places a variable has; the number of the storage unit of each
-- place, and of each procedure's value; the main, how deep calls can go, and the contents at first.
pub record Linkage : Type 0 where
  pub formals : ℕ → List ℕ
  pub owner : ℕ → ℕ
  pub extent : ℕ → ℕ
  pub number : ℕ → ℕ → ℕ
  pub result : ℕ → ℕ
  pub main : ℕ
  pub deep : ℕ
  pub first : Store

pub record Setting : Type 0 where
  pub linked : Linkage
  pub call : ℕ → List Spot → World → Out ⊤

-- the procedure, its actuals, and the place of the statement that is executed
pub record Frame : Type 0 where
  pub unit : ℕ
  pub actuals : List Spot
  pub place : Place

abbrev pub moved_to : Place → Frame → Frame
moved_to p f = record { unit = f.unit; actuals = f.actuals; place = p }

abbrev pub one_on : Option ℕ → Option ℕ
one_on None = None
one_on (Some i) = Some (suc i)

-- which formal a variable is
abbrev pub position : ℕ → List ℕ → Option ℕ
position v [] = None
position v (u ∷ us) = if nat_eq v u then Some zero else one_on (position v us)

abbrev pub given : ℕ → List Spot → Try Spot
given i [] = Fails
given zero (p ∷ ps) = Yields p
given (suc i) (p ∷ ps) = given i ps

abbrev pub base_by : Option ℕ → ℕ → List Spot → Try Spot
base_by None v ps = Yields (Held v 0)
base_by (Some i) v ps = given i ps

-- the first place of a variable: a formal's is its actual's
abbrev pub base : Setting → Frame → ℕ → Try Spot
base s f v = base_by (position v (s.linked.formals f.unit)) (s.linked.owner v) f.actuals

-- so many places on
abbrev pub onward : Spot → ℕ → Spot
onward (Held v k) n = Held v (k + n)
onward (Lent c) n = Lent c

-- so many places on, within the variable that has the storage
abbrev pub moved : Linkage → Spot → ℕ → Try Spot
moved l (Held v k) n = if nat_lt (k + n) (l.extent v) then Yields (Held v (k + n)) else Traps Subscript
moved l (Lent c) zero = Yields (Lent c)
moved l (Lent c) (suc n) = Traps Subscript

abbrev pub held : Linkage → Spot → Store → Content
held l (Held v k) st = st (l.number v k)
held l (Lent c) st = c

abbrev pub load : Setting → Frame → Kind → Spot → World → Out Content
load s f kind p w = settle f.place (asked kind (held s.linked p w.state.store)) w

abbrev pub stored : Linkage → Spot → Content → Store → Try Store
stored l (Held v k) c st = Yields (put_in (l.number v k) c st)
stored l (Lent d) c st = Traps ValueArgument

abbrev pub store_at : Setting → Frame → Spot → Content → World → Out ⊤
store_at s f p v w = bind (settle f.place (stored s.linked p v w.state.store) w) (λ st w1. Gives tt (holding st w1))
