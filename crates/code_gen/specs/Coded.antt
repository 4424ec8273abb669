-- Which statements the code stands for, and how storage units have to lie for it.
use Rattle.std.specs.Prelude.{◌≡◌, ℕ, ◌+◌, ◌<◌, ◌≤◌, false, List, [], ◌∷◌, length, Some, None}
use Rattle.f66_tree.specs.Syntax.{Text, Formula, Item, Group, Plus, Minus, Not, Pair, Formulas, NoFormula, AndFormula, Act, Assign, Sign, When, Loop, Invoke, Read, Write, Entry, One, Many, Entries, NoEntry, AndEntry, Line}
use Rattle.f66_tree.specs.Units.{Context, Linkage, is_note, dummies_of, position, format_of}
use Rattle.f66_tree.specs.Evaluation.{Sort, AnArray, AFunction, sort_of}
use Rattle.f66_tree.specs.Fields.{Fields}
use Rattle.code_gen.specs.Layout.{Layout, size_in}
use Rattle.code_gen.specs.Expressions.{count, room_of, rooms_to_hand}
use Rattle.code_gen.specs.Statements.{entries_room}

-- a name is no dummy of the unit
abbrev pub IsOwn : Linkage → ℕ → Text → Type 0
IsOwn l u x = position x (dummies_of (l.context u).header) ≡ None

-- the places of each name of a unit follow one another, below a bound; a dummy has none of its own
pub record IsLaid (l : Linkage) (u bound : ℕ) : Type 0 where
  pub runs : (x : Text) (o : ℕ) → IsOwn l u x → o < size_in (l.context u) x → l.number u x o ≡ l.number u x 0 + o
  pub below : (x : Text) (o : ℕ) → IsOwn l u x → o < size_in (l.context u) x → l.number u x o < bound
  pub has : (x : Text) → IsOwn l u x → 0 < size_in (l.context u) x

-- past the units that a unit keeps something in
abbrev pub top : Layout → ℕ → ℕ
top y u = y.loops u + (length (y.lines u) + length (y.lines u))

-- A unit that is called keeps what it keeps below its caller. So no unit calls itself.
abbrev pub LiesBelow : Layout → ℕ → Text → Type 0
LiesBelow y u x = (v : ℕ) → y.linked.find x ≡ Some v → top y v ≤ y.spare u

-- a function's own name is none of its dummies
abbrev pub HasResult : Layout → Text → Type 0
HasResult y x = (v : ℕ) → y.linked.find x ≡ Some v → IsOwn y.linked v x

-- each element has as many subscripts as its array has dimensions
abbrev pub Fits : Layout → ℕ → Text → Sort → ℕ → Type 0
Fits y u x (AnArray ns) n = n ≡ length ns
Fits y u x AFunction n = LiesBelow y u x × HasResult y x
Fits y u x _ n = Unit {0}

abbrev mutual
  pub Counted : Layout → ℕ → Formula → Type 0
  Counted y u (Item x es) = Fits y u x (sort_of (y.linked.context u) x) (count es) × CountedAll y u es
  Counted y u (Group a) = Counted y u a
  Counted y u (Plus a) = Counted y u a
  Counted y u (Minus a) = Counted y u a
  Counted y u (Not a) = Counted y u a
  Counted y u (Pair op a b) = Counted y u a × Counted y u b
  Counted y u _ = Unit {0}

  pub CountedAll : Layout → ℕ → Formulas → Type 0
  CountedAll y u NoFormula = Unit {0}
  CountedAll y u (AndFormula e es) = Counted y u e × CountedAll y u es

-- what may stand under a logical IF: no DO, and nothing that isn't executed
abbrev pub MayStand : Act → Type 0
MayStand (Loop l x a b d) = ⊥
MayStand a = is_note a ≡ false

abbrev mutual
  pub CodedItems : Layout → ℕ → Entries → Type 0
  CodedItems y u NoEntry = Unit {0}
  CodedItems y u (AndEntry e es) = CodedEntry y u e × CodedItems y u es

  pub CodedEntry : Layout → ℕ → Entry → Type 0
  CodedEntry y u (One e) = Counted y u e
  CodedEntry y u (Many es x a b d) = CodedItems y u es

abbrev pub HasFormat : Layout → ℕ → ℕ → Type 0
HasFormat y u l = (f : Fields) × (format_of l (y.linked.context u).notes ≡ Some f)

-- statements with as many subscripts as dimensions, whose formats are there, and that call units below them
abbrev pub Coded : Layout → ℕ → Act → Type 0
Coded y u (Assign x e) = Counted y u x × Counted y u e
Coded y u (Sign e n m k) = Counted y u e
Coded y u (When e a) = Counted y u e × MayStand a × Coded y u a
Coded y u (Invoke x es) = LiesBelow y u x × CountedAll y u es
Coded y u (Read a l es) = CodedItems y u es × HasFormat y u l
Coded y u (Write a l es) = CodedItems y u es × HasFormat y u l
Coded y u _ = Unit {0}

abbrev pub CodedAll : Layout → ℕ → List Line → Type 0
CodedAll y u [] = Unit {0}
CodedAll y u (s ∷ rest) = Coded y u s.act × CodedAll y u rest

-- how many spare units a statement takes
abbrev pub act_room : Context → Act → ℕ
act_room c (Assign x e) = room_of c x + room_of c e
act_room c (Sign e n m k) = room_of c e
act_room c (When e a) = room_of c e + act_room c a
act_room c (Invoke x es) = rooms_to_hand c es
act_room c (Read a l es) = entries_room c es
act_room c (Write a l es) = entries_room c es
act_room c _ = 0

-- each statement has them below the units of the DO statements
abbrev pub HasRoom : Layout → ℕ → List Line → Type 0
HasRoom y u [] = Unit {0}
HasRoom y u (s ∷ rest) = (y.spare u + act_room (y.linked.context u) s.act ≤ y.loops u) × HasRoom y u rest
