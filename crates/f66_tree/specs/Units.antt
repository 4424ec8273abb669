-- What names mean in a unit (X3.9-1966, sections 5, 7.2.1 and 8), and what a run of units has around it.
use Rattle.std.specs.Prelude.{ℕ, zero, suc, ◌*◌, unsigned_abs, Bool, true, false, nat_eq, nat_le, ◌&&◌, ◌||◌, List, [], ◌∷◌, Option, Some, None, if◌then◌else◌, ⊤}
use Rattle.std.specs.Str.{bytes_eq}
use Rattle.ground.specs.declared.place.Place.{Place}
use Rattle.ground.specs.declared.value.Kind.{Kind}
use Rattle.ground.specs.declared.value.Kind.TheVariants as kinds
use Rattle.ground.specs.Content.{Content}
use Rattle.f66_tree.specs.declared.declaration.TypeWord.{TypeWord}
use Rattle.f66_tree.specs.declared.declaration.TypeWord.TheVariants.{Integer, Logical, Other}
use Rattle.f66_tree.specs.Fields.{Fields}
use Rattle.f66_tree.specs.Syntax.{Text, Par, Constant, Named, Declared, Header, MainUnit, SubUnit, FuncUnit, DataUnit, Area, Act, Format, Typed, Dimension, Common, Equivalence, Preset, Line}
use Rattle.f66_tree.specs.World.{World, Out}

-- a statement that is not executed
abbrev pub is_note : Act → Bool
is_note (Format f) = true
is_note (Typed t ds) = true
is_note (Dimension ds) = true
is_note (Common areas) = true
is_note (Equivalence es) = true
is_note (Preset ps) = true
is_note _ = false

-- a statement that is not executed, without its place
pub record Note : Type 0 where
  pub label : Option ℕ
  pub act : Act

-- what names mean in a unit: its header, and its statements that are not executed
pub record Context : Type 0 where
  pub header : Header
  pub notes : List Note

abbrev pub notes_of : List Line → List Note
notes_of [] = []
notes_of (s ∷ rest) = if is_note s.act then (record { label = s.label; act = s.act } ∷ notes_of rest) else notes_of rest

abbrev pub is_main : Header → Bool
is_main MainUnit = true
is_main _ = false

abbrev pub dummies_of : Header → List Text
dummies_of MainUnit = []
dummies_of (SubUnit x ds) = ds
dummies_of (FuncUnit t x ds) = ds
dummies_of DataUnit = []

abbrev pub name_of : Header → Text
name_of MainUnit = []
name_of (SubUnit x ds) = x
name_of (FuncUnit t x ds) = x
name_of DataUnit = []

abbrev pub one_on : Option ℕ → Option ℕ
one_on None = None
one_on (Some i) = Some (suc i)

-- which dummy a name is
abbrev pub position : Text → List Text → Option ℕ
position x [] = None
position x (y ∷ ys) = if bytes_eq x y then Some zero else one_on (position x ys)

abbrev pub if_any : List Par → List Par → List Par
if_any [] others = others
if_any (n ∷ ns) others = n ∷ ns

-- the dimensions that a list gives to a name, else those that later ones give
abbrev pub sizes_in : Text → List Declared → List Par → List Par
sizes_in x [] others = others
sizes_in x (d ∷ ds) others = if bytes_eq x d.name then if_any d.sizes (sizes_in x ds others) else sizes_in x ds others

abbrev pub sizes_in_areas : Text → List Area → List Par → List Par
sizes_in_areas x [] others = others
sizes_in_areas x (a ∷ areas) others = sizes_in x a.list (sizes_in_areas x areas others)

abbrev pub sizes_by : Text → Act → List Par → List Par
sizes_by x (Typed t ds) others = sizes_in x ds others
sizes_by x (Dimension ds) others = sizes_in x ds others
sizes_by x (Common areas) others = sizes_in_areas x areas others
sizes_by x _ others = others

-- the dimensions of a name, which has none where it is no array
abbrev pub sizes_of : Text → List Note → List Par
sizes_of x [] = []
sizes_of x (s ∷ notes) = sizes_by x s.act (sizes_of x notes)

abbrev pub lists : Text → List Declared → Bool
lists x [] = false
lists x (d ∷ ds) = bytes_eq x d.name || lists x ds

abbrev pub typed_by : Text → Act → TypeWord → TypeWord
typed_by x (Typed t ds) other = if lists x ds then t else other
typed_by x _ other = other

-- names that begin with I to N are integers
abbrev pub by_letter : Text → TypeWord
by_letter [] = Other
by_letter (c ∷ cs) = if nat_le 73 c && nat_le c 78 then Integer else Other

abbrev pub type_in : Text → List Note → TypeWord → TypeWord
type_in x [] other = other
type_in x (s ∷ notes) other = typed_by x s.act (type_in x notes other)

-- a function's header may give its type
abbrev pub by_header : Text → Header → TypeWord
by_header x (FuncUnit (Some t) y ds) = if bytes_eq x y then t else by_letter x
by_header x _ = by_letter x

abbrev pub kind_by : TypeWord → Kind
kind_by Logical = kinds.Logical
kind_by Integer = kinds.Integer
kind_by Other = kinds.Integer

-- the type of a name; a sound unit has no other types
abbrev pub kind_of : Context → Text → Kind
kind_of c x = kind_by (type_in x c.notes (by_header x c.header))

abbrev pub format_by : ℕ → Option ℕ → Act → Option Fields → Option Fields
format_by l (Some m) (Format f) other = if nat_eq m l then Some f else other
format_by l _ _ other = other

-- the format of a label
abbrev pub format_of : ℕ → List Note → Option Fields
format_of l [] = None
format_of l (s ∷ notes) = format_by l s.label s.act (format_of l notes)

-- how many places a name has whose dimensions are constants
abbrev pub places_of : List Par → ℕ
places_of [] = 1
places_of (Constant n ∷ ps) = unsigned_abs n * places_of ps
places_of (Named x ∷ ps) = 0

-- What a dummy is associated with (section 8.4.2): the places of a unit's name from an offset on, or a value.
pub data Spot : Type 0 where
  Held : ℕ → Text → ℕ → Spot
  Lent : Content → Spot

-- What is fixed before a run: what names mean in each unit, which unit a name calls, the main, how deep calls can go,
-- the number of the storage unit of each place of each unit's names, and the contents at first.
pub record Linkage : Type 0 where
  pub context : ℕ → Context
  pub find : Text → Option ℕ
  pub main : ℕ
  pub deep : ℕ
  pub number : ℕ → Text → ℕ → ℕ
  pub first : ℕ → Content

-- A linkage with the run around a statement: what a call does, what a turn of an implied DO costs, how many turns one
-- may make, and the count after a node.
pub record Setting : Type 0 where
  pub linked : Linkage
  pub call : ℕ → List Spot → World → Out ⊤
  pub begin : World → Out ⊤
  pub most : ℕ
  pub tick : ℕ → ℕ

-- the unit, what its dummies are associated with, and the place of the statement that is executed
pub record Frame : Type 0 where
  pub unit : ℕ
  pub actuals : List Spot
  pub place : Place

abbrev pub moved_to : Place → Frame → Frame
moved_to p f = record { unit = f.unit; actuals = f.actuals; place = p }

abbrev pub around : Setting → Frame → Context
around s f = s.linked.context f.unit
