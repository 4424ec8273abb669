-- The items of READ and WRITE.
use Rattle.std.specs.Prelude.{◌≡◌, ℕ, ◌+◌, pos, List, [], ◌∷◌, ◌++◌, map}
use Rattle.ground.specs.declared.place.Place.{Place}
use Rattle.f66_tree.specs.declared.statement.Entry.{Entry}
use Rattle.f66_tree.specs.Fields.{Fields, Single, Blanks, Chars}
use Rattle.f66_tree.specs.Syntax.{Par, Constant, Named, Ref, Entries, NoEntry, AndEntry, One}
use Rattle.f66_tree.specs.Syntax as forms
use Rattle.f66_tree.specs.Views.{entry_of, entries_of}
use Rattle.efl_program.specs.Typed.{Expr, Edit, WriteItem, Value, Skip, ReadItem, Take, Pass}
use Rattle.efl_program.specs.Typed as typed
use Rattle.efl_program.specs.Meaning.{step_by, kind_by}
use Rattle.routes.specs.Routes.{Routes, AndRoute}
use Rattle.efl_routes.specs.Expressions.{made, sets}
use Rattle.efl_routes.specs.Statements.{item_routes, entries}
use Rattle.efl_emit.specs.declared.naming.Naming.{Naming}
use Rattle.efl_emit.specs.declared.operand.Operand.{Operand}
use Rattle.efl_emit.specs.declared.operand.Operand.TheVariants as operands
use Rattle.efl_emit.specs.declared.operand.Evaluated.{Evaluated}
use Rattle.efl_emit.specs.Emitted.{Emission, Emitted}
use Rattle.efl_emit.specs.Names.{home_of, temp_of, callee_of, label_of, own_of, made_of, operand_of}
use Rattle.efl_emit.specs.Parts.{routes_of, value_of, place_formula}

-- the unit of a READ or WRITE
abbrev pub unit_of : Operand → Par
unit_of (operands.Int z) = Constant z
unit_of (operands.Truth b) = Constant (pos 0)
unit_of (operands.Temp k n) = Named (temp_of k n)

-- a value was put into a temporary of its own
pub record IsItem (s : Naming) (p : Place) (e : Expr) (d : Edit) (n : ℕ) (r : Evaluated) (before after : Emission) : Type 0 where
  pub emitted : Emitted (made_of s) (λ rest. routes_of s p e n (AndRoute (sets p (Ref (temp_of (kind_by d) (n + made e))) (value_of s e n)) rest)) before after
  pub operand : operand_of r.operand ≡ Ref (temp_of (kind_by d) (n + made e))
  pub next : r.next ≡ n + (made e + 1)

abbrev pub items_of : Naming → Place → List WriteItem → ℕ → Routes → Routes
items_of s p items n rest = item_routes (home_of s) temp_of (callee_of s) (label_of s) (own_of s) p items n rest

abbrev pub write_entries_of : Naming → List WriteItem → ℕ → Entries
write_entries_of s items n = entries (home_of s) temp_of (callee_of s) (label_of s) (own_of s) items n

-- the items of a `write` were emitted
pub record AreItems (s : Naming) (p : Place) (items : List WriteItem) (n : ℕ) (list : List Entry) (before after : Emission) : Type 0 where
  pub emitted : Emitted (made_of s) (items_of s p items n) before after
  pub entries : entries_of list ≡ write_entries_of s items n

-- the temporaries that are read
abbrev pub read_entries_of : List ReadItem → ℕ → Entries
read_entries_of [] n = NoEntry
read_entries_of (Take x d ∷ items) n = AndEntry (One (Ref (temp_of (kind_by d) n))) (read_entries_of items (n + 1))
read_entries_of (Pass i ∷ items) n = read_entries_of items n

-- the stores behind a READ, before other routes
abbrev pub stores_of : Naming → Place → List ReadItem → ℕ → Routes → Routes
stores_of s p [] n rest = rest
stores_of s p (Take x d ∷ items) n rest = AndRoute (sets p (place_formula s x) (Ref (temp_of (kind_by d) n))) (stores_of s p items (n + 1) rest)
stores_of s p (Pass i ∷ items) n rest = stores_of s p items n rest

abbrev pub field_of : Edit → Fields → Fields
field_of d rest = Single 1 (step_by d) rest

abbrev pub written_field : WriteItem → Fields → Fields
written_field (Value e d) rest = Single 1 (step_by d) rest
written_field (Skip n) rest = Single 1 (Blanks n) rest
written_field (typed.Chars t) rest = Single 1 (Chars t) rest

abbrev pub read_field : ReadItem → Fields → Fields
read_field (Take x d) rest = Single 1 (step_by d) rest
read_field (Pass n) rest = Single 1 (Blanks n) rest

-- one item of a `write`: only a value takes temporaries
abbrev pub item_route : Naming → Place → WriteItem → ℕ → Routes → Routes
item_route s p (Value e d) n rest = routes_of s p e n (AndRoute (sets p (Ref (temp_of (kind_by d) (n + made e))) (value_of s e n)) rest)
item_route s p (Skip i) n rest = rest
item_route s p (typed.Chars t) n rest = rest

abbrev pub made_item : WriteItem → ℕ
made_item (Value e d) = made e + 1
made_item (Skip i) = 0
made_item (typed.Chars t) = 0

abbrev pub item_entries : WriteItem → ℕ → List forms.Entry
item_entries (Value e d) n = One (Ref (temp_of (kind_by d) (n + made e))) ∷ []
item_entries (Skip i) n = []
item_entries (typed.Chars t) n = []

pub record AddsItem (s : Naming) (p : Place) (item : WriteItem) (n m : ℕ) (old new : List Entry) (before after : Emission) : Type 0 where
  pub emitted : Emitted (made_of s) (item_route s p item n) before after
  pub next : m ≡ n + made_item item
  pub list : map entry_of new ≡ map entry_of old ++ item_entries item n

-- one item of a `read`
abbrev pub taken : ReadItem → ℕ
taken (Take x d) = 1
taken (Pass i) = 0

abbrev pub taken_entries : ReadItem → ℕ → List forms.Entry
taken_entries (Take x d) n = One (Ref (temp_of (kind_by d) n)) ∷ []
taken_entries (Pass i) n = []

pub record AddsRead (item : ReadItem) (n m : ℕ) (old new : List Entry) : Type 0 where
  pub next : m ≡ n + taken item
  pub list : map entry_of new ≡ map entry_of old ++ taken_entries item n

abbrev pub store_of : Naming → Place → ReadItem → ℕ → Routes → Routes
store_of s p (Take x d) n rest = AndRoute (sets p (place_formula s x) (Ref (temp_of (kind_by d) n))) rest
store_of s p (Pass i) n rest = rest

pub record IsStored (s : Naming) (p : Place) (item : ReadItem) (n m : ℕ) (before after : Emission) : Type 0 where
  pub emitted : Emitted (made_of s) (store_of s p item n) before after
  pub next : m ≡ n + taken item
