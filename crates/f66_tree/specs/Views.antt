-- The trees in memory, as plain data.
use Rattle.std.specs.Prelude.{ℕ, List, [], ◌∷◌, map}
use Rattle.f66_tree.specs.declared.expression.Expr.{Expr}
use Rattle.f66_tree.specs.declared.expression.Expr as e
use Rattle.f66_tree.specs.declared.format.Field.{Field}
use Rattle.f66_tree.specs.declared.format.Field as f
use Rattle.f66_tree.specs.declared.declaration.Par.{Par}
use Rattle.f66_tree.specs.declared.declaration.Par.TheVariants as p
use Rattle.f66_tree.specs.declared.declaration.Declared.{Declared}
use Rattle.f66_tree.specs.declared.declaration.Area.{Area}
use Rattle.f66_tree.specs.declared.declaration.PresetPart.{PresetPart}
use Rattle.f66_tree.specs.declared.statement.Entry.{Entry}
use Rattle.f66_tree.specs.declared.statement.Entry as n
use Rattle.f66_tree.specs.declared.statement.StmtKind.{StmtKind}
use Rattle.f66_tree.specs.declared.statement.StmtKind as s
use Rattle.f66_tree.specs.declared.statement.Stmt.{Stmt}
use Rattle.f66_tree.specs.declared.unit.Header.{Header}
use Rattle.f66_tree.specs.declared.unit.Header.TheVariants as h
use Rattle.f66_tree.specs.declared.unit.Unit as u
use Rattle.f66_tree.specs.declared.editing.EditKind.TheVariants as edits
use Rattle.f66_tree.specs.Fields.{Fields, NoField, Single, Group, Takes, Blanks, Chars, Slash}
use Rattle.f66_tree.specs.Syntax as forms
use Rattle.f66_tree.specs.Syntax.{Formula, Int, Truth, Letter, Ref, Item, Plus, Minus, Not, Pair, Formulas, NoFormula, AndFormula, Constant, Named, MainUnit, SubUnit, FuncUnit, DataUnit, One, Many, Entries, NoEntry, AndEntry, Act, Assign, Goto, Computed, Sign, When, Loop, Invoke, Continue, Stop, Return, Read, Write, Format, Typed, Dimension, Common, Equivalence, Preset, Line, Routine}

abbrev mutual
  pub formula_of : Expr → Formula
  formula_of (e.Int z) = Int z
  formula_of (e.Truth b) = Truth b
  formula_of (e.Letter c) = Letter c
  formula_of (e.Ref x) = Ref x
  formula_of (e.Item' p x shape all) = Item x (row_formulas all)
  formula_of (e.Group' p a) = forms.Group (formula_of a)
  formula_of (e.Plus' p a) = Plus (formula_of a)
  formula_of (e.Minus' p a) = Minus (formula_of a)
  formula_of (e.Not' p a) = Not (formula_of a)
  formula_of (e.Pair' op p a b) = Pair op (formula_of a) (formula_of b)

  pub row_formulas : {m : _} → e.Row_of-Expr m → Formulas
  row_formulas e.end_of-Expr = NoFormula
  row_formulas (e.more_of-Expr a rest) = AndFormula (formula_of a) (row_formulas rest)

abbrev pub chained : List Formula → Formulas
chained [] = NoFormula
chained (a ∷ all) = AndFormula a (chained all)

abbrev pub formulas_of : List Expr → Formulas
formulas_of all = chained (map formula_of all)

abbrev pub par_of : Par → forms.Par
par_of (p.Number z) = Constant z
par_of (p.Variable x) = Named x

abbrev pub declared_of : Declared → forms.Declared
declared_of d = record { name = d.name; sizes = map par_of d.sizes.items }

abbrev mutual
  -- a field, and what follows it
  pub field_then : Field → Fields → Fields
  field_then (f.Whole n w) rest = Single n (Takes edits.Whole w) rest
  field_then (f.Truth n w) rest = Single n (Takes edits.Truth w) rest
  field_then (f.Letter n) rest = Single n (Takes edits.Letter 1) rest
  field_then (f.Skip n) rest = Single 1 (Blanks n) rest
  field_then (f.Chars text) rest = Single 1 (Chars text) rest
  field_then f.Slash rest = Single 1 Slash rest
  field_then (f.Group' n shape inside) rest = Group n (row_fields inside) rest

  pub row_fields : {m : _} → f.Row_of-Field m → Fields
  row_fields f.end_of-Field = NoField
  row_fields (f.more_of-Field a rest) = field_then a (row_fields rest)

abbrev pub strung : List (Fields → Fields) → Fields
strung [] = NoField
strung (a ∷ all) = a (strung all)

abbrev pub fields_of : List Field → Fields
fields_of all = strung (map field_then all)

abbrev mutual
  pub entry_of : Entry → forms.Entry
  entry_of (n.Item a) = One (formula_of a)
  entry_of (n.Many' shape all x a b c) = Many (row_entries all) x (par_of a) (par_of b) (par_of c)

  pub row_entries : {m : _} → n.Row_of-Entry m → Entries
  row_entries n.end_of-Entry = NoEntry
  row_entries (n.more_of-Entry a rest) = AndEntry (entry_of a) (row_entries rest)

abbrev pub listed : List forms.Entry → Entries
listed [] = NoEntry
listed (a ∷ all) = AndEntry a (listed all)

abbrev pub entries_of : List Entry → Entries
entries_of all = listed (map entry_of all)

abbrev pub area_of : Area → forms.Area
area_of a = record { name = a.name; list = map declared_of a.list.items }

abbrev pub initial_of : ℕ × Expr → ℕ × Formula
initial_of v = (v.0, formula_of v.1)

abbrev pub preset_of : PresetPart → forms.PresetPart
preset_of a = record { places = map formula_of a.places.items; values = map initial_of a.values.items }

abbrev pub act_of : StmtKind → Act
act_of (s.Assign x a) = Assign (formula_of x) (formula_of a)
act_of (s.Goto l) = Goto l
act_of (s.Computed ls x) = Computed ls.items x
act_of (s.Sign a l m k) = Sign (formula_of a) l m k
act_of (s.When' a p b) = When (formula_of a) (act_of b)
act_of (s.Loop l d) = Loop l d.value.variable (par_of d.value.first) (par_of d.value.last) (par_of d.value.step)
act_of (s.Invoke x all) = Invoke x (formulas_of all.items)
act_of s.Continue = Continue
act_of (s.Stop n) = Stop n
act_of s.Return = Return
act_of (s.Read a l all) = Read (par_of a) l (entries_of all.items)
act_of (s.Write a l all) = Write (par_of a) l (entries_of all.items)
act_of (s.Format all) = Format (fields_of all.items)
act_of (s.Typed t all) = Typed t (map declared_of all.items)
act_of (s.Dimension all) = Dimension (map declared_of all.items)
act_of (s.Common all) = Common (map area_of all.items)
act_of (s.Equivalence all) = Equivalence (map (λ group. map formula_of group.items) all.items)
act_of (s.Preset all) = Preset (map preset_of all.items)

abbrev pub line_of : Stmt → Line
line_of a = record { label = a.label; place = a.place; act = act_of a.kind }

abbrev pub lines_of : List Stmt → List Line
lines_of all = map line_of all

abbrev pub header_of : Header → forms.Header
header_of h.Main = MainUnit
header_of (h.Sub x ds) = SubUnit x ds.items
header_of (h.Func t x ds) = FuncUnit t x ds.items
header_of h.Block = DataUnit

abbrev pub routine_of : u.Unit → Routine
routine_of a = record { header = header_of a.header; lines = lines_of a.statements.items; place = a.place }
