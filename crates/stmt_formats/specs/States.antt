-- What a FORMAT spells, in memory, as plain data.
use Rattle.std.specs.Prelude.{◌≡◌, Bool, true, false, List, [], ◌∷◌, Vec, map, Option, Some, None, if◌then◌else◌}
use Rattle.std.specs.Global.{Global}
use Rattle.f66_tree.specs.declared.format.Field.{Field}
use Rattle.f66_tree.specs.Fields.{Fields}
use Rattle.f66_tree.specs.Syntax.{Act, Format}
use Rattle.f66_tree.specs.Views as views
use Rattle.stmt_formats.specs.declared.items.Item as memory
use Rattle.stmt_formats.specs.declared.items.Item.{Item}
use Rattle.stmt_formats.specs.declared.places.Around.{Around}
use Rattle.stmt_formats.specs.declared.places.Place.{Place}
use Rattle.stmt_formats.specs.declared.commas.Before.{Before}
use Rattle.stmt_formats.specs.declared.commas.Before.TheVariants as b
use Rattle.stmt_formats.specs.declared.fields.Meaning.{Meaning}
use Rattle.stmt_formats.specs.declared.fields.Meaning.TheVariants as m
use Rattle.stmt_reader.specs.Formats as f
use Rattle.stmt_reader.specs.Taking.{then_if}

abbrev mutual
  pub item_of : Item → f.Item
  item_of (memory.Edit n w) = f.Edit n w
  item_of (memory.Words text) = f.Words text
  item_of memory.Stroke = f.Stroke
  item_of memory.Point = f.Point
  item_of (memory.Nest' n shape inside) = f.Nest n (row_items inside)

  pub row_items : {m : _} → memory.Row_of-Item m → f.Items
  row_items memory.end_of-Item = f.Ends
  row_items (memory.more_of-Item a rest) = f.Then (item_of a) (row_items rest)

abbrev pub items_of : List Item → f.Items
items_of all = f.items (map item_of all)

abbrev pub items_if : Option (Vec Item Global) → Option f.Items
items_if None = None
items_if (Some v) = Some (items_of v.items)

abbrev pub around_of : Around → f.Around
around_of a = record { count = a.count; before = map item_of a.before.items }

-- the innermost first, before those below
abbrev pub arounds_onto : List Around → List f.Around → List f.Around
arounds_onto [] below = below
arounds_onto (a ∷ all) below = arounds_onto all (around_of a ∷ below)

abbrev pub place_of : Place → f.Place
place_of p = f.At (arounds_onto p.around.items []) (map item_of p.before.items) p.count

abbrev pub place_if : Option Place → f.Place
place_if None = f.Lost
place_if (Some p) = place_of p

abbrev pub before_of : Before → f.Before
before_of b.Nothing = f.Nothing
before_of b.Comma = f.Comma
before_of b.Stroke = f.Stroke'
before_of b.Field = f.Field

-- what comes behind an item, if it may stand here
abbrev pub separated_behind : Option Before → f.Items → Bool
separated_behind None rest = false
separated_behind (Some b) rest = f.is_separated (before_of b) rest

abbrev pub fields_if : Option (Vec Field Global) → Option Fields
fields_if None = None
fields_if (Some v) = Some (views.fields_of v.items)

-- fields before others
abbrev pub before_fields : List Field → Fields → Fields
before_fields [] rest = rest
before_fields (a ∷ all) rest = views.field_then a (before_fields all rest)

abbrev pub onto_fields : List Field → Option Fields → Option Fields
onto_fields before None = None
onto_fields before (Some rest) = Some (before_fields before rest)

abbrev pub field_if : Option Field → Option (Fields → Fields)
field_if None = None
field_if (Some a) = Some (views.field_then a)

-- what an item means, in memory
abbrev pub meaning_of : Meaning → Option (Fields → Fields)
meaning_of m.Wrong = None
meaning_of m.Point = Some (λ rest. rest)
meaning_of (m.One a) = Some (views.field_then a)

-- whether a field was added, or none for a comma; else the item means nothing
abbrev pub IsAdded : Bool → List Field → List Field → Option (Fields → Fields) → Type 0
IsAdded true old new g = (rest : Option Fields) → onto_fields new rest ≡ onto_fields old (f.with_field g rest)
IsAdded false old new g = (rest : Option Fields) → f.with_field g rest ≡ None

abbrev pub format_of_inside : f.Items → Option Act
format_of_inside inside = if f.is_separated f.Nothing inside then then_if (f.fields_of inside) (λ fs. Some (Format fs)) else None

abbrev pub format_of_items : f.Items → Option Act
format_of_items all = then_if (f.inside_of all) format_of_inside

-- a list with something in it
abbrev pub has_some : {A : Type 0} → List A → Bool
has_some [] = false
has_some (a ∷ all) = true
