-- Units that say what others say, but for a spare variable.
use Rattle.std.specs.Prelude.{◌≡◌, ◌≢◌, ◌⊎◌, false, List, [], ◌∷◌, Option, Some, None, map, ⊤}
use Rattle.std.specs.List.{Contains, flat_map, list_any}
use Rattle.f66_tree.specs.declared.declaration.TypeWord.TheVariants.{Integer}
use Rattle.f66_tree.specs.Syntax.{Text, Typed, Line, Routine}
use Rattle.f66_tree.specs.Units.{Note, Context, name_of, notes_of}
use Rattle.f66_program.specs.Mentions.{Mention, AVariable, ACall, AKnown, context_of, mentions_in, is_dummy, declares}

-- INTEGER spare
abbrev pub spare_note : Text → Note
spare_note y = record { label = None; act = Typed Integer (record { name = y; sizes = [] } ∷ []) }

-- before other declarations, where there is a spare name
abbrev pub with_spare : Option Text → List Note → List Note
with_spare None notes = notes
with_spare (Some y) notes = spare_note y ∷ notes

-- what the statements of a unit mention
abbrev pub mentions_of_lines : Context → List Line → List Mention
mentions_of_lines c lines = flat_map (λ s. mentions_in c s.act) lines

abbrev pub is_spare : Option Text → Mention → Type 0
is_spare None m = ⊥
is_spare (Some y) m = m ≡ AVariable y

abbrev pub mention_name : Mention → Text
mention_name (AVariable x) = x
mention_name (ACall b x es) = x
mention_name (AKnown x) = x

-- the unit has no such name
pub record Lacks (s : Routine) (y : Text) : Type 0 where
  pub own : name_of s.header ≢ y
  pub dummies : is_dummy y s.header ≡ false
  pub declared : list_any (λ t. declares y t.act) s.lines ≡ false
  pub mentioned : (c : Context) (m : Mention) → Contains (mentions_of_lines c s.lines) m → mention_name m ≢ y

abbrev pub LacksIfAny : Routine → Option Text → Type 0
LacksIfAny s None = ⊤
LacksIfAny s (Some y) = Lacks s y

-- Of two units r says what s says, in any order and as often as it likes: it has the same header, the same declarations in their order,
-- and the same mentions of names, but for a spare variable, which s has not.
pub record Spared (spare : Option Text) (s r : Routine) : Type 0 where
  pub header : r.header ≡ s.header
  pub notes : notes_of r.lines ≡ with_spare spare (notes_of s.lines)
  pub heard : (m : Mention) → Contains (mentions_of_lines (context_of r) r.lines) m → is_spare spare m ⊎ Contains (mentions_of_lines (context_of r) s.lines) m
  pub told : (m : Mention) → Contains (mentions_of_lines (context_of r) s.lines) m → Contains (mentions_of_lines (context_of r) r.lines) m
  pub lacks : LacksIfAny s spare

-- a unit, and the one that it became
pub record Pair : Type 0 where
  pub spare : Option Text
  pub said : Routine
  pub made : Routine
  pub spared : Spared spare said made

abbrev pub said_units : List Pair → List Routine
said_units ps = map (λ p. p.said) ps

abbrev pub made_units : List Pair → List Routine
made_units ps = map (λ p. p.made) ps

-- two units that say the same
pub record Twins : Type 0 where
  pub one : Routine
  pub other : Routine
  pub same : Spared None one other

abbrev pub ones : List Twins → List Routine
ones ts = map (λ t. t.one) ts

abbrev pub others : List Twins → List Routine
others ts = map (λ t. t.other) ts
