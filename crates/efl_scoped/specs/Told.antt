-- What is told in memory of types, of structures, and of the lists of areas.
use Rattle.std.specs.Prelude.{◌≡◌, ◌≤◌, ◌+◌, ℕ, min, Bool, true, false, ◌&&◌, List, [], ◌∷◌, length, map, filter, find, Option, Some, None, unwrap_or, is_some, if◌then◌else◌}
use Rattle.std.specs.List.{list_any}
use Rattle.std.specs.HashMap.{get_by}
use Rattle.std.specs.Str.{bytes_eq}
use Rattle.rule_table.specs.Words.{is_some_and}
use Rattle.efl_tree.specs.Syntax.{Text, EflDecl, EflProcedure}
use Rattle.efl_scope.specs.declared.areas.Sort.{Sort}
use Rattle.efl_scope.specs.declared.areas.AreaLists.{AreaLists}
use Rattle.efl_scope.specs.DataTypes.{DataType, Structured, Members, is_sound, are_sound, is_faulty, places, all_places}
use Rattle.efl_scope.specs.Scopes.{Blocks, Variable, shape_named, declared_in, naming}
use Rattle.efl_scope.specs.ScopeRules.{is_of, has_area, area_list}
use Rattle.efl_scope.specs.AreaViews.{sorts_of}
use Rattle.efl_scoped.specs.declared.summaries.Summary.{Summary}
use Rattle.efl_scoped.specs.declared.shapes.Shapes.{Shapes}
use Rattle.efl_scoped.specs.Numbers.{Table, Grows, number, number_from}

-- more places than a variable has count as one more
abbrev pub capped : ℕ → ℕ
capped n = min n 32768

-- what is told of a type, by these numbers and all later ones
pub record Tells (f : Table) (t : DataType) (s : Summary) : Type 0 where
  pub sound : s.sound ≡ is_sound t
  pub places : s.places ≡ capped (places t)
  pub numbered : is_sound t ≡ true → (g : Table) → Grows f g → number g t ≡ Some s.number

-- ---- structures ----

-- of members and those before them as much is told as of the rest and those before it
pub record Continues (f : Table) (ms : Members) (a : Summary) (rest : Members) (b : Summary) : Type 0 where
  pub sound : (a.sound && are_sound ms) ≡ (b.sound && are_sound rest)
  pub kept : b.sound ≡ true → a.sound ≡ true
  pub places : capped (a.places + all_places ms) ≡ capped (b.places + all_places rest)
  pub small : a.places ≤ 32768 → b.places ≤ 32768
  pub numbered : b.sound ≡ true → (g : Table) → Grows f g → number_from g ms a.number ≡ number_from g rest b.number

abbrev pub shape_in : Shapes → Text → Option Summary
shape_in known x = get_by (λ k. bytes_eq x k.now) known.table

-- of a structure that comes, where it has a name
abbrev pub shape_if : Option Text → Summary → Text → Option Summary
shape_if None s x = None
shape_if (Some y) s x = if bytes_eq x y then Some s else None

abbrev pub TellsIfAny : Table → Option Members → Option Summary → Type 0
TellsIfAny f None None = Unit {0}
TellsIfAny f (Some ms) (Some s) = Tells f (Structured ms) s
TellsIfAny f _ _ = ⊥

-- of the structures of one block all is told
pub record Knows (f : Table) (known : Shapes) (bs : Blocks) : Type 0 where
  pub alone : length bs ≡ 1
  pub named : (x : Text) → TellsIfAny f (shape_named bs x) (shape_in known x)

-- ---- areas ----

pub record TellsSort (f : Table) (t : DataType) (s : Sort) : Type 0 where
  pub faulty : s.faulty ≡ is_faulty t
  pub numbered : is_faulty t ≡ false → (g : Table) → Grows f g → number g t ≡ Some s.number

abbrev pub TellList : Table → List DataType → List Sort → Type 0
TellList f [] [] = Unit {0}
TellList f (t ∷ ts) (s ∷ ss) = TellsSort f t s × TellList f ts ss
TellList f _ _ = ⊥

abbrev pub sorts_in : AreaLists → Text → List Sort
sorts_in lists q = unwrap_or (sorts_of lists q) []

-- the list of an area that the procedure has
abbrev pub first_if : AreaLists → Bool → Text → Option (List Sort)
first_if own has q = if has then Some (sorts_in own q) else None

-- the types of the variables in an area
abbrev pub kinds_in : Text → List Variable → List DataType
kinds_in q vs = map (λ v. v.kind) (filter (λ v. is_some_and (bytes_eq q) v.area) vs)

-- of the areas of these declarations all is told
pub record TellAreas (f : Table) (ds : List EflDecl) (lists : AreaLists) : Type 0 where
  pub told : (q : Text) → TellList f (kinds_in q (declared_in [] (naming ds ∷ []) ds)) (sorts_in lists q)
  pub named : (q : Text) → is_some (sorts_of lists q) ≡ list_any (λ d. is_of q d.kind) ds

-- of each procedure
abbrev pub TellEach : Table → List EflProcedure → List AreaLists → Type 0
TellEach f [] [] = Unit {0}
TellEach f (u ∷ us) (own ∷ lists) = TellAreas f u.declarations own × TellEach f us lists
TellEach f _ _ = ⊥

-- the list of the first procedure that has the area
abbrev pub TellsFirst : Table → Text → Option EflProcedure → Option (List Sort) → Type 0
TellsFirst f q None None = Unit {0}
TellsFirst f q (Some u) (Some ss) = TellList f (area_list q u) ss
TellsFirst f q _ _ = ⊥

abbrev pub TellFirsts : Table → List EflProcedure → AreaLists → Type 0
TellFirsts f us firsts = (q : Text) → TellsFirst f q (find (has_area q) us) (sorts_of firsts q)
