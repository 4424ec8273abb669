-- The owners of places in memory: the areas that the variables of a procedure's outer block are in, and the numbers of owners.
use Rattle.std.specs.Prelude.{◌≡◌, ℕ, List, [], ◌∷◌, Option, Some, option_map, option_and_then}
use Rattle.std.specs.HashMap.{get_by}
use Rattle.std.specs.Str.{bytes_eq}
use Rattle.efl_tree.specs.Syntax.{Text, EflProcedure}
use Rattle.efl_scope.specs.Scopes.{Variable, meaning, variable_if, outer}
use Rattle.efl_types.specs.Presets.{Owner, Own, OfArea, area_if_outer, number_in_area}
use Rattle.efl_scoped.specs.Numbers.{Table, Grows, along}
use Rattle.efl_initial_values.specs.declared.areas.Areas.{Areas}

-- ---- areas ----

-- the area of a variable of the outer block, and its number there
abbrev pub shared_of : EflProcedure → Variable → Option (Text × ℕ)
shared_of u v = option_map (λ q. (q, number_in_area u q v.name)) (area_if_outer v)

abbrev pub shared_by : EflProcedure → Text → Option (Text × ℕ)
shared_by u x = option_and_then (shared_of u) (variable_if (meaning (outer u) x))

abbrev pub shared_in : Areas → Text → Option (Text × ℕ)
shared_in areas x = option_and_then (option_map (λ s. (s.area.now, s.number))) (get_by (λ k. bytes_eq x k.now) areas.table)

-- of each name of the outer block the area and the number
abbrev pub AreAreas : EflProcedure → Areas → Type 0
AreAreas u areas = (x : Text) → shared_in areas x ≡ shared_by u x

-- a variable of this name, in the block at this position
pub record IsAt (u : EflProcedure) (areas : Areas) (x : Text) (h : List ℕ) (v : Variable) : Type 0 where
  pub home : v.home ≡ h
  pub name : x ≡ v.name
  pub shared : v.home ≡ [] → shared_in areas x ≡ shared_of u v

-- ---- numbers ----

-- from 2 on go the bytes of a name, and from 0 and 1 on what tells an owner of the two kinds
abbrev pub owner_code : Table → Owner → Option ℕ
owner_code f (Own n h x) = option_and_then (λ w. along f (n ∷ w ∷ h) 0) (along f x 2)
owner_code f (OfArea q i) = along f (i ∷ q) 1

-- an owner gets its number, in this table and all later ones
pub record Codes (f : Table) (o : Owner) (g : Table) (n : ℕ) : Type 0 where
  pub grows : Grows f g
  pub codes : (h : Table) → Grows g h → owner_code h o ≡ Some n
