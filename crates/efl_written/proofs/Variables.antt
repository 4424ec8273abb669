-- The variables that a part lists and meets have the names that it lists and uses.
use Rattle.std.proofs.Common.{◌≡◌, Bool, true, false, List, [], ◌∷◌, ◌++◌, Option, None, Some, refl, subst}
use Rattle.std.specs.Prelude.{⊤, filter_map, if◌then◌else◌}
use Rattle.std.specs.Option.{option_or}
use Rattle.std.specs.List.{cons_option, list_any}
use Rattle.std.specs.Str.{bytes_eq}
use Rattle.rule_table.specs.Words.{find_map}
use Rattle.efl_tree.specs.Syntax.{Text, EflProcedure}
use Rattle.efl_scope.specs.Scopes.{Variable, Shaped, Blocks, Implied, Meaning, IsVariable, IsStructure, structure_of, variable_of, in_block, meaning, variable_if}
use Rattle.efl_scope.specs.Parts.{Part}
use Rattle.efl_scope.specs.Uses.{Use, Named, Applied, Laid, uses_in}
use Rattle.efl_scope.specs.Marks.{Located, same_located, undeclared_by, met_by, implied_at, variables_by, located_at, distinct}
use Rattle.efl_typed.proofs.Each.{Each}
use Rattle.efl_lowered.proofs.Lists.{text_is}
use Rattle.efl_lowered.proofs.TypedChecks.{each_on}
use Rattle.efl_lowered.proofs.TypedVariables.{each_mapped}
use Rattle.efl_written.proofs.Tokens.{Capitals}
use Rattle.efl_written.proofs.Expressions.{Met}

-- a variable of this name, a structure, or nothing
abbrev Means : Text → Option Meaning → Type 0
Means x None = ⊤
Means x (Some (IsVariable v)) = x ≡ v.name
Means x (Some (IsStructure ms)) = ⊤

either : (x : Text) (a b : Option Meaning) → Means x a → Means x b → Means x (option_or a b)
either x None b h k = k
either x (Some m) b h k = h

structure_means : (x : Text) (ss : List Shaped) → Means x (find_map (structure_of x) ss)
structure_means x [] = tt
structure_means x (s ∷ ss) = either x (structure_of x s) (find_map (structure_of x) ss) (one (bytes_eq x s.name)) (structure_means x ss)
  where
    one : (b : Bool) → Means x (if b then Some (IsStructure s.members) else None)
    one true = tt
    one false = tt

variable_means : (x : Text) (vs : List Variable) → Means x (find_map (variable_of x) vs)
variable_means x [] = tt
variable_means x (v ∷ vs) = either x (variable_of x v) (find_map (variable_of x) vs) (one (bytes_eq x v.name) refl) (variable_means x vs)
  where
    one : (b : Bool) → bytes_eq x v.name ≡ b → Means x (if b then Some (IsVariable v) else None)
    one true e = text_is x v.name e
    one false e = tt

means : (x : Text) (bs : Blocks) → Means x (meaning bs x)
means x [] = tt
means x (b ∷ bs) =
    either x (in_block x b) (meaning bs x) (either x (find_map (structure_of x) b.structures) (find_map (variable_of x) b.variables) (structure_means x b.structures) (variable_means x b.variables)) (means x bs)

-- ---- of a part ----

abbrev HasName : Variable → Type 0
HasName v = Capitals v.name

listed : (bs : Blocks) (xs : List Text) → Each Capitals xs → Each HasName (filter_map (λ x. variable_if (meaning bs x)) xs)
listed bs [] h = tt
listed bs (x ∷ xs) h = by (meaning bs x) (means x bs) (listed bs xs h.1)
  where
    by : (o : Option Meaning) → Means x o → Each HasName (filter_map (λ y. variable_if (meaning bs y)) xs) → Each HasName (cons_option (variable_if o) (filter_map (λ y. variable_if (meaning bs y)) xs))
    by None e later = later
    by (Some (IsVariable v)) e later = (subst Capitals e h.0, later)
    by (Some (IsStructure ms)) e later = later

met : (rules : List Implied) (bs : Blocks) (ws : List Use) → Each Met ws → Each HasName (filter_map (met_by rules bs) ws)
met rules bs [] h = tt
met rules bs (Named x ∷ ws) h = by (meaning bs x) (met rules bs ws h.1)
  where
    by : (o : Option Meaning) → Each HasName (filter_map (met_by rules bs) ws) → Each HasName (cons_option (undeclared_by rules x o) (filter_map (met_by rules bs) ws))
    by None later = (h.0, later)
    by (Some m) later = later
met rules bs (Applied x ∷ ws) h = met rules bs ws h.1
met rules bs (Laid x ∷ ws) h = met rules bs ws h.1

abbrev pub IsNamed : Located → Type 0
IsNamed x = Capitals x.variable.name

pub located : (us : List EflProcedure) (v : Part) → Each Capitals (variables_by v.form) → Each Met (uses_in v.form) → Each IsNamed (located_at us v)
located us v h k =
    let bs = v.around.blocks in
    let rules = implied_at us v.around.unit in
    let own = filter_map (λ x. variable_if (meaning bs x)) (variables_by v.form) in
    let more = filter_map (met_by rules bs) (uses_in v.form) in
    each_mapped IsNamed (λ x. record { unit = v.around.unit; variable = x }) (own ++ more) (each_on HasName own more (listed bs (variables_by v.form) h) (met rules bs (uses_in v.form) k))

pub once : (before xs : List Located) → Each IsNamed xs → Each IsNamed (distinct before xs)
once before [] h = tt
once before (x ∷ xs) h = by (list_any (same_located x) before) (once before xs h.1) (once (x ∷ before) xs h.1)
  where
    by : (b : Bool) → Each IsNamed (distinct before xs) → Each IsNamed (distinct (x ∷ before) xs) → Each IsNamed (if b then (distinct before xs) else (x ∷ distinct (x ∷ before) xs))
    by true f g = f
    by false f g = (h.0, g)
