-- What declarations give: variables, and the types of letters.
use Rattle.std.specs.Prelude.{◌≡◌, ℕ, true, false, List, [], ◌++◌, map, Option}
use Rattle.std.specs.List.{list_any}
use Rattle.ground.specs.declared.value.Kind.{Kind}
use Rattle.efl_tree.specs.Syntax.{Text, EflVar, EflDeclKind, EflDecl, EflProcedure}
use Rattle.efl_scope.specs.DataTypes.{Scalar}
use Rattle.efl_scope.specs.Scopes.{Blocks, Variable, Implied, variable, declared_by, declared_in, implied_by, implied_in, implied_of, undeclared, own_variables}
use Rattle.efl_scope.specs.Marks.{Located}
use Rattle.efl_scoped.specs.Seen.{table_of}
use Rattle.efl_built.specs.Unbuilt.{has_bounds, unbuilt_declaration}
use Rattle.efl_variables.specs.declared.variables.Variables.{Variables}
use Rattle.efl_variables.specs.Keys.{list_number}
use Rattle.efl_variables.specs.Numbered.{AreVariables}
use Rattle.efl_bindings.specs.declared.scopes.Table.{Table}
use Rattle.efl_bindings.specs.declared.letters.Letters.{Letters}
use Rattle.efl_bindings.specs.declared.homes.Home.{Home}
use Rattle.efl_bindings.specs.Bindings.{AreScalars, AreLetters}
use Rattle.efl_bindings.specs.Sites.{are_built}

-- ---- variables ----

-- the block at this place, among all variables
pub record IsHome (xs : List Located) (place : List ℕ) (h : Home) : Type 0 where
  pub variables : AreVariables xs h.variables.now
  pub numbered : list_number (table_of h.variables.now.numbers) place ≡ h.place

-- variables of one type come
abbrev pub DeclaresAll : Home → Kind → Table → List EflVar → Table → Type 0
DeclaresAll h k old vs new = (xs : List Located) (place : List ℕ) (q : Option Text) (ws : List Variable) → IsHome xs place h → list_any has_bounds vs ≡ false → AreScalars xs h.unit ws old →
    AreScalars xs h.unit (ws ++ map (variable place q (Scalar k)) vs) new

abbrev pub Declares : Home → Table → EflDeclKind → Table → Type 0
Declares h old k new = (xs : List Located) (place : List ℕ) (bs : Blocks) (ws : List Variable) → IsHome xs place h → unbuilt_declaration k ≡ false → AreScalars xs h.unit ws old →
    AreScalars xs h.unit (ws ++ declared_by place bs k) new

abbrev pub AreDeclared : Home → List EflDecl → Table → Type 0
AreDeclared h ds t = (xs : List Located) (place : List ℕ) (bs : Blocks) → IsHome xs place h → are_built ds ≡ true → AreScalars xs h.unit (declared_in place bs ds) t

-- ---- letters ----

-- ranges give one type
abbrev pub GivesAll : Kind → Letters → List (ℕ × ℕ) → Letters → Type 0
GivesAll k old rs new = (rules : List Implied) → AreLetters rules old → AreLetters (rules ++ map (λ r. record { first = r.0; last = r.1; kind = Scalar k }) rs) new

abbrev pub Implies : Letters → EflDeclKind → Letters → Type 0
Implies old k new = (bs : Blocks) (rules : List Implied) → unbuilt_declaration k ≡ false → AreLetters rules old → AreLetters (rules ++ implied_by bs k) new

abbrev pub ImpliesAll : List EflDecl → Letters → Type 0
ImpliesAll ds letters = (bs : Blocks) → are_built ds ≡ true → AreLetters (implied_in bs ds) letters

-- ---- the outer block ----

-- formals that aren't declared come
abbrev pub DeclaresFormals : Home → Letters → Table → List Text → Table → Type 0
DeclaresFormals h letters old fs new = (xs : List Located) (rules : List Implied) (vs : List Variable) → IsHome xs [] h → AreLetters rules letters → AreScalars xs h.unit vs old →
    AreScalars xs h.unit (vs ++ undeclared rules vs fs) new

-- the variables of the outer block of the procedure with this number
abbrev pub IsOuter : ℕ → EflProcedure → Letters → Variables → Table → Type 0
IsOuter n u letters all t = (xs : List Located) → AreVariables xs all → are_built u.declarations ≡ true → AreLetters (implied_of u) letters →
    AreScalars xs n (own_variables u ++ undeclared (implied_of u) (own_variables u) u.formals) t
