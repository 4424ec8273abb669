-- What is known behind a part more.
use Rattle.std.specs.Prelude.{◌≡◌, ℕ, List, [], ◌∷◌, ◌++◌, map, filter_map, Some, if◌then◌else◌}
use Rattle.std.specs.List.{slice_get}
use Rattle.ground.specs.declared.place.Place.{Place}
use Rattle.efl_tree.specs.Syntax.{Text, EflProcedure}
use Rattle.efl_scope.specs.Scopes.{Variable, Blocks, Implied, meaning, implicit_type, implied_of}
use Rattle.efl_scope.specs.ScopeRules.{holds}
use Rattle.efl_scope.specs.Parts.{Form, Around, Part, part}
use Rattle.efl_scope.specs.Marks.{Located, undeclared_by, met_by}
use Rattle.efl_scope.specs.Uses.{Use}
use Rattle.efl_types.specs.Storage.{counted}
use Rattle.efl_scoped.specs.Numbers.{Table}
use Rattle.efl_expressions.specs.declared.types.Structure.{Structure}
use Rattle.efl_expressions.specs.NameViews.{Know}
use Rattle.efl_names.specs.NameViews.{AreLetters}
use Rattle.efl_storage.specs.declared.storage.Storage.{Storage}
use Rattle.efl_storage.specs.declared.met.Sight.{Sight}
use Rattle.efl_storage.specs.Counted.{CountsAll, Counted}

-- variables of the procedure with this number
abbrev pub located : ℕ → List Variable → List Located
located n vs = map (λ v. record { unit = n; variable = v }) vs

-- variables more of one procedure are counted
abbrev pub Takes : List EflProcedure → ℕ → List Variable → Storage → Storage → Type 0
Takes us n vs old new = (xs : List Located) → CountsAll us xs old → CountsAll us (xs ++ located n vs) new

-- ---- undeclared variables ----

-- those among names that stand by themselves, and those that a part meets
abbrev pub undeclared_in : List Implied → Blocks → List Text → List Variable
undeclared_in rules bs names = filter_map (λ x. undeclared_by rules x (meaning bs x)) names

abbrev pub met_in : List Implied → Blocks → List Use → List Variable
met_in rules bs uses = filter_map (met_by rules bs) uses

abbrev pub undeclared_places : EflProcedure → Text → ℕ
undeclared_places u x = if holds u.formals x then 0 else counted (implicit_type (implied_of u) x)

-- a part of the procedure u among these blocks
pub record Sees (f : Table) (ss : List Structure) (us : List EflProcedure) (u : EflProcedure) (bs : Blocks) (s : Sight) : Type 0 where
  pub found : slice_get us s.unit ≡ Some u
  pub formals : u.formals ≡ s.formals.now
  pub letters : AreLetters f ss (implied_of u) s.letters.now
  pub blocks_known : Know f ss bs s.blocks.now

-- one name, names, and uses of such a part
abbrev pub TakesName : Sight → Text → Storage → Storage → Type 0
TakesName s x old new = (f : Table) (ss : List Structure) (us : List EflProcedure) (u : EflProcedure) (bs : Blocks) → Sees f ss us u bs s →
    Takes us s.unit (undeclared_in (implied_of u) bs (x ∷ [])) old new

abbrev pub TakesNames : Sight → List Text → Storage → Storage → Type 0
TakesNames s names old new = (f : Table) (ss : List Structure) (us : List EflProcedure) (u : EflProcedure) (bs : Blocks) → Sees f ss us u bs s →
    Takes us s.unit (undeclared_in (implied_of u) bs names) old new

abbrev pub TakesUses : Sight → List Use → Storage → Storage → Type 0
TakesUses s uses old new = (f : Table) (ss : List Structure) (us : List EflProcedure) (u : EflProcedure) (bs : Blocks) → Sees f ss us u bs s →
    Takes us s.unit (met_in (implied_of u) bs uses) old new

-- ---- parts ----

-- a part of this form is counted
abbrev pub CountsPart : Sight → Form → Storage → Storage → Type 0
CountsPart s form old new = (f : Table) (ss : List Structure) (us : List EflProcedure) (u : EflProcedure) (a : Around) (p : Place) (vs : List Part) →
    Sees f ss us u a.blocks s → a.unit ≡ s.unit → Counted us vs old → Counted us (vs ++ part a p form ∷ []) new
