-- What a walk counts of the parts that it reads: the places of the variables that they list and meet.
use Rattle.std.specs.Prelude.{◌≡◌, ℕ, List, [], ◌∷◌, ◌++◌, filter_map, Some}
use Rattle.std.specs.List.{slice_get}
use Rattle.ground.specs.declared.place.Place.{Place}
use Rattle.efl_tree.specs.Syntax.{Text, EflDeclKind, EflProcedure}
use Rattle.efl_scope.specs.Scopes.{Variable, meaning, variable_if, outer}
use Rattle.efl_scope.specs.Parts.{Form, Header, Declares, Around, Part, part}
use Rattle.efl_scope.specs.Marks.{Located, variables_by}
use Rattle.efl_scope.specs.Uses.{uses_in}
use Rattle.efl_scoped.specs.Seen.{table_of}
use Rattle.efl_expressions.specs.declared.names.Block.{Block}
use Rattle.efl_expressions.specs.declared.names.Blocks.{Blocks}
use Rattle.efl_expressions.specs.declared.names.Blocks.TheBlock.{Outside}
use Rattle.efl_expressions.specs.NameViews.{Know}
use Rattle.efl_storage.specs.declared.firsts.Firsts.{Firsts}
use Rattle.efl_storage.specs.declared.storage.Storage.{Storage}
use Rattle.efl_storage.specs.Firsts.{AreFirsts}
use Rattle.efl_storage.specs.Counted.{CountsAll, Counted, value_of}
use Rattle.efl_storage.specs.Meets.{place_number}
use Rattle.efl_storage.specs.Parts.{Takes}
use Rattle.efl_blocks.specs.declared.types.Types.{Types}
use Rattle.efl_blocks.specs.Within.{Within}
use Rattle.efl_initial_values.specs.Owners.{IsAt}
use Rattle.efl_reading.specs.declared.sites.Site.{Site}
use Rattle.efl_reading.specs.Reading.{IsSite}

-- ---- parts ----

-- a part of a procedure, at a site where all names are known, is counted
abbrev pub CountsAt : Types → Site → Form → Storage → Storage → Type 0
CountsAt y s form old new = (us : List EflProcedure) (u : EflProcedure) (a : Around) (p : Place) (vs : List Part) → IsSite y us u a s →
    Counted us vs old → Counted us (vs ++ part a p form ∷ []) new

-- a declaration, which may list variables of areas
abbrev pub CountsDeclaration : Types → Site → Firsts → EflDeclKind → Storage → Storage → Type 0
CountsDeclaration y s firsts k old new = (us : List EflProcedure) (u : EflProcedure) (a : Around) (before : List Text) (p : Place) (vs : List Part) → IsSite y us u a s → AreFirsts us firsts →
    Counted us vs old → Counted us (vs ++ part a p (Declares before k) ∷ []) new

-- the header of a procedure, of which this is the outer block: its formals have no places
abbrev pub CountsHeader : ℕ → List Text → Block → Storage → Storage → Type 0
CountsHeader n formals block old new = (y : Types) (us : List EflProcedure) (u : EflProcedure) (a : Around) (p : Place) (vs : List Part) →
    slice_get us n ≡ Some u → u.formals ≡ formals → a.unit ≡ n → a.blocks ≡ outer u → Within y (outer u) block Outside →
    Counted us vs old → Counted us (vs ++ part a p (Header u.result u.formals) ∷ []) new

-- parts that neither list nor use variables
abbrev pub MeetNone : List Part → Type 0
MeetNone [] = Unit {0}
MeetNone (v ∷ vs) = (variables_by v.form ≡ []) × (uses_in v.form ≡ []) × MeetNone vs

-- ---- variables that a part lists ----

-- names that a declaration lists
abbrev pub TakesListed : Types → Site → Firsts → List Text → Storage → Storage → Type 0
TakesListed y s firsts names old new = (us : List EflProcedure) (u : EflProcedure) (a : Around) → IsSite y us u a s → AreFirsts us firsts →
    Takes us s.procedure.now.unit (filter_map (λ x. variable_if (meaning a.blocks x)) names) old new

-- so many places count of a variable of this name, whose block stands here
abbrev pub ArePlaces : Types → Site → Firsts → Text → List ℕ → ℕ → Type 0
ArePlaces y s firsts x h many = (us : List EflProcedure) (u : EflProcedure) (a : Around) (v : Variable) → IsSite y us u a s → AreFirsts us firsts →
    variable_if (meaning a.blocks x) ≡ Some v → IsAt u s.procedure.now.areas.now x h v →
    many ≡ value_of us s.procedure.now.unit u (record { unit = s.procedure.now.unit; variable = v })

-- formals, by the outer block
abbrev pub TakesFormals : ℕ → List Text → Blocks → List Text → Storage → Storage → Type 0
TakesFormals n formals blocks names old new = (y : Types) (us : List EflProcedure) (u : EflProcedure) → slice_get us n ≡ Some u → u.formals ≡ formals →
    Know (table_of y.numbers) y.structures.list.items (outer u) blocks →
    Takes us n (filter_map (λ x. variable_if (meaning (outer u) x)) names) old new

-- a place in a procedure gets its number, and what is known stays
pub record IsPlace (old : Storage) (h : List ℕ) (new : Storage) (n : ℕ) : Type 0 where
  pub known : (us : List EflProcedure) (xs : List Located) → CountsAll us xs old → CountsAll us xs new
  pub numbered : place_number new h ≡ Some n
