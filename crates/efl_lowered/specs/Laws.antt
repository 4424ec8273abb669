-- The laws that a program of EFL over scalars and the units that it becomes agree, and that its checks give what this asks of it.
use Rattle.std.specs.Prelude.{◌≡◌, ℕ, List, slice_get, Some, None}
use Rattle.f66_tree.specs.Syntax.{Line, Routine}
use Rattle.f66_tree.specs.World.{Record}
use Rattle.f66_tree.specs.Units.{Linkage}
use Rattle.f66_tree.specs.Execution.{f66}
use Rattle.f66_tree.specs.Agreement.{Agrees}
use Rattle.f66_program.specs.Linking.{IsLinkage}
use Rattle.efl_tree.specs.Syntax.{EflProgram}
use Rattle.efl_scope.specs.FirstFault as scopes
use Rattle.efl_types.specs.TypeRules as types
use Rattle.efl_types.specs.Whole.{TellsWhole}
use Rattle.efl_typed.specs.Linking.{efl_meaning}
use Rattle.efl_typed.specs.Laws.{IsAccepted}
use Rattle.efl_lowered.specs.Naming.{Naming}
use Rattle.efl_lowered.specs.Lowering.{units_of}
use Rattle.efl_lowered.specs.Facts.{IsOverScalars, AreReady}
use Rattle.efl_lowered.specs.Names.{AreNames}
use Rattle.efl_lowered.specs.Needs.{HasRoom}
use Rattle.efl_lowered.specs.Grammatical.{IsGrammatical}

-- the statements of each unit, by its number
abbrev pub AreCodes : List Routine → (ℕ → List Line) → Type 0
AreCodes rs codes = (u : ℕ) (r : Routine) → slice_get rs u ≡ Some r → codes u ≡ r.lines

-- however the places of the units are numbered, a run of them shows what the program means
abbrev pub ScalarUnitsAgree : Type 0
ScalarUnitsAgree =
    (p : EflProgram) (ranks : List ℕ) → IsAccepted p ranks → IsOverScalars p → (names : Naming) → AreNames p names → AreReady p names → (l : Linkage) → IsLinkage (units_of names p) l →
    (codes : ℕ → List Line) → AreCodes (units_of names p) codes → (input : List Record) → Agrees (λ b. efl_meaning p b input) (λ n. f66 l codes input n)

-- a program without a fault, of the shape that the grammar gives, is ready where its units have room for the temporaries of its bodies
abbrev pub AcceptedIsReady : Type 0
AcceptedIsReady =
    (p : EflProgram) → scopes.first_fault p ≡ None → types.first_fault p ≡ None → TellsWhole p None → IsOverScalars p → IsGrammatical p → (names : Naming) → HasRoom p names → AreReady p names
