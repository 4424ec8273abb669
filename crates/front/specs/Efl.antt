-- What becomes of the tokens of an EFL text: its first fault, of the grammar, then of scopes, then of types, then of the whole
-- program; or what it means. A text that all of them accept is not built yet where it has a form that is not.
use Rattle.std.specs.Prelude.{◌≡◌, ◌⊎◌, List, Option, Some, None}
use Rattle.ground.specs.declared.fault.Fault.{Fault}
use Rattle.ground.specs.declared.fault.FaultKind.TheVariants.{Unbuilt}
use Rattle.ground.specs.declared.place.Place.{Place}
use Rattle.ground.specs.Faults.{fault_at}
use Rattle.ground.specs.declared.token.Token.{Token}
use Rattle.efl_grammar.specs.Answers.{IsFirstFault, IsAccepted}
use Rattle.efl_tree.specs.Syntax.{EflProgram}
use Rattle.efl_scoped.specs.Answers.{IsScoped, IsFirst}
use Rattle.efl_types.specs.Whole.{TellsWhole}
use Rattle.efl_checks.specs.Answers.{typed_fault}
use Rattle.efl_typed.specs.Linking.{efl_meaning}
use Rattle.efl_built.specs.Unbuilt.{first_unbuilt}
use Rattle.front.specs.Checked.{Meaning, Checked, Faulty, Means}

-- ---- what is built ----

abbrev pub meaning_of : EflProgram → Meaning
meaning_of tree input b = efl_meaning tree b input

-- a form that is not built is told where it stands
abbrev pub IsBuilt : EflProgram → Option Place → Checked → Type 0
IsBuilt tree (Some place) c = c ≡ Faulty (fault_at place Unbuilt)
IsBuilt tree None c = c ≡ Means (meaning_of tree)

-- ---- checks ----

-- the first fault of the whole program, or what is said of a tree without one
abbrev pub IsWhole : EflProgram → Option Fault → Checked → Type 0
IsWhole tree (Some fault) c = c ≡ Faulty fault
IsWhole tree None c = IsBuilt tree (first_unbuilt tree) c

-- the first fault of types and of the limit on all variables, or what is said behind them
abbrev pub IsTyped : EflProgram → Option Fault → Checked → Type 0
IsTyped tree (Some fault) c = c ≡ Faulty fault
IsTyped tree None c = (o : Option Fault) × TellsWhole tree o × IsWhole tree o c

-- the first fault of scopes, or what is said behind them
abbrev pub IsJudged : EflProgram → Checked → Type 0
IsJudged tree c = ((fault : Fault) × IsFirst tree fault × (c ≡ Faulty fault)) ⊎ (IsScoped tree × IsTyped tree (typed_fault tree) c)

-- ---- parse ----

-- the first fault at the published grammar or at a limit, or what is said of the tree
abbrev pub IsEfl : List Token → Checked → Type 0
IsEfl ts c =
    ((fault : Fault) × IsFirstFault ts fault × (c ≡ Faulty fault))
    ⊎ ((tree : EflProgram) × IsAccepted ts tree × IsJudged tree c)
