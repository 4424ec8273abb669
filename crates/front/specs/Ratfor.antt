-- What becomes of the tokens of a Ratfor text: its first fault, or what it means. The phases are parse, the checks of each unit, and
-- linking. The first phase with a fault decides.
use Rattle.std.specs.Prelude.{◌≡◌, ◌⊎◌, List}
use Rattle.ground.specs.declared.fault.Fault.{Fault}
use Rattle.ground.specs.declared.token.Token.{Token}
use Rattle.rat_grammar.specs.Answers.{IsFirstFault, IsAccepted}
use Rattle.front.specs.Checked.{Checked, Faulty, Means}
use Rattle.rat_tree.specs.Syntax.{RatProgram}
use Rattle.rat_link.specs.Linking.{IsFirstFaultOf, IsAccepted as IsWholeProgram}
use Rattle.front.specs.Meant.{IsMeaningOf}

-- ---- checks and linking ----

-- the first fault of a program, or what it means
abbrev pub IsJudged : RatProgram → Checked → Type 0
IsJudged tree (Faulty fault) = IsFirstFaultOf tree fault
IsJudged tree (Means meaning) = IsWholeProgram tree × IsMeaningOf tree meaning

-- ---- parse ----

-- the first fault at the published grammar or at a limit, or what is said of the tree
abbrev pub IsRatfor : List Token → Checked → Type 0
IsRatfor ts c =
    ((fault : Fault) × IsFirstFault ts fault × (c ≡ Faulty fault))
    ⊎ ((tree : RatProgram) × IsAccepted ts tree × IsJudged tree c)
