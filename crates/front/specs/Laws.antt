-- The laws of whole programs of Ratfor, and of the verdicts on texts.
use Rattle.std.specs.Prelude.{◌≡◌, ◌≢◌, ◌≤◌, ℕ, List, All, length, map}
use Rattle.ground.specs.declared.fault.Fault.{Fault}
use Rattle.ground.specs.declared.token.Dialect.{Dialect}
use Rattle.f66_tree.specs.declared.unit.Unit.{Unit as AUnit}
use Rattle.f66_tree.specs.Syntax.{Line, Routine}
use Rattle.f66_tree.specs.Views.{routine_of}
use Rattle.f66_tree.specs.World.{Record, Lost}
use Rattle.f66_tree.specs.Units.{Linkage}
use Rattle.f66_tree.specs.Execution.{f66}
use Rattle.f66_tree.specs.Agreement.{Agrees}
use Rattle.f66_program.specs.Association.{IsBadUnit}
use Rattle.f66_program.specs.Linking.{IsLinkage, IsWhole}
use Rattle.linked_soundness.specs.Laws.{AreCodes}
use Rattle.stmt_text.specs.Fitting.{IsPrintable}
use Rattle.macro_define.specs.Answers.{Known}
use Rattle.rat_tree.specs.Syntax.{RatProgram}
use Rattle.rat_link.specs.Linking.{IsAccepted, IsFirstFaultOf}
use Rattle.rat_lower.specs.Served.{AllServe}
use Rattle.front.specs.Checked.{Meaning}
use Rattle.front.specs.Meant.{IsMeaningOf}
use Rattle.front.specs.Verdict.{Verdict, Becomes}

-- ---- programs of Ratfor ----

-- a program has at most one first fault
abbrev pub OneFirstFault : Type 0
OneFirstFault = (p : RatProgram) (f g : Fault) → IsFirstFaultOf p f → IsFirstFaultOf p g → f ≡ g

-- and none where it is accepted
abbrev pub AcceptedHasNone : Type 0
AcceptedHasNone = (p : RatProgram) (f : Fault) → IsAccepted p → ¬ IsFirstFaultOf p f

-- an accepted program has one meaning, whatever numbers its storage units have
abbrev pub OneMeaning : Type 0
OneMeaning = (p : RatProgram) (a b : Meaning) → IsAccepted p → IsMeaningOf p a → IsMeaningOf p b → a ≡ b

-- by this linkage of units they do what the program means, which is never lost
pub record DoTheSame (p : RatProgram) (units : List Routine) (l : Linkage) (codes : ℕ → List Line) : Type 0 where
  pub meaning : Meaning
  pub means : IsMeaningOf p meaning
  pub agrees : (input : List Record) → Agrees (meaning input) (f66 l codes input)
  pub found : (input : List Record) (b : ℕ) → (meaning input b).end ≢ Lost

-- units for a program: none is bad by itself, they link where it does, have a linkage, do the same by each, and fit their cards
pub record ServeFor (p : RatProgram) (units : List Routine) : Type 0 where
  pub well : All (λ r. ¬ IsBadUnit r) units
  pub whole : IsWhole (record { units = units; finish = p.finish })
  pub linkage : Linkage
  pub links : IsLinkage units linkage
  pub same : (l : Linkage) → IsLinkage units l → (codes : ℕ → List Line) → AreCodes units codes → DoTheSame p units l codes
  pub printable : All IsPrintable units

-- The units that serve for those of an accepted program serve for it, where there are at most 500, as in a text (limit 5): each may
-- have a storage unit more, for its spare name.
abbrev pub UnitsServe : Type 0
UnitsServe = (p : RatProgram) (made : List AUnit) → length p.routines ≤ 500 → IsAccepted p → AllServe p.routines p.finish made → ServeFor p (map routine_of made)

-- ---- verdicts ----

-- a text has one verdict
abbrev pub OneVerdict : Type 0
OneVerdict = (d : Dialect) (name : List ℕ) (known : Known) (a b : Verdict) → Becomes d name known a → Becomes d name known b → a ≡ b
