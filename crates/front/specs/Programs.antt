-- Which linked units of FORTRAN are the program of a meaning.
use Rattle.std.specs.Prelude.{◌≡◌, ◌≢◌, ◌<◌, ℕ, List, All, length, map}
use Rattle.f66_tree.specs.declared.unit.Unit.{Unit as AUnit}
use Rattle.f66_tree.specs.Syntax.{Line}
use Rattle.f66_tree.specs.Views.{routine_of}
use Rattle.f66_tree.specs.World.{Record, Lost}
use Rattle.f66_tree.specs.Units.{Linkage}
use Rattle.f66_tree.specs.Execution.{f66}
use Rattle.f66_tree.specs.Agreement.{Agrees}
use Rattle.f66_check.specs.Answers.{IsSoundUnit}
use Rattle.f66_program.specs.Association.{IsBadUnit}
use Rattle.f66_program.specs.Linking.{Program, IsLinkage, IsWhole}
use Rattle.linked_soundness.specs.Laws.{AreCodes}
use Rattle.stmt_text.specs.Fitting.{IsPrintable}
use Rattle.rat_tree.specs.Syntax.{RatProgram}
use Rattle.rat_lower.specs.Served.{AllServe}
use Rattle.deck_laws.specs.Whole.{IsSoundDeck}
use Rattle.front.specs.Checked.{Meaning}

-- The units of a program are linked: each has a good association, they break no rule of linking, and this is what they do over records
-- of input, after at most so many statements. It goes by some numbers of their storage units, and is the same by others.
pub record AreLinked (made : Program) (run : Meaning) : Type 0 where
  pub well : All (λ r. ¬ IsBadUnit r) made.units
  pub whole : IsWhole made
  pub linkage : Linkage
  pub links : IsLinkage made.units linkage
  pub codes : ℕ → List Line
  pub of : AreCodes made.units codes
  pub is : run ≡ f66 linkage codes

-- These units are sound FORTRAN and linked, and over any records of input their run agrees with the meaning: what it shows
-- the meaning has, and within 32 times the work of the meaning it misses nothing. The meaning is never Lost, so of each
-- input something is said. Each header and each statement fits its cards, and the printed deck passes no limit of decks.
pub record IsProgramOf (meaning : Meaning) (made : Program) : Type 0 where
  pub sound : All IsSoundUnit made.units
  pub run : Meaning
  pub linked : AreLinked made run
  pub agrees : (input : List Record) → Agrees (meaning input) (run input)
  pub found : (input : List Record) (b : ℕ) → (meaning input b).end ≢ Lost
  pub printable : All IsPrintable made.units
  pub passes : IsSoundDeck made.units

-- units that serve for those of a tree, some of them at least, have a printed deck that passes no limit
abbrev pub PassWhereServed : RatProgram → Type 0
PassWhereServed p = (made : List AUnit) → 0 < length made → AllServe p.routines p.finish made → IsSoundDeck (map routine_of made)
