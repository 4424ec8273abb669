-- The law that the units of an accepted program of EFL are a legal deck and do what it means.
use Rattle.std.specs.Prelude.{◌≡◌, ◌≢◌, ◌≤◌, ℕ, List, length, None}
use Rattle.std.specs.List.{All}
use Rattle.ground.specs.declared.token.Token.{Token}
use Rattle.f66_tree.specs.Syntax.{Line}
use Rattle.f66_tree.specs.World.{Record, Lost}
use Rattle.f66_tree.specs.Units.{Linkage}
use Rattle.f66_tree.specs.Execution.{f66}
use Rattle.f66_tree.specs.Agreement.{Agrees}
use Rattle.f66_program.specs.Linking.{IsLinkage}
use Rattle.linked_soundness.specs.Laws.{AreCodes}
use Rattle.legal_decks.specs.Legal.{IsLegal}
use Rattle.gathered_tokens.specs.Written.{TokenIsWritten}
use Rattle.efl_tree.specs.Syntax.{EflProgram}
use Rattle.efl_grammar.specs.Answers as grammar
use Rattle.efl_scope.specs.FirstFault as scopes
use Rattle.efl_types.specs.TypeRules as types
use Rattle.efl_types.specs.Whole.{TellsWhole}
use Rattle.efl_typed.specs.Linking.{efl_meaning}
use Rattle.efl_built.specs.Unbuilt.{first_unbuilt}
use Rattle.efl_lower.specs.Lowered.{made_of}

-- a program that the parser accepts, of such tokens as gathering gives, and no more of them than a text may have
pub record IsOfText (p : EflProgram) : Type 0 where
  pub tokens : List Token
  pub written : All TokenIsWritten tokens
  pub few : length tokens ≤ 200000
  pub parsed : grammar.IsAccepted tokens p

-- a program of a text that the checks accept, all of whose forms are built
pub record IsAccepted (p : EflProgram) : Type 0 where
  pub text : IsOfText p
  pub scopes : scopes.first_fault p ≡ None
  pub types : types.first_fault p ≡ None
  pub whole : TellsWhole p None
  pub built : first_unbuilt p ≡ None

-- however the places of its units are numbered, a run of them shows what it means, which is never lost
pub record DoTheSame (p : EflProgram) (l : Linkage) (codes : ℕ → List Line) : Type 0 where
  pub agrees : (input : List Record) → Agrees (λ b. efl_meaning p b input) (λ n. f66 l codes input n)
  pub found : (input : List Record) (b : ℕ) → (efl_meaning p b input).end ≢ Lost

pub record Serves (p : EflProgram) : Type 0 where
  pub legal : IsLegal (made_of p)
  pub same : (l : Linkage) → IsLinkage (made_of p).units l → (codes : ℕ → List Line) → AreCodes (made_of p).units codes → DoTheSame p l codes

abbrev pub AcceptedServes : Type 0
AcceptedServes = (p : EflProgram) → IsAccepted p → Serves p
