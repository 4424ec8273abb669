-- What a run of linked units comes to.
use Rattle.std.specs.Prelude.{◌≡◌, ◌<◌, ◌^◌, ℕ, List, All}
use Rattle.f66_tree.specs.Syntax.{Line}
use Rattle.ground.specs.declared.place.Place.{Place}
use Rattle.ground.specs.declared.trap.Trap.TheVariants.{EndOfInput}
use Rattle.f66_tree.specs.World.{Record, Shown, Ended, Trapped}
use Rattle.f66_tree.specs.Units.{Linkage}
use Rattle.f66_tree.specs.Execution.{f66}
use Rattle.f66_check.specs.Answers.{IsSoundUnit}
use Rattle.f66_program.specs.Association.{IsBadUnit}
use Rattle.f66_program.specs.Linking.{Program, IsWhole, IsLinkage}
use Rattle.linked_soundness.specs.Laws.{AreCodes}
use Rattle.stack_code.specs.declared.valid.Code.{Code}
use Rattle.stack_code.specs.StackMachine.{Runs}
use Rattle.runner.specs.Running.{IsValidCode, program, bounded}

-- what linked units show over records of input after at most so many statements, whatever the numbers of their storage units
pub record IsRunOf (made : Program) (input : List Record) (limit : ℕ) (shown : Shown) : Type 0 where
  pub linkage : Linkage
  pub links : IsLinkage made.units linkage
  pub shows : (l : Linkage) → IsLinkage made.units l → (codes : ℕ → List Line) → AreCodes made.units codes → shown ≡ f66 l codes input limit

-- sound units of which none is bad by itself, and which link
pub record IsSoundProgram (made : Program) : Type 0 where
  pub sound : All IsSoundUnit made.units
  pub well : All (λ r. ¬ IsBadUnit r) made.units
  pub whole : IsWhole made

-- valid code for a store that is not too large, whose runs are those of the units, of which there is one over any records
pub record Codes (made : Program) (code : Code) : Type 0 where
  pub valid : IsValidCode code
  pub few : code.units < 2 ^ 31
  pub runs : (input : List Record) (limit : ℕ) (shown : Shown) (count : ℕ) → Runs (program code) input limit shown count → IsRunOf made input limit shown
  pub all : (input : List Record) (limit : ℕ) (shown : Shown) → IsRunOf made input limit shown → (count : ℕ) × Runs (program code) input limit shown count
  pub some : (input : List Record) (limit : ℕ) → (shown : Shown) × IsRunOf made input limit shown

-- so many instructions are executed, at most the greatest u64, where code of the units shows this over these records
pub record Executes (made : Program) (input : List Record) (limit : ℕ) (shown : Shown) (executed : ℕ) : Type 0 where
  pub code : Code
  pub codes : Codes made code
  pub count : ℕ
  pub runs : Runs (program code) input limit shown count
  pub is : executed ≡ bounded count

-- a run of linked units over these records alone ends where it asks for one more
pub record AsksForMore (made : Program) (limit : ℕ) (input : List Record) : Type 0 where
  pub shown : Shown
  pub executed : ℕ
  pub place : Place
  pub runs : IsRunOf made input limit shown
  pub counts : Executes made input limit shown executed
  pub end : shown.end ≡ Ended (Trapped EndOfInput place)
