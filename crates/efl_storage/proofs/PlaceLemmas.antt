-- Places of blocks within each other have their numbers.
use Rattle.std.proofs.Common.{◌≡◌, ◌∷◌, ℕ, List, Some, Result, Ok, Err}
use Rattle.std.specs.Result.{IfOk, OnOk}
use Rattle.efl_scope.specs.Marks.{Located}
use Rattle.efl_scoped.specs.Seen.{table_of}
use Rattle.efl_variables.specs.declared.variables.Variables.{Variables}
use Rattle.efl_variables.specs.Keys.{list_number}
use Rattle.efl_variables.specs.Numbered.{AreVariables}
use Rattle.efl_storage.specs.declared.storage.Storage.{Storage}
use Rattle.efl_storage.specs.Meets.{IsWithin}

-- the variables are the same, with more numbers
pub place_made : {E : Type 0} (old : Storage) (after : Variables) (step outside : ℕ) (r : Result ℕ E) → OnOk r ((xs : List Located) → AreVariables xs old.variables → AreVariables xs after) →
    IfOk r (λ n. (h : List ℕ) → list_number (table_of old.variables.numbers) h ≡ Some outside → list_number (table_of after.numbers) (step ∷ h) ≡ Some n) →
    OnOk r ((h : List ℕ) (k : ℕ) → list_number (table_of old.variables.numbers) h ≡ Some k → list_number (table_of after.numbers) h ≡ Some k) →
    IfOk r (λ n. IsWithin old step outside (record old { variables = after }) n)
place_made old after step outside (Err e) known numbered kept = tt
place_made old after step outside (Ok n) known numbered kept = record {
  known = λ us xs counts. record { variables = known _ counts.variables; places = counts.places };
  kept = kept;
  numbered = numbered;
}
