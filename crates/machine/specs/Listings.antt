-- The printed text of the stack code of linked units.
use Rattle.std.specs.Prelude.{◌≡◌, ℕ, List}
use Rattle.f66_program.specs.Linking.{Program}
use Rattle.stack_code.specs.declared.valid.Code.{Code}
use Rattle.code_listing.specs.Listing.{listing}
use Rattle.machine.specs.Runs.{Codes}

-- the listing of valid code whose runs are those of the units
pub record IsListingOf (made : Program) (text : List ℕ) : Type 0 where
  pub code : Code
  pub codes : Codes made code
  pub is : text ≡ listing code.ops.items code.plans.items
