-- The rows of a unit's blocks, and how far their classes reach behind them.
use Rattle.std.specs.Prelude.{◌≡◌, ◌≢◌, ◌<◌, ◌⊎◌, ℕ, suc, ℤ, pos, ◌-ℤ◌, ◌≤ℤ◌, ◌<ℤ◌, List, length, Option, None, Some, MatchOption}
use Rattle.f66_tree.specs.Syntax.{Text, Par, Routine}
use Rattle.f66_program.specs.Association.{Row, unit_ties}
use Rattle.offset_classes.specs.declared.link.Link.{Link}
use Rattle.offset_classes.specs.declared.link.Seat.{Seat}
use Rattle.offset_classes.specs.Links.{AreSeated, class_in, offset_in}
use Rattle.storage_assoc.specs.Indexing.{AreIndexed}
use Rattle.storage_assoc.specs.Listings.{name_at}
use Rattle.storage_assoc.specs.Tables.{IsTable}
use Rattle.storage_rules.specs.Ends.{IsIn, end_of}

-- the seats of the rows of a unit's table
pub record AreSeatsOf (r : Routine) (find blocks : Text → Option ℕ) (dims : Text → Option (List Par)) (sizes : List ℕ) (count : ℕ) (seats : List Seat) : Type 0 where
  pub many : length seats ≡ length sizes
  pub links : List Link
  pub seated : AreSeated links seats
  pub indexed : (rows : List Row) (index : Row → ℕ) → IsTable r find blocks dims sizes count rows index → AreIndexed (unit_ties 0 r) links rows index count

-- the rows of the class of the row b reach so far behind its first place
pub record IsReach (seats : List Seat) (sizes : List ℕ) (b : ℕ) (z : ℤ) : Type 0 where
  pub low : pos 0 ≤ℤ z
  pub within : (x : ℕ) → IsIn seats sizes (length seats) (class_in seats b) x → (end_of seats sizes x -ℤ offset_in seats b) ≤ℤ z
  pub reached : (z ≡ pos 0) ⊎ ((x : ℕ) × IsIn seats sizes (length seats) (class_in seats b) x × (end_of seats sizes x -ℤ offset_in seats b ≡ z))

-- how far an end that there may be stands behind an offset, or nothing
abbrev pub IsGap : Option ℤ → ℤ → ℤ → Type 0
IsGap None o z = z ≡ pos 0
IsGap (Some e) o z = ((e ≤ℤ o) × (z ≡ pos 0)) ⊎ ((o <ℤ e) × (z ≡ e -ℤ o))

-- of each of the first n labels how far its row reaches, which is that behind blank common's row and those of the labels before
abbrev pub AreLabelSizes : List Seat → List ℕ → List Text → ℕ → (Text → Option ℤ) → Type 0
AreLabelSizes seats sizes labels n find =
    (q : Text) → MatchOption (find q) ((k : ℕ) → k < n → name_at labels k ≢ q) (λ z. (k : ℕ) × (k < n) × (name_at labels k ≡ q) × IsReach seats sizes (suc k) z)
