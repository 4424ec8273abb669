-- Statements that are not executed, whose meaning is nothing.
use Rattle.std.proofs.Common.{◌≡◌, ℕ, Bool, true, false, true≢false, refl, sym}
use Rattle.std.specs.Prelude.{◌&&◌}
use Rattle.f66_tree.specs.Units.{is_note}
use Rattle.rat_tree.specs.Syntax.{Command, Plain, Commands, NoCommand, AndCommand}

-- a statement that is not executed, and a list of such
abbrev pub idle : Command → Bool
idle (Plain m p a) = is_note a
idle _ = false

abbrev pub all_idle : Commands → Bool
all_idle NoCommand = true
all_idle (AndCommand s ss) = idle s && all_idle ss

-- One that is executed counts before the target begins anything, so that one statement more may have begun before.
abbrev pub credit : Bool → ℕ
credit true = 0
credit false = 1

-- all are where the first is and the rest are
pub first_idle : (v u : Bool) → (v && u) ≡ true → v ≡ true
first_idle true u e = refl
first_idle false u e = absurd (true≢false (sym e))

pub rest_idle : (v u : Bool) → (v && u) ≡ true → u ≡ true
rest_idle true u e = e
rest_idle false u e = absurd (true≢false (sym e))
