-- A program is never lost whose procedures are scoped, and whose calls go down to procedures of a smaller rank.
use Rattle.std.proofs.Common.{◌≡◌, ◌≢◌, ℕ, zero, suc, ◌<◌, Bool, true, false, List, [], subst, arith}
use Rattle.std.specs.Prelude.{⊤, ◌⊎◌, nat_eq}
use Rattle.f66_tree.specs.World.{Record, World, End, Ended, GoesOn, Lost, Out, Gives, Halts, bind, shown, first_tape}
use Rattle.f66_tree.specs.Execution.{nowhere}
use Rattle.efl_program.specs.Typed.{Stmts}
use Rattle.efl_program.specs.Setting.{Spot, Linkage}
use Rattle.efl_program.specs.Meaning.{Went, Jumps, Backs, Leave, Again, Flow, stands, all_meaning, ended_by, efl_call, efl}
use Rattle.efl_program.specs.Scoping.{Scoping}
use Rattle.efl_program.proofs.Kept.{Kept, Any}
use Rattle.efl_program.proofs.NeverLost.{Safe, list_safe}

abbrev IsFound : End → Type 0
IsFound (Ended f) = ⊤
IsFound GoesOn = ⊤
IsFound Lost = ⊥

module _ (l : Linkage) (bodies : ℕ → Stmts) (h : Scoping l bodies) (b : ℕ) where
  ended_kept : (main : Bool) (o : Flow) → Safe [] (λ q. ⊥) o → Kept Any (bind o (ended_by main))
  ended_kept true (Gives Went w) k = record { by = tt }
  ended_kept false (Gives Went w) k = record { by = tt }
  ended_kept true (Gives Backs w) k = record { by = tt }
  ended_kept false (Gives Backs w) k = record { by = tt }
  ended_kept main (Gives (Jumps q) w) k = absurd k.by
  ended_kept main (Gives (Leave n o) w) k = absurd k.by
  ended_kept main (Gives (Again n o) w) k = absurd k.by
  ended_kept main (Halts (Ended e) w) k = record { by = tt }
  ended_kept main (Halts GoesOn w) k = record { by = tt }
  ended_kept main (Halts Lost w) k = absurd k.by

  call_kept : (k v : ℕ) → h.rank v < k → (ps : List Spot) (w : World) → Kept Any (efl_call l bodies b k v ps w)
  call_kept zero v lt ps w = absurd (omega (lt, arith))
  call_kept (suc k) v lt ps w =
      ended_kept (nat_eq v l.main) (all_meaning (record { linked = l; call = efl_call l bodies b k }) (record { unit = v; actuals = ps; place = nowhere }) b (bodies v) w)
      (list_safe (record { linked = l; call = efl_call l bodies b k }) (λ u. h.rank u < h.rank v) (λ u less ps1 w1. call_kept k u (omega (lt, less, arith)) ps1 w1) (record { unit = v; actuals = ps; place = nowhere }) b (bodies v) [] (λ q. ⊥) (h.scoped v) w)

  not_lost : (o : Out ⊤) → Kept Any o → (shown o).end ≢ Lost
  not_lost (Gives a w) k e = subst IsFound e tt
  not_lost (Halts (Ended f) w) k e = subst IsFound e tt
  not_lost (Halts GoesOn w) k e = subst IsFound e tt
  not_lost (Halts Lost w) k e = k.by

  pub never_lost : (input : List Record) → (efl l bodies b input).end ≢ Lost
  never_lost input = not_lost _ (call_kept l.deep l.main h.deep [] (record { state = record { store = l.first; tape = first_tape input }; left = 0; count = 0 }))
