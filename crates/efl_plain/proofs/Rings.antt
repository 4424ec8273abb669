-- The rings around a statement fit the loops and switches that it is in: each `break` and `next` that has where to go leaves one of them.
use Rattle.std.proofs.Common.{ℕ, zero, suc, ◌<◌, Bool, true, false, List, [], ◌∷◌, length, Option, arith}
use Rattle.efl_tree.specs.declared.statement.LoopKind.{LoopKind}
use Rattle.efl_tree.specs.declared.statement.LoopKind.TheVariants as loop_kinds
use Rattle.efl_program.specs.Meaning.{leaves, turns_one}
use Rattle.efl_program.specs.Scoped.{can_on, CanLeave, CanTurn}
use Rattle.efl_routes.specs.Statements.{Around, Other, Behind, Next, on_match, leave_depth, again_depth}

pub record Fits (rs : List Around) (ks : List LoopKind) : Type 0 where
  pub leave : (o : Option LoopKind) (n : ℕ) → CanLeave ks o n → leave_depth rs o n < length rs
  pub turn : (o : Option LoopKind) (n : ℕ) → CanTurn ks o n → again_depth rs o n < length rs

-- one more loop, whose ring may be the one to leave
on_fits : (b : Bool) (n : ℕ) (further : ℕ → Type 0) (on : ℕ → ℕ) (len : ℕ) → ((m : ℕ) → further m → on m < len) → can_on b n further → on_match b n on < suc len
on_fits true zero further on len h k = omega arith
on_fits true (suc n) further on len h k = let lt = h n k in omega (lt, arith)
on_fits false n further on len h k = let lt = h n k in omega (lt, arith)

pub outside : Fits [] []
outside = record { leave = λ o n h. absurd h; turn = λ o n h. absurd h }

module _ (rs : List Around) (ks : List LoopKind) (fits : Fits rs ks) where
  pub in_other : Fits (Other ∷ rs) ks
  in_other = record { leave = λ o n h. let lt = fits.leave o n h in omega (lt, arith); turn = λ o n h. let lt = fits.turn o n h in omega (lt, arith) }

  pub in_loop : (k : LoopKind) → Fits (Next k ∷ Behind k ∷ rs) (k ∷ ks)
  in_loop k = record {
    leave = λ o n h. let lt = on_fits (leaves o k) n (CanLeave ks o) (leave_depth rs o) (length rs) (fits.leave o) h in omega (lt, arith);
    turn = λ o n h. on_fits (turns_one o k) n (CanTurn ks o) (again_depth (Behind k ∷ rs) o) (suc (length rs)) (λ m i. let lt = fits.turn o m i in omega (lt, arith)) h;
  }

  pub in_switch : Fits (Behind loop_kinds.Switch ∷ rs) (loop_kinds.Switch ∷ ks)
  in_switch = record {
    leave = λ o n h. on_fits (leaves o loop_kinds.Switch) n (CanLeave ks o) (leave_depth rs o) (length rs) (fits.leave o) h;
    turn = λ o n h. let lt = fits.turn o n h in omega (lt, arith);
  }
