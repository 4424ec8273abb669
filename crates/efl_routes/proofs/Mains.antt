-- A whole program and its routes.
use Rattle.std.proofs.Common.{◌≡◌, ℕ, ◌+◌, ◌*◌, ◌≤◌, List, [], refl, sym, ap, subst, arith}
use Rattle.std.specs.Prelude.{⊤}
use Rattle.f66_tree.specs.World.{Record, World, first_tape, Finish, End, Ended, GoesOn, Lost, Out, Gives, Halts, shown}
use Rattle.f66_tree.specs.Execution.{first_state}
use Rattle.efl_program.specs.Meaning.{efl, efl_call}
use Rattle.routes.specs.Running.{routed, routes_call}
use Rattle.efl_routes.specs.Kept.{Keeps}
use Rattle.efl_routes.specs.LoweredProgram.{Begins, LoweredProgram, passed, size}
use Rattle.efl_routes.proofs.Like.{Post, Like}
use Rattle.efl_routes.proofs.Programs.{procedures_agree}

no_more : {e : Finish} → GoesOn ≡ Ended e → ⊥
no_more e = subst IsOn e tt
  where
    IsOn : End → Type 0
    IsOn (Ended f) = ⊥
    IsOn GoesOn = ⊤
    IsOn Lost = ⊥

not_on : {e : Finish} → Ended e ≡ GoesOn → ⊥
not_on e = no_more (sym e)

abbrev IsKept : End → Type 0
IsKept (Ended f) = ⊤
IsKept GoesOn = ⊤
IsKept Lost = ⊥

never_lost : {e : End} → Lost ≡ e → IsKept e → ⊥
never_lost e is = subst IsKept (sym e) is

keeps_of : {P : Post ⊤ ⊤} (o t : Out ⊤) → Like P o t → ((a : ⊤) (w : World) (c : ⊤) (w1 : World) → P a w c w1 → (w1.state.tape ≡ w.state.tape) × (w1.count ≤ 32 * (w.count + 1))) → Keeps (shown o) (shown t)
keeps_of (Gives a w) t h k =
    let f = k a w h.by.0 h.by.1 h.by.3 in
    subst (λ q. Keeps (shown (Gives a w)) (shown q)) (sym h.by.2) (record { over = λ e is. (is, ap (λ x. x.written) (sym f.0), f.1); on = λ is. absurd (not_on is) })
keeps_of (Halts (Ended e) w) t h k =
    subst (λ q. Keeps (shown (Halts (Ended e) w)) (shown q)) (sym h.by.1) (record { over = λ e1 is. (is, ap (λ x. x.written) (sym h.by.2.tape), h.by.2.count); on = λ is. absurd (not_on is) })
keeps_of (Halts GoesOn w) t h k =
    subst (λ q. Keeps (shown (Halts GoesOn w)) (shown q)) (sym h.by.1) (record { over = λ e is. absurd (no_more is); on = λ is. (refl, ap (λ x. x.written) (sym h.by.2.tape), h.by.2.count) })
keeps_of (Halts Lost w) t h k = record { over = λ e is. absurd (never_lost is tt); on = λ is. absurd (never_lost is tt) }

-- the routes of a program keep what it means
pub program_keeps : (p : LoweredProgram) → Begins p → (b : ℕ) (input : List Record) → Keeps (efl p.source p.bodies b input) (routed p.target p.code b input)
program_keeps p h b input =
    let w : World = record { state = record { store = p.source.first; tape = first_tape input }; left = 0; count = 0 } in
    let w1 : World = record { state = first_state p.target input; left = 0; count = 0 } in
    let here = efl_call p.source p.bodies b p.source.deep p.source.main [] w in
    let both = procedures_agree p b p.source.deep p.source.main h.unit [] [] tt (sym (ap size h.formals)) 0 w w1 (record { tape = refl; cells = h.first; count = omega arith }) in
    let there = routes_call p.target p.code b in
    subst (λ d. Keeps (shown here) (shown (there d p.target.main [] w1))) (sym h.deep)
    (subst (λ u. Keeps (shown here) (shown (there p.source.deep u [] w1))) (sym h.main)
    (subst (λ t. Keeps (shown here) (shown (there p.source.deep (p.unit_of p.source.main) (passed t []) w1))) h.plain (keeps_of here (there p.source.deep (p.unit_of p.source.main) (passed (p.is_function p.source.main) []) w1) both (λ a x c x1 f. (f.0.tape, omega (arith, f.0.count))))))
