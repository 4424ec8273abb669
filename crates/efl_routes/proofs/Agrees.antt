-- The four sentences for a program of EFL: by way of its routes, its meaning agrees with its units.
use Rattle.std.proofs.Common.{◌≡◌, ◌≢◌, ℕ, List, sym, ◌∙◌, subst, arith}
use Rattle.f66_tree.specs.World.{Record, Shown, Lost}
use Rattle.f66_tree.specs.Execution.{f66}
use Rattle.f66_tree.specs.Agreement.{Agrees}
use Rattle.f66_tree.proofs.Agreement.{Ahead, agrees}
use Rattle.f66_tree.proofs.Longer.{f66_extends}
use Rattle.efl_program.specs.Meaning.{efl}
use Rattle.efl_program.specs.Scoping.{Scoping}
use Rattle.efl_program.proofs.Programs.{never_lost}
use Rattle.routes.specs.Running.{routed}
use Rattle.efl_routes.specs.Kept.{Keeps}
use Rattle.efl_routes.specs.LoweredProgram.{Begins, LoweredProgram}
use Rattle.efl_routes.proofs.Mains.{program_keeps}
use Rattle.routes.specs.Units.{Units, Reaches}
use Rattle.routes.proofs.Units.{units_reach}

-- what the routes keep, and the units reach
ahead_of : (b : ℕ) (s r : Shown) (t : ℕ → Shown) → Keeps s r → Reaches b r t → Ahead b s t
ahead_of b s r t h k = record {
  over = λ f is.
      let a = h.over f is in
      let d = k.over f a.0 in
      (d.0, omega (d.1, a.2, arith), λ i. let e = d.2 i in record { records = a.1 ∙ e.records; end = is ∙ sym a.0 ∙ e.end });
  on = λ is.
      let a = h.on is in
      let d = k.on a.0 in
      (d.0, d.1, omega (d.2, a.2, arith), d.3, a.1 ∙ d.4);
}

-- A program and its units agree, where the units are those of its routes, and its own runs never go to a label or out of a loop
-- that is not there.
pub efl_agrees : (p : LoweredProgram) → Begins p → (c : Units) → p.target ≡ c.linked → p.code ≡ c.bodies → (input : List Record) → ((b : ℕ) → (efl p.source p.bodies b input).end ≢ Lost) → Agrees (λ b. efl p.source p.bodies b input) (λ n. f66 c.linked c.codes input n)
efl_agrees p h c is1 is2 input never =
    agrees (λ b. efl p.source p.bodies b input) (λ n. f66 c.linked c.codes input n) (λ m n le. f66_extends c.linked c.codes input m n le)
    (λ b. ahead_of b (efl p.source p.bodies b input) (routed c.linked c.bodies b input) (f66 c.linked c.codes input) (subst (λ l. Keeps (efl p.source p.bodies b input) (routed l c.bodies b input)) is1 (subst (λ q. Keeps (efl p.source p.bodies b input) (routed p.target q b input)) is2 (program_keeps p h b input))) (units_reach c b input))
    never

-- where the program is scoped, nothing more is asked of its runs
pub scoped_agrees : (p : LoweredProgram) → Begins p → (c : Units) → p.target ≡ c.linked → p.code ≡ c.bodies → Scoping p.source p.bodies → (input : List Record) → Agrees (λ b. efl p.source p.bodies b input) (λ n. f66 c.linked c.codes input n)
scoped_agrees p h c is1 is2 scoping input = efl_agrees p h c is1 is2 input (λ b. never_lost p.source p.bodies scoping b input)
