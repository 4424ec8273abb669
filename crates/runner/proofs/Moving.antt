-- A step with the records decides what an instruction does.
use Rattle.std.proofs.Common.{◌≡◌, List, refl, sym, ap, ◌∙◌, subst}
use Rattle.ground.specs.declared.trap.Trap.{Trap}
use Rattle.f66_tree.specs.World.{Record, Tape, World, Out, Gives, bind, Move, Moves, Breaks, Misses, AfterMove, IsPrefix, moving}
use Rattle.stack_code.specs.StackMachine.{Core, next}
use Rattle.runner.specs.declared.words.Word.{Word}
use Rattle.runner.specs.declared.words.Cell.{Cell}
use Rattle.runner.specs.Words.{Agrees}
use Rattle.runner.specs.Work.{IsFine}
use Rattle.runner.specs.Recording.{GoesBy, MovesTo, TripsOver, HasWritten}

module _ {o : Out Core} {move : Tape → Move} {s : Core} {w : World} {pile : List Word} (g : GoesBy o move s w pile) {t0 : Tape} (tape : w.state.tape ≡ t0) where
  comes_to : {m : Move} → move t0 ≡ m → o ≡ bind (moving s.frame.place m w) (λ _ w1. Gives (next s g.stack) w1)
  comes_to {m} e = g.is ∙ ap (λ t. bind (moving s.frame.place (move t) w) (λ _ w1. Gives (next s g.stack) w1)) tape ∙ ap (λ x. bind (moving s.frame.place x w) (λ _ w1. Gives (next s g.stack) w1)) e

  pub by_moves : {cells : List Cell} {t1 : Tape} → Agrees cells w.state.store → move t0 ≡ Moves t1 → MovesTo o s w pile cells t1
  by_moves {cells} {t1} agrees e = record { stack = g.stack; store = w.state.store; is = comes_to e; stand = g.stand; agrees = agrees }

  pub by_breaks : {e : Trap} {t1 : Tape} {ws : List Record} → move t0 ≡ Breaks e t1 → t1.written ≡ ws → TripsOver o s w e ws
  by_breaks {e} {t1} {ws} is shows = record { state = record { store = w.state.store; tape = t1 }; is = comes_to is; shows = shows }

  written_by : (ws : List Record) (m : Move) → AfterMove (λ t. IsPrefix ws t.written) m → IsFine (bind (moving s.frame.place m w) (λ _ w1. Gives (next s g.stack) w1)) → HasWritten ws (bind (moving s.frame.place m w) (λ _ w1. Gives (next s g.stack) w1))
  written_by ws (Moves t) h f = h
  written_by ws (Breaks e t) h f = h
  written_by ws Misses h f = absurd f

  pub by_written : (ws : List Record) → IsFine o → AfterMove (λ t. IsPrefix ws t.written) (move t0) → HasWritten ws o
  by_written ws f h = subst (HasWritten ws) (sym (comes_to refl)) (written_by ws (move t0) h (subst IsFine (comes_to refl) f))
