-- A READ or WRITE begins.
use Rattle.std.proofs.Common.{◌≡◌, ℕ, ◌-◌, Bool, true, false, List, Some, refl, sym, ap, subst, slice_get}
use Rattle.std.specs.Prelude.{Ok, Err}
use Rattle.std.specs.declared.option.Option.{Option}
use Rattle.ground.specs.declared.trap.Trap.TheVariants.{BadUnit}
use Rattle.f66_tree.specs.declared.editing.Way.{Way}
use Rattle.f66_tree.specs.Fields.{Fields}
use Rattle.f66_tree.specs.Statements.{opened_by}
use Rattle.f66_tree.specs.World.{Record, World}
use Rattle.format_io.specs.Places.{hand_of}
use Rattle.record_flow.specs.declared.flow.Stop.{Stop}
use Rattle.record_flow.specs.declared.flow.Stop.TheVariants as stops
use Rattle.record_flow.specs.Flows as flows
use Rattle.record_flow.specs.Steps.{LacksFirst, IsOpened}
use Rattle.record_flow.proofs.Taking.{reads_nothing, reads_by}
use Rattle.stack_code.specs.Instructions.{Start}
use Rattle.stack_code.specs.StackMachine.{Core, act}
use Rattle.runner.specs.declared.words.Word.{Word}
use Rattle.runner.specs.Words.{Stand, pile_of}
use Rattle.runner.specs.Work.{IsFine}
use Rattle.runner.specs.Recording.{tape_at, GoesBy, MovesTo, IsUnitTest, LacksStart, IsStarted}
use Rattle.runner.proofs.Moving.{by_moves, by_breaks}

module _ {S : Type 0} (left : S → Option (List ℕ)) (faults : S → ℕ) (i0 i1 : S) (way : Way) (n : ℕ) (fs : Fields) (old new : flows.State) (buffer : List Word) (top : ℕ) (test : Bool) (unit : (plans : List Fields) (s : Core) (w : World) → Stand s.stack (pile_of buffer top) → IsFine (act plans (Some (Start way n)) s w) → IsUnitTest plans way n s w buffer top test) where
  pub not_begun : test ≡ false → IsStarted left faults i0 i0 way n fs old old buffer top (Err (stops.Trapped BadUnit))
  not_begun e = (
    reads_nothing left (LacksStart way n fs buffer top) i0 old.intake,
    refl,
    λ plans cells s w hand unread written m at f. record { state = w.state; is = subst (IsUnitTest plans way n s w buffer top) e (unit plans s w f.stand f.fine); shows = ap (λ t. t.written) f.taped },
  )

  module _ (e : test ≡ true) where
    goes : (plans : List Fields) (s : Core) (w : World) → slice_get plans n ≡ Some fs → Stand s.stack (pile_of buffer top) → IsFine (act plans (Some (Start way n)) s w) → GoesBy (act plans (Some (Start way n)) s w) (opened_by way (Some fs)) s w (pile_of buffer (top - 1))
    goes plans s w at stand fine = subst (λ x. GoesBy (act plans (Some (Start way n)) s w) (opened_by way x) s w (pile_of buffer (top - 1))) at (subst (IsUnitTest plans way n s w buffer top) e (unit plans s w stand fine))

    lacks_start : (rs : List Record) → LacksFirst way fs rs → LacksStart way n fs buffer top rs
    lacks_start rs lacks plans cells s w hand written at f = let l = lacks hand written in (l.0.written, by_breaks (goes plans s w at f.stand f.fine) f.taped l.1 refl)

    pub begun : (r : ℕ × ℕ) → r.0 ≡ top - 1 → IsOpened left faults i0 i1 way fs old new (Ok tt) → IsStarted left faults i0 i1 way n fs old new buffer top (Ok r)
    begun r is o = (
      o.0,
      reads_by left lacks_start o.1,
      o.2,
      λ plans cells s w hand unread written at f. subst (λ k. MovesTo (act plans (Some (Start way n)) s w) s w (pile_of buffer k) cells (tape_at (hand_of fs new.stand) written unread)) (sym is) (by_moves (goes plans s w at f.stand f.fine) f.taped f.agrees (o.3 hand unread written)),
    )

    pub stopped_at_first : (stop : Stop) → IsOpened left faults i0 i1 way fs old new (Err stop) → IsStarted left faults i0 i1 way n fs old new buffer top (Err stop)
    stopped_at_first (stops.Trapped t) o = (reads_by left lacks_start o.0, o.1, λ plans cells s w hand unread written m at f. by_breaks (goes plans s w at f.stand f.fine) f.taped (o.2 hand unread written m) refl)
    stopped_at_first stops.Input o = (reads_by left lacks_start o.0, o.1, o.2, λ plans cells s w hand written at f. by_breaks (goes plans s w at f.stand f.fine) f.taped (o.3 hand written) refl)
    stopped_at_first stops.Output o = absurd o
