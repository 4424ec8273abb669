-- What the instructions that begin and end a READ or WRITE do, whatever statement was open.
use Rattle.std.proofs.Common.{◌≡◌, ℕ, ◌-◌, ◌<◌, false, List, [], ◌++◌, length, get_or, Some, None, refl, sym, ap, ◌∙◌, subst, slice_get}
use Rattle.std.specs.Prelude.{Ok, Err, OnOk, IfOk, Result}
use Rattle.std.proofs.lemmas.List.{append-nil}
use Rattle.std.proofs.lemmas.Option.{slice_get-get_or, get_or_from_slice_get}
use Rattle.std.specs.declared.option.Option.{Option}
use Rattle.f66_tree.specs.declared.editing.Way.{Way}
use Rattle.f66_tree.specs.Fields.{Fields, NoField}
use Rattle.f66_tree.specs.Turns.{Hand, is_over}
use Rattle.f66_tree.specs.Records.{closed}
use Rattle.f66_tree.specs.World.{Record, World}
use Rattle.format_io.specs.Places.{hand_of}
use Rattle.record_flow.specs.declared.flow.Stop.{Stop}
use Rattle.record_flow.specs.declared.flow.Stop.TheVariants as stops
use Rattle.record_flow.specs.Flows as flows
use Rattle.record_flow.specs.Flows.{Flows, Reads}
use Rattle.record_flow.specs.Steps.{LacksInStep, IsStep}
use Rattle.record_flow.proofs.Taking.{reads_by, flows_by}
use Rattle.stack_code.specs.Instructions as i
use Rattle.stack_code.specs.StackMachine.{Core, act}
use Rattle.stack_code.specs.ValidCode.{Open, opens}
use Rattle.runner.specs.declared.words.Word.{Word}
use Rattle.runner.specs.declared.words.Cell.{Cell}
use Rattle.runner.specs.Words.{Stand, pile_of}
use Rattle.runner.specs.Recording.{tape_at, Faces, GoesBy, InHand, IsInHand, MovesTo, TripsOver, LacksStart, IsStarted, LacksAct, IsActed, Acts}
use Rattle.runner.proofs.Moving.{by_moves, by_breaks, by_written}
use Rattle.runner.proofs.Opening.{open_started, open_ended}

module _ {S K : Type 0} (left : S → Option (List ℕ)) (puts : K → List ℕ → K → Type 0) (faults : S → ℕ) (failures : K → ℕ) (nothing : (s : K) → puts s [] s) (i0 i1 : S) (plans : List Fields) (plan : ℕ) (old new : flows.State) (buffer : List Word) (top : ℕ) (cells : List Cell) where
  -- ---- one begins ----

  module _ (o : K) (way : Way) (n : ℕ) (there : n < length plans) where
    abbrev fs : Fields
    fs = get_or plans n NoField

    at : slice_get plans n ≡ Some fs
    at = slice_get-get_or plans n NoField there

    none_put : (hand : Hand) (taken : List Record) → Reads left (LacksStart way n fs buffer top) i0 i1 old.intake new.intake taken → Flows left puts (LacksAct plans (i.Start way n) hand buffer top cells) i0 i1 o o old.intake new.intake taken []
    none_put hand taken r = record { reads = reads_by left (λ rs lacks c w written f. lacks plans cells c w hand written at f) r; sent = nothing o }

    nothing_more : (written : List Record) → written ≡ written ++ []
    nothing_more written = sym (append-nil written)

    pub started_acts : (result : Result (ℕ × ℕ) Stop) → ((f : Fields) → IsStarted left faults i0 i1 way n f old new buffer top result) → OnOk result (new.stand.way ≡ way) → OnOk result (is_over new.stand.mark ≡ false) → IfOk result (λ r. (r.0 ≡ top - 1) × (r.1 ≡ n)) → Acts left puts faults failures i0 i1 o o plans (i.Start way n) plan old new buffer top cells buffer cells result
    started_acts (Ok r) step way_is going rest among after hand held opened =
        let s = step fs in (
          s.0,
          [],
          hand_of fs new.stand,
          none_put hand s.0 s.1,
          record { input = s.2; out = refl },
          subst (λ x. InHand plans x (hand_of fs new.stand) new.stand r.1) (sym (open_started way n among after opened)) (record { number = sym rest.1; fields = fs; there = ap (slice_get plans) rest.1 ∙ at; is = refl; way_is = way_is; going = going }),
          λ c w unread written f. subst (λ ws. MovesTo (act plans (Some (i.Start way n)) c w) c w (pile_of buffer r.0) cells (tape_at (hand_of fs new.stand) ws unread)) (nothing_more written) (s.3 plans cells c w hand unread written at f),
        )
    started_acts (Err (stops.Trapped e)) step way_is going rest among after hand held opened =
        let s = step fs in (
          [],
          [],
          none_put hand [] s.0,
          record { input = s.1; out = refl },
          λ c w unread written m f. subst (TripsOver (act plans (Some (i.Start way n)) c w) c w e) (nothing_more written) (s.2 plans cells c w hand unread written m at f),
        )
    started_acts (Err stops.Input) step way_is going rest among after hand held opened =
        let s = step fs in (
          [],
          [],
          none_put hand [] s.0,
          s.1,
          refl,
          s.2,
          λ c w written f. subst (TripsOver (act plans (Some (i.Start way n)) c w) c w _) (nothing_more written) (s.3 plans cells c w hand written at f),
        )
    started_acts (Err stops.Output) step way_is going rest among after hand held opened = absurd (step fs)

  -- ---- one ends ----

  module _ (o0 o1 : K) (fs : Fields) (read : fs ≡ get_or plans plan fs) (among after : Open) (hand : Hand) (held : InHand plans among hand old.stand plan) (opened : opens i.Finish among ≡ Some after) where
    none_open : after ≡ None
    none_open = (open_ended among after opened).2

    hand_is : hand ≡ hand_of fs old.stand
    hand_is =
        let e = open_ended among after opened in
        let h : IsInHand plans plan e.0.0 e.0.1 hand old.stand = subst (λ x. InHand plans x hand old.stand plan) e.1 held in
        h.is ∙ ap (λ f. hand_of f old.stand) (sym (read ∙ get_or_from_slice_get plans plan h.fields fs h.there))

    closes : (s : Core) (w : World) → Stand s.stack (pile_of buffer top) → GoesBy (act plans (Some i.Finish) s w) closed s w (pile_of buffer top)
    closes s w stand = record { stack = s.stack; is = refl; stand = stand }

    seen : (s : Core) (w : World) (written unread : List Record) → Faces plans i.Finish buffer top cells (tape_at hand written unread) s w → w.state.tape ≡ tape_at (hand_of fs old.stand) written unread
    seen s w written unread f = f.taped ∙ ap (λ h. tape_at h written unread) hand_is

    lacks_at_finish : (rs : List Record) → LacksInStep closed fs old.stand rs → LacksAct plans i.Finish hand buffer top cells rs
    lacks_at_finish rs lacks s w written f = let l = lacks written in (l.0.written, by_breaks (closes s w f.stand) (seen s w written rs f) l.1 refl)

    pub finish_goes : IsStep left puts faults failures i0 i1 o0 o1 closed fs old new (Ok tt) → IsActed left puts faults failures i0 i1 o0 o1 plans i.Finish after hand old new buffer top cells buffer cells (Ok (top, plan))
    finish_goes s = (
      s.0,
      s.1,
      hand_of fs new.stand,
      flows_by left puts lacks_at_finish s.2,
      s.3,
      subst (λ x. InHand plans x (hand_of fs new.stand) new.stand plan) (sym none_open) tt,
      λ c w unread written f. by_moves (closes c w f.stand) (seen c w written (s.0 ++ unread) f) f.agrees (s.4 unread written),
    )

    pub finish_stops : (stop : Stop) → IsStep left puts faults failures i0 i1 o0 o1 closed fs old new (Err stop) → IsActed left puts faults failures i0 i1 o0 o1 plans i.Finish after hand old new buffer top cells buffer cells (Err stop)
    finish_stops (stops.Trapped e) s = (s.0, s.1, flows_by left puts lacks_at_finish s.2, s.3, λ c w unread written m f. let b = s.4 unread written m in by_breaks (closes c w f.stand) (seen c w written (s.0 ++ unread) f) b.1 b.2)
    finish_stops stops.Input s = (s.0, s.1, flows_by left puts lacks_at_finish s.2, s.3, s.4, s.5, λ c w written f. let b = s.6 written in by_breaks (closes c w f.stand) (seen c w written (s.0 ++ []) f) b.1 b.2)
    finish_stops stops.Output s = (s.0, s.1, reads_by left lacks_at_finish s.2, s.3, s.4, s.5, λ c w unread written f. by_written (closes c w f.stand) (seen c w written (s.0 ++ unread) f) (written ++ s.1) f.fine (s.6 unread written), s.7)
