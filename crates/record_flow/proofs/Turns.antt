-- One turn of a statement over what comes and goes.
use Rattle.std.proofs.Common.{◌≡◌, ℕ, ◌<◌, true, false, List, [], ◌∷◌, ◌++◌, refl, sym, ap}
use Rattle.std.specs.Prelude.{Result, Ok, Err, Some, if◌then◌else◌}
use Rattle.std.specs.declared.option.Option.{Option}
use Rattle.ground.specs.declared.trap.Trap.TheVariants.{EndOfInput}
use Rattle.ground.specs.declared.value.Kind.{Kind}
use Rattle.f66_tree.specs.declared.editing.Turn.{Turn}
use Rattle.f66_tree.specs.declared.editing.Turn.TheVariants.{RecordDone}
use Rattle.f66_tree.specs.declared.editing.Way.TheVariants.{Writing}
use Rattle.f66_tree.specs.Fields.{Fields}
use Rattle.f66_tree.specs.FirstLaws.{Keeps}
use Rattle.f66_tree.specs.Turns.{Hand, next_turn, last_turn, is_over}
use Rattle.f66_tree.specs.Editing.{changed_by, to_end}
use Rattle.f66_tree.specs.Records.{tape_placed, closed}
use Rattle.f66_tree.specs.World.{Record, Tape, files_of, AfterMove}
use Rattle.f66_tree.proofs.Prefixes.{prefix_self}
use Rattle.f66_tree.proofs.EditingLemmas.{records_stay}
use Rattle.format_io.specs.Places.{Stand, hand_of}
use Rattle.record_intake.specs.Intakes.{Content}
use Rattle.record_flow.specs.Moves.{Changes, onward, to_close, ahead, left_of}
use Rattle.record_flow.proofs.Turning.{done_is, cut_is, next_lessens}
use Rattle.record_flow.proofs.Ending.{after_is, lacking_is, after_lessens}
use Rattle.record_flow.specs.declared.flow.Stop.{Stop}
use Rattle.record_flow.specs.declared.flow.Stop.TheVariants as stops
use Rattle.record_flow.specs.Flows.{State, files, tape}
use Rattle.record_flow.specs.Steps.{LacksRecord, IsChanged, LacksOnWalk, IsTurned}
use Rattle.record_flow.proofs.Taking.{reads_by, flows_by}

-- all that comes where no item is left keeps the records written
pub closing_keeps : (t : Tape) → AfterMove (Keeps t) (tape_placed t (to_close t))
closing_keeps t = elim (is_over t.hand.mark) as (λ b. AfterMove (Keeps t) (tape_placed t (if b then Ok (t.hand, files_of t) else to_end t.hand (files_of t)))) [ true ↦ prefix_self t.written | false ↦ records_stay.closes t ]

pub closing_places : (fs : Fields) (s : Stand) → is_over s.mark ≡ false → (unread written : List Record) → closed (tape fs s unread written) ≡ tape_placed (tape fs s unread written) (to_close (tape fs s unread written))
closing_places fs s going unread written = let t = tape fs s unread written in ap (λ b. tape_placed t (if b then Ok (t.hand, files_of t) else to_end t.hand (files_of t))) (sym going)

module _ {S K : Type 0} (left : S → Option (List ℕ)) (puts : K → List ℕ → K → Type 0) (faults : S → ℕ) (failures : K → ℕ) (i j : S) (o p : K) (fs : Fields) (intake : Content) (stand0 stand : Stand) (new : State) where
  abbrev old : State
  old = record { intake = intake; stand = stand0 }

  abbrev mid : State
  mid = record { intake = intake; stand = stand }

  abbrev h0 : Hand
  h0 = hand_of fs stand0

  abbrev h1 : Hand
  h1 = hand_of fs stand

  abbrev Is : Result (Unit {0}) Stop → Type 0
  Is r = IsChanged left puts faults failures i j o p mid new r

  -- ---- up to an item ----

  module _ (k : Kind) (turned : next_turn h0 k ≡ Ok (RecordDone, h1)) where
    lacks_for_item : (rs : List Record) → LacksRecord stand rs → LacksOnWalk (onward k) fs stand0 rs
    lacks_for_item rs lacks written = (files rs written, cut_is h0 h1 k (files rs written) EndOfInput turned (lacks fs written))

    pub item_stopped : (e : Stop) → Is (Err e) → IsTurned left puts faults failures i j o p (onward k) fs old new (Err e)
    item_stopped (stops.Trapped e) f = (flows_by left puts lacks_for_item f.0, f.1, λ unread written m. cut_is h0 h1 k (files unread written) e turned (f.2 fs unread written m))
    item_stopped stops.Input f = (flows_by left puts lacks_for_item f.0, f.1, f.2, f.3, λ written. cut_is h0 h1 k (files [] written) EndOfInput turned (f.4 fs written))
    item_stopped stops.Output f = (stand.line, stand, reads_by left lacks_for_item f.0, f.1, f.2, f.3, λ unread written. done_is h0 h1 h1 k (files unread written) (files unread (written ++ stand.line ∷ [])) turned (ap (λ w. changed_by w h1 (files unread written)) f.4))

    pub item_on : Is (Ok tt) → IsTurned left puts faults failures i j o p (onward k) fs old new (Ok false)
    item_on f = (f.0, f.1, flows_by left puts lacks_for_item f.2, f.3, λ unread written. done_is h0 h1 (hand_of fs new.stand) k (files (f.0 ++ unread) written) (files unread (written ++ f.1)) turned (f.4 fs unread written))

    pub item_nearer : Is (Ok tt) → ahead (hand_of fs new.stand) < ahead h0
    item_nearer f = next_lessens h0 h1 (hand_of fs new.stand) k stand.way (files (f.0 ++ []) []) (files [] ([] ++ f.1)) turned (f.4 fs [] [])

  -- ---- where no item is left ----

  module _ (t : Turn) (turned : last_turn h0 ≡ Ok (Some t, h1)) where
    lacks_at_end : (rs : List Record) → LacksRecord stand rs → LacksOnWalk to_close fs stand0 rs
    lacks_at_end rs lacks written = (files rs written, lacking_is h0 h1 t stand.way (files rs written) EndOfInput turned refl (lacks fs written))

    pub end_stopped : (e : Stop) → Is (Err e) → IsTurned left puts faults failures i j o p to_close fs old new (Err e)
    end_stopped (stops.Trapped e) f = (flows_by left puts lacks_at_end f.0, f.1, λ unread written m. lacking_is h0 h1 t stand.way (files unread written) e turned refl (f.2 fs unread written m))
    end_stopped stops.Input f = (flows_by left puts lacks_at_end f.0, f.1, f.2, f.3, λ written. lacking_is h0 h1 t stand.way (files [] written) EndOfInput turned refl (f.4 fs written))
    end_stopped stops.Output f = (stand.line, stand, reads_by left lacks_at_end f.0, f.1, f.2, f.3, λ unread written. after_is h0 h1 h1 t Writing (files unread written) (files unread (written ++ stand.line ∷ [])) turned f.4 refl refl)

    pub end_on : Changes stand.way stand.mark new.stand.mark → Is (Ok tt) → IsTurned left puts faults failures i j o p to_close fs old new (Ok false)
    end_on mark f = (f.0, f.1, flows_by left puts lacks_at_end f.2, f.3, λ unread written. after_is h0 h1 (hand_of fs new.stand) t stand.way (files (f.0 ++ unread) written) (files unread (written ++ f.1)) turned refl (f.4 fs unread written) mark)

    pub end_nearer : stand.way ≡ stand0.way → Is (Ok tt) → left_of (hand_of fs new.stand) < left_of h0
    end_nearer same f = after_lessens h0 h1 (hand_of fs new.stand) t stand.way (files (f.0 ++ []) []) (files [] ([] ++ f.1)) turned same (f.4 fs [] [])
