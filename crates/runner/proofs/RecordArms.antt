-- One more turn with an instruction that has to do with records.
use Rattle.std.proofs.Common.{◌≡◌, ℕ, suc, ◌+◌, ◌-◌, ◌≤◌, true≢false, List, [], ◌∷◌, ◌++◌, length, Some, refl, sym, ap, ◌∙◌, subst, arith, append_assoc, slice_get}
use Rattle.std.specs.Prelude.{Result, Ok, Err}
use Rattle.std.proofs.lemmas.List.{append-nil}
use Rattle.std.proofs.lemmas.Grind.{flat_map-append}
use Rattle.std.specs.declared.option.Option.{Option}
use Rattle.ground.specs.declared.place.Place.{Place}
use Rattle.ground.specs.declared.trap.Trap.{Trap}
use Rattle.ground.specs.declared.trap.Trap.TheVariants.{EndOfInput}
use Rattle.f66_tree.specs.Fields.{Fields}
use Rattle.f66_tree.specs.Turns.{Hand}
use Rattle.f66_tree.specs.World.{Record, Trapped, Ended, Halts, Shown, IsPrefix}
use Rattle.ports.specs.Records.{got_records, input_records, output_bytes}
use Rattle.ports.proofs.PutsInARow.{puts_on}
use Rattle.ports.specs.Causes.{Rose}
use Rattle.record_flow.specs.declared.flow.Stop.{Stop}
use Rattle.record_flow.specs.declared.flow.Stop.TheVariants as stops
use Rattle.record_flow.specs.Flows.{State}
use Rattle.record_flow.proofs.AllRecords.{all_records, all_later, all_cut}
use Rattle.record_flow.proofs.Taking.{reads_on, flows_on}
use Rattle.record_flow.proofs.Puts.{none_behind}
use Rattle.stack_code.specs.declared.valid.Code.{Code}
use Rattle.stack_code.specs.Instructions.{Instruction}
use Rattle.stack_code.specs.Safety.{ValidIsSafe}
use Rattle.stack_code.specs.StackMachine.{act, next, exec, start, first_world, Runs}
use Rattle.stack_code.specs.ValidCode.{IsIn, ways}
use Rattle.stack_code.specs.Views.{code_of}
use Rattle.runner.specs.declared.words.Word.{Word}
use Rattle.runner.specs.declared.words.Cell.{Cell}
use Rattle.runner.specs.Frames.{Level}
use Rattle.runner.specs.Words.{pile_of}
use Rattle.runner.specs.Recording.{tape_at, Faces, MovesTo, TripsOver, HasWritten, LacksAct, Acts, MayAct, HasPlan}
use Rattle.runner.specs.Running.{IsValidCode, RunsTo, Wants, program, bounded}
use Rattle.runner.specs.Endings.{IsUnread, IsEnd, end_in}
use Rattle.runner.proofs.Roles.{IsNext}
use Rattle.runner.proofs.Live as live
use Rattle.runner.proofs.Live.{Held}
use Rattle.runner.proofs.Keeping.{begins_run}
use Rattle.runner.proofs.Turn.{CountsOne, fine, opened_at}
use Rattle.runner.proofs.UnderWay.{IsUnderWay, gets_fresh}

module _ {S K : Type 0} {left : S → Option (List ℕ)} {puts : K → List ℕ → K → Type 0} {faults : S → ℕ} {failures : K → ℕ} {i0 i1 : S} {o0 o1 : K} {first now : State} {code : Code} {steps pc rest top : ℕ} {stack : List Word} {cells : List Cell} {place : Place} {executed from : ℕ} {level : Level} {plan : ℕ} (valid : IsValidCode code) (law : ValidIsSafe) (u : IsUnderWay left puts faults failures i0 i1 o0 o1 first now code steps pc rest top stack cells place executed from level plan) {j : Instruction} (at : slice_get (code_of code.ops.items) pc ≡ Some j) (straight : IsNext j) where
  way_on : IsIn (pc + 1) (ways j pc)
  way_on = subst (IsIn (pc + 1)) (sym (straight pc)) (record { index = 0; is = refl })

  pub may_act : HasPlan j (length code.plans.items) → MayAct code.plans.items j plan now.stand
  may_act there = let o = opened_at valid law u.turn at (pc + 1) way_on in record { among = u.turn.among; after = o.0; hand = u.hand; in_hand = u.turn.in_hand; opened = o.1; plans_there = there }

  faces : (input : List Record) → Faces code.plans.items j stack top cells (tape_at u.hand u.written input) (u.turn.held input).core (u.turn.held input).world
  faces input = let l = (u.turn.held input).live in record { stand = l.stack; agrees = l.agrees; taped = l.taped; fine = fine valid law u.turn at input }

  -- ---- the run goes on ----

  moved_on : (taken1 put1 : List Record) (hand1 : Hand) (stack1 : List Word) (top1 : ℕ) (cells1 : List Cell) (unread : List Record) → MovesTo (act code.plans.items (Some j) (u.turn.held (taken1 ++ unread)).core (u.turn.held (taken1 ++ unread)).world) (u.turn.held (taken1 ++ unread)).core (u.turn.held (taken1 ++ unread)).world (pile_of stack1 top1) cells1 (tape_at hand1 (u.written ++ put1) unread) → Held (program code) ((u.taken ++ taken1) ++ unread) steps (pc + 1) rest (pile_of stack1 top1) cells1 place code.dummies level (tape_at hand1 (u.written ++ put1) unread) executed from
  moved_on taken1 put1 hand1 stack1 top1 cells1 unread m =
      let k = u.turn.held (taken1 ++ unread) in
      let l = k.live in
      let f = l.framed in
      let adds = k.adds in
      let order = u.turn.order in
      subst (λ input. Held (program code) input steps (pc + 1) rest (pile_of stack1 top1) cells1 place code.dummies level (tape_at hand1 (u.written ++ put1) unread) executed from) (sym (append_assoc u.taken taken1 unread))
      (live.goes (program code) (u.taken ++ (taken1 ++ unread)) steps code.units code.stack code.dummies code.depth valid.valid valid.bounds law pc rest (pile_of stack top) cells place level (tape_at u.hand u.written (taken1 ++ unread)) executed from k j at (pc + 1) rest (pile_of stack1 top1) cells1 place level (tape_at hand1 (u.written ++ put1) unread) executed from k.base
      (record { core = next k.core m.stack; world = record { state = record { store = m.store; tape = tape_at hand1 (u.written ++ put1) unread }; left = k.world.left; count = k.world.count }; is = m.is; live = record { here = ap (λ n. n + 1) l.here; stack = m.stand; line = l.line; agrees = m.agrees; rest = l.rest; sums = l.sums; taped = refl; framed = record { base = f.base; own = f.own; wait = f.wait } }; waits = k.waits })
      k.told (omega arith))

  -- ---- the run ends ----

  module _ {executed1 : ℕ} (told : CountsOne executed from pc executed1) where
    trapped : (e : Trap) (taken1 ws unread : List Record) → TripsOver (act code.plans.items (Some j) (u.turn.held (taken1 ++ unread)).core (u.turn.held (taken1 ++ unread)).world) (u.turn.held (taken1 ++ unread)).core (u.turn.held (taken1 ++ unread)).world e ws → RunsTo (program code) ((u.taken ++ taken1) ++ unread) steps ws (Ended (Trapped e place)) rest executed1
    trapped e taken1 ws unread m =
        let k = u.turn.held (taken1 ++ unread) in
        let l = k.live in
        let adds = k.adds in
        let sums = l.sums in
        let same : k.base + (pc - from) + 1 ≡ suc k.count = omega arith in
        subst (λ input. RunsTo (program code) input steps ws (Ended (Trapped e place)) rest executed1) (sym (append_assoc u.taken taken1 unread))
        (live.ends (program code) (u.taken ++ (taken1 ++ unread)) steps code.units code.stack code.dummies code.depth valid.valid valid.bounds law pc rest (pile_of stack top) cells place level (tape_at u.hand u.written (taken1 ++ unread)) executed from k j at ws (Ended (Trapped e place)) executed1
        (record { world = record { state = m.state; left = k.world.left; count = k.world.count }; is = m.is ∙ ap (λ p. Halts (Ended (Trapped e p)) (record { state = m.state; left = k.world.left; count = k.world.count })) l.line; count = omega arith; shows = m.shows })
        (told k.base k.told ∙ ap bounded same))

  -- over what was taken and these records alone the run asks for one more
  lacks_run : (rs : List Record) → LacksAct code.plans.items j u.hand stack top cells rs → Wants (program code) steps (u.taken ++ rs)
  lacks_run rs lacks =
      let k = u.turn.held rs in
      let l = k.live in
      let sums = l.sums in
      let m = lacks k.core k.world u.written (faces rs) in
      let ended = live.ends (program code) (u.taken ++ rs) steps code.units code.stack code.dummies code.depth valid.valid valid.bounds law pc rest (pile_of stack top) cells place level (tape_at u.hand u.written rs) executed from k j at m.0 (Ended (Trapped EndOfInput place)) (bounded (suc k.count))
      (record { world = record { state = m.1.state; left = k.world.left; count = k.world.count }; is = m.1.is ∙ ap (λ p. Halts (Ended (Trapped EndOfInput p)) (record { state = m.1.state; left = k.world.left; count = k.world.count })) l.line; count = omega arith; shows = m.1.shows })
      refl in
      record { records = m.0; place = place; work = steps - rest; count = ended.count; runs = ended.runs }

  run_begins : (taken1 ws unread : List Record) → HasWritten ws (act code.plans.items (Some j) (u.turn.held (taken1 ++ unread)).core (u.turn.held (taken1 ++ unread)).world) → (a : Shown) (count : ℕ) → Runs (program code) ((u.taken ++ taken1) ++ unread) steps a count → IsPrefix ws a.records
  run_begins taken1 ws unread h a count r =
      let k = u.turn.held (taken1 ++ unread) in
      let input = u.taken ++ (taken1 ++ unread) in
      let there : exec (program code) (suc k.count) start (first_world input steps) ≡ act code.plans.items (Some j) k.core k.world =
      live.acts_next (program code) input steps code.units code.stack code.dummies code.depth valid.valid valid.bounds law pc rest (pile_of stack top) cells place level (tape_at u.hand u.written (taken1 ++ unread)) executed from k j at in
      begins_run (program code) input ws steps k.count k.core k.world k.comes (subst (HasWritten ws) (sym there) h) a count (subst (λ l. Runs (program code) l steps a count) (append_assoc u.taken taken1 unread) r)

  module _ (in_a_row : (a b c : K) (xs ys : List ℕ) → puts a xs b → puts b ys c → puts a (xs ++ ys) c) (i2 : S) (o2 : K) (new : State) (stack1 : List Word) (cells1 : List Cell) (plans : List Fields) (same : plans ≡ code.plans.items) where
    here : (result : Result (ℕ × ℕ) Stop) → Acts left puts faults failures i1 i2 o1 o2 plans j plan now new stack top cells stack1 cells1 result → Acts left puts faults failures i1 i2 o1 o2 code.plans.items j plan now new stack top cells stack1 cells1 result
    here result = subst (λ ps. Acts left puts faults failures i1 i2 o1 o2 ps j plan now new stack top cells stack1 cells1 result) same

    pub acts_on : {r : ℕ × ℕ} → Acts left puts faults failures i1 i2 o1 o2 plans j plan now new stack top cells stack1 cells1 (Ok r) → r.0 ≤ length stack1 → length cells1 ≡ length cells → IsUnderWay left puts faults failures i0 i2 o0 o2 first new code steps (pc + 1) rest r.0 stack1 cells1 place executed from level r.1
    acts_on {r} acted room long =
        let o = opened_at valid law u.turn at (pc + 1) way_on in
        let a = here (Ok r) acted u.turn.among o.0 u.hand u.turn.in_hand o.1 in
        record {
          taken = u.taken ++ a.0;
          written = u.written ++ a.1;
          hand = a.2;
          turn = record { held = λ unread. moved_on a.0 a.1 a.2 stack1 r.0 cells1 unread (a.6 (u.turn.held (a.0 ++ unread)).core (u.turn.held (a.0 ++ unread)).world unread u.written (faces (a.0 ++ unread))); within = room; order = let order = u.turn.order in omega arith; units = long ∙ u.turn.units; among = o.0; opened = o.2; in_hand = a.5 };
          flows = flows_on left puts in_a_row i0 i1 i2 o0 o1 o2 first.intake now.intake new.intake u.taken a.0 u.written a.1 lacks_run u.flows a.3;
          steady = record { input = a.4.input ∙ u.steady.input; out = a.4.out ∙ u.steady.out };
        }

    pub acts_over : {executed1 : ℕ} → CountsOne executed from pc executed1 → IsUnread first.intake → (stop : Stop) → Acts left puts faults failures i1 i2 o1 o2 plans j plan now new stack top cells stack1 cells1 (Err stop) → IsEnd left puts faults failures i0 i2 o0 o2 code steps rest executed1 (end_in stop place)
    acts_over {executed1} told fresh (stops.Trapped e) acted =
        let o = opened_at valid law u.turn at (pc + 1) way_on in
        let a = here (Err (stops.Trapped e)) acted u.turn.among o.0 u.hand u.turn.in_hand o.1 in
        let f = flows_on left puts in_a_row i0 i1 i2 o0 o1 o2 first.intake now.intake new.intake u.taken a.0 u.written a.1 lacks_run u.flows a.2 in
        record {
          got = f.reads.got;
          written = u.written ++ a.1;
          ended = new.intake.ended;
          consumes = f.reads.consumes;
          gets = gets_fresh fresh f.reads.gets;
          at_end = f.reads.at_end (λ e1. absurd (true≢false (sym e1 ∙ fresh.going)));
          sent = f.sent;
          steady = record { input = a.3.input ∙ u.steady.input; out = a.3.out ∙ u.steady.out };
          runs = λ failed later may.
              let unread = got_records failed (new.intake.hand ++ later) in
              subst (λ input. RunsTo (program code) input steps (u.written ++ a.1) (Ended (Trapped e place)) rest executed1)
              (sym (all_later first.intake new.intake f.reads.got (u.taken ++ a.0) fresh.hand f.reads.takes failed later may))
              (trapped told e a.0 (u.written ++ a.1) unread (a.4 (u.turn.held (a.0 ++ unread)).core (u.turn.held (a.0 ++ unread)).world unread u.written (record { failed = failed; later = later; may = may; is = refl }) (faces (a.0 ++ unread))));
        }
    acts_over {executed1} told fresh stops.Input acted =
        let o = opened_at valid law u.turn at (pc + 1) way_on in
        let a = here (Err stops.Input) acted u.turn.among o.0 u.hand u.turn.in_hand o.1 in
        let f = flows_on left puts in_a_row i0 i1 i2 o0 o1 o2 first.intake now.intake new.intake u.taken a.0 u.written a.1 lacks_run u.flows a.2 in
        record {
          got = f.reads.got;
          written = u.written ++ a.1;
          place = place;
          consumes = f.reads.consumes;
          gets = gets_fresh fresh f.reads.gets;
          sent = f.sent;
          input = subst (λ n. Rose n (faults i2)) u.steady.input a.3;
          out = a.4 ∙ u.steady.out;
          runs = subst (λ input. RunsTo (program code) input steps (u.written ++ a.1) (Ended (Trapped EndOfInput place)) rest executed1) (append-nil (u.taken ++ a.0) ∙ sym (all_cut first.intake new.intake f.reads.got (u.taken ++ a.0) fresh.hand f.reads.takes a.5)) (trapped told EndOfInput a.0 (u.written ++ a.1) [] (a.6 (u.turn.held (a.0 ++ [])).core (u.turn.held (a.0 ++ [])).world u.written (faces (a.0 ++ []))));
        }
    acts_over {executed1} told fresh stops.Output acted =
        let o = opened_at valid law u.turn at (pc + 1) way_on in
        let a = here (Err stops.Output) acted u.turn.among o.0 u.hand u.turn.in_hand o.1 in
        let f = reads_on left i0 i1 i2 first.intake now.intake new.intake u.taken a.0 lacks_run u.flows.reads a.2 in
        let unread = input_records new.intake.hand in
        record {
          got = f.got;
          written = u.written ++ a.1;
          consumes = f.consumes;
          gets = gets_fresh fresh f.gets;
          sent = puts_on puts in_a_row o0 o1 o2 (output_bytes u.written) (output_bytes a.1) [] (output_bytes (u.written ++ a.1)) u.flows.sent a.3 (flat_map-append (λ record_bytes. record_bytes ++ 10 ∷ []) u.written a.1 ∙ ap (λ (l : List ℕ). output_bytes u.written ++ l) (sym (append-nil (output_bytes a.1))));
          some = λ none. a.7 (none_behind u.written a.1 none);
          input = a.4 ∙ u.steady.input;
          out = subst (λ n. Rose n (failures o2)) u.steady.out a.5;
          begins = λ x count r. run_begins a.0 (u.written ++ a.1) unread (a.6 (u.turn.held (a.0 ++ unread)).core (u.turn.held (a.0 ++ unread)).world unread u.written (faces (a.0 ++ unread))) x count (subst (λ l. Runs (program code) l steps x count) (all_records first.intake new.intake f.got (u.taken ++ a.0) fresh.hand f.takes) r);
        }
