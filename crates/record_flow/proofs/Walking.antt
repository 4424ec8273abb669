-- Turns that follow one another make a step.
use Rattle.std.proofs.Common.{◌≡◌, ℕ, Bool, true, false, List, [], ◌∷◌, ◌++◌, refl, sym, ap, ◌∙◌, subst, append_assoc}
use Rattle.std.specs.Prelude.{Result, Ok, Err}
use Rattle.std.proofs.lemmas.List.{append-nil}
use Rattle.std.proofs.lemmas.Grind.{flat_map-append}
use Rattle.std.specs.declared.option.Option.{Option}
use Rattle.ground.specs.declared.trap.Trap.{Trap}
use Rattle.ground.specs.declared.trap.Trap.TheVariants.{EndOfInput}
use Rattle.f66_tree.specs.Fields.{Fields}
use Rattle.f66_tree.specs.FirstLaws.{Keeps}
use Rattle.f66_tree.specs.Editing.{Files, Break}
use Rattle.f66_tree.specs.Records.{tape_placed}
use Rattle.f66_tree.specs.Turns.{Hand}
use Rattle.f66_tree.specs.World.{Record, Tape, Move, AfterMove, IsPrefix}
use Rattle.format_io.specs.Places.{Stand}
use Rattle.ports.specs.Causes.{Rose}
use Rattle.ports.specs.Records.{output_bytes}
use Rattle.ports.proofs.PutsInARow.{puts_on}
use Rattle.record_flow.specs.declared.flow.Stop.{Stop}
use Rattle.record_flow.specs.declared.flow.Stop.TheVariants as stops
use Rattle.record_flow.specs.Flows.{State, files, tape, Reads, Flows, AreSteady}
use Rattle.record_flow.specs.Steps.{Walk, GoesOn, LacksOnWalk, IsTurned, LacksInStep, IsStep, IsBrokenAt}
use Rattle.record_flow.proofs.Taking.{reads_by, reads_on, flows_nothing, flows_by, flows_on, flows_end}
use Rattle.record_flow.proofs.Puts.{none_behind}

-- what came and went since a step began, and the walk goes on from here
pub record Since {S K : Type 0} (left : S → Option (List ℕ)) (puts : K → List ℕ → K → Type 0) (faults : S → ℕ) (failures : K → ℕ) (i0 i1 : S) (o0 o1 : K) (walk : Walk) (fs : Fields) (old now : State) : Type 0 where
  pub taken : List Record
  pub put : List Record
  pub flows : Flows left puts (LacksOnWalk walk fs old.stand) i0 i1 o0 o1 old.intake now.intake taken put
  pub steady : AreSteady faults failures i0 i1 o0 o1
  pub goes : GoesOn walk fs old.stand now.stand taken put

written_placed : (ws : List Record) (t u : Tape) (r : Result (Hand × Files) Break) → AfterMove (λ x. IsPrefix ws x.written) (tape_placed t r) → AfterMove (λ x. IsPrefix ws x.written) (tape_placed u r)
written_placed ws t u (Ok x) h = h
written_placed ws t u (Err e) h = h

module _ {S K : Type 0} (left : S → Option (List ℕ)) (puts : K → List ℕ → K → Type 0) (faults : S → ℕ) (failures : K → ℕ) (nothing : (s : K) → puts s [] s) (in_a_row : (a b c : K) (xs ys : List ℕ) → puts a xs b → puts b ys c → puts a (xs ++ ys) c) (walk : Walk) (fs : Fields) where
  pub since_begun : (i : S) (o : K) (s : State) → Since left puts faults failures i i o o walk fs s s
  since_begun i o s =
      record { taken = []; put = []; flows = flows_nothing left puts (LacksOnWalk walk fs s.stand) nothing i o s.intake; steady = record { input = refl; out = refl }; goes = λ unread written. ap (λ (l : List Record). walk (tape fs s.stand unread l)) (sym (append-nil written)) }

  module _ (i0 i1 i2 : S) (o0 o1 o2 : K) (old now new : State) (s : Since left puts faults failures i0 i1 o0 o1 walk fs old now) where
    goes_further : (mid : Stand) (t p : List Record) → GoesOn walk fs now.stand mid t p → GoesOn walk fs old.stand mid (s.taken ++ t) (s.put ++ p)
    goes_further mid t p g unread written =
        ap (λ (l : List Record). walk (tape fs old.stand l written)) (append_assoc s.taken t unread)
        ∙ s.goes (t ++ unread) written
        ∙ g unread (written ++ s.put)
        ∙ ap (λ (l : List Record). walk (tape fs mid unread l)) (append_assoc written s.put p)

    -- what is lacking on the way from here is lacking on the whole
    lacks_further : (rs : List Record) → LacksOnWalk walk fs now.stand rs → LacksOnWalk walk fs old.stand (s.taken ++ rs)
    lacks_further rs lacks written = let l = lacks (written ++ s.put) in (l.0, s.goes rs written ∙ l.1)

    since_more : IsTurned left puts faults failures i1 i2 o1 o2 walk fs now new (Ok false) → Since left puts faults failures i0 i2 o0 o2 walk fs old new
    since_more t =
        record {
          taken = s.taken ++ t.0;
          put = s.put ++ t.1;
          flows = flows_on left puts in_a_row i0 i1 i2 o0 o1 o2 old.intake now.intake new.intake s.taken t.0 s.put t.1 lacks_further s.flows t.2;
          steady = record { input = t.3.input ∙ s.steady.input; out = t.3.out ∙ s.steady.out };
          goes = goes_further new.stand t.0 t.1 t.4;
        }

    pub since_more_by : (b : Bool) → b ≡ false → IsTurned left puts faults failures i1 i2 o1 o2 walk fs now new (Ok b) → Since left puts faults failures i0 i2 o0 o2 walk fs old new
    since_more_by b is t = since_more (subst (λ v. IsTurned left puts faults failures i1 i2 o1 o2 walk fs now new (Ok v)) is t)

    -- the step is what the walk says
    module _ (move : Tape → Move) (keeps : (t : Tape) → AfterMove (Keeps t) (tape_placed t (walk t))) (places : (unread written : List Record) → move (tape fs old.stand unread written) ≡ tape_placed (tape fs old.stand unread written) (walk (tape fs old.stand unread written))) where
      lacks_in_step : (rs : List Record) → LacksOnWalk walk fs old.stand rs → LacksInStep move fs old.stand rs
      lacks_in_step rs lacks written = let l = lacks written in (_, places rs written ∙ ap (tape_placed (tape fs old.stand rs written)) l.1)

      flows_over : Flows left puts (LacksOnWalk walk fs now.stand) i1 i2 o1 o2 now.intake new.intake [] [] → Flows left puts (LacksInStep move fs old.stand) i0 i2 o0 o2 old.intake new.intake s.taken s.put
      flows_over f = flows_by left puts lacks_in_step (flows_end left puts in_a_row i0 i1 i2 o0 o1 o2 old.intake now.intake new.intake s.taken s.put lacks_further s.flows f)

      walked : (unread written : List Record) → move (tape fs old.stand (s.taken ++ unread) written) ≡ tape_placed (tape fs old.stand (s.taken ++ unread) written) (walk (tape fs now.stand unread (written ++ s.put)))
      walked unread written = places (s.taken ++ unread) written ∙ ap (tape_placed (tape fs old.stand (s.taken ++ unread) written)) (s.goes unread written)

      broken : (e : Trap) (unread written : List Record) → walk (tape fs now.stand unread (written ++ s.put)) ≡ Err (e, files unread (written ++ s.put)) → IsBrokenAt (move (tape fs old.stand (s.taken ++ unread) written)) e (written ++ s.put)
      broken e unread written is = (_, walked unread written ∙ ap (tape_placed (tape fs old.stand (s.taken ++ unread) written)) is, refl)

      -- what the walk has put stays
      puts_more : (unread written : List Record) (line : Record) (mid : Stand) → GoesOn walk fs now.stand mid [] (line ∷ []) → AfterMove (λ x. IsPrefix (written ++ (s.put ++ line ∷ [])) x.written) (move (tape fs old.stand (s.taken ++ unread) written))
      puts_more unread written line mid g =
          let here = tape fs old.stand (s.taken ++ unread) written in
          let there = tape fs mid unread ((written ++ s.put) ++ line ∷ []) in
          let is : move here ≡ tape_placed here (walk there) = walked unread written ∙ ap (tape_placed here) (g unread (written ++ s.put)) in
          let kept : AfterMove (λ x. IsPrefix ((written ++ s.put) ++ line ∷ []) x.written) (tape_placed here (walk there)) = written_placed ((written ++ s.put) ++ line ∷ []) there here (walk there) (keeps there) in
          subst (AfterMove (λ x. IsPrefix (written ++ (s.put ++ line ∷ [])) x.written)) (sym is) (subst (λ ws. AfterMove (λ x. IsPrefix ws x.written) (tape_placed here (walk there))) (append_assoc written s.put (line ∷ [])) kept)

      step_done : IsTurned left puts faults failures i1 i2 o1 o2 walk fs now new (Ok true) → IsStep left puts faults failures i0 i2 o0 o2 move fs old new (Ok tt)
      step_done t = (
        s.taken,
        s.put,
        flows_over t.0,
        record { input = t.1.input ∙ s.steady.input; out = t.1.out ∙ s.steady.out },
        λ unread written. walked unread written ∙ ap (tape_placed (tape fs old.stand (s.taken ++ unread) written)) (t.2 unread (written ++ s.put)),
      )

      pub step_done_by : (b : Bool) → b ≡ true → IsTurned left puts faults failures i1 i2 o1 o2 walk fs now new (Ok b) → IsStep left puts faults failures i0 i2 o0 o2 move fs old new (Ok tt)
      step_done_by b is t = step_done (subst (λ v. IsTurned left puts faults failures i1 i2 o1 o2 walk fs now new (Ok v)) is t)

      pub step_stopped : (e : Stop) → IsTurned left puts faults failures i1 i2 o1 o2 walk fs now new (Err e) → IsStep left puts faults failures i0 i2 o0 o2 move fs old new (Err e)
      step_stopped (stops.Trapped e) t = (
        s.taken,
        s.put,
        flows_over t.0,
        record { input = t.1.input ∙ s.steady.input; out = t.1.out ∙ s.steady.out },
        λ unread written m. broken e unread written (t.2 unread (written ++ s.put) m),
      )
      step_stopped stops.Input t = (
        s.taken,
        s.put,
        flows_over t.0,
        subst (λ n. Rose n (faults i2)) s.steady.input t.1,
        t.2 ∙ s.steady.out,
        t.3,
        λ written. broken EndOfInput [] written (t.4 (written ++ s.put)),
      )
      step_stopped stops.Output t = (
        s.taken,
        s.put ++ t.0 ∷ [],
        reads_by left lacks_in_step (subst (λ l. Reads left (LacksOnWalk walk fs old.stand) i0 i2 old.intake new.intake l) (append-nil s.taken) (reads_on left i0 i1 i2 old.intake now.intake new.intake s.taken [] lacks_further s.flows.reads t.2)),
        puts_on puts in_a_row o0 o1 o2 (output_bytes s.put) (output_bytes (t.0 ∷ [])) [] (output_bytes (s.put ++ t.0 ∷ [])) s.flows.sent t.3 (flat_map-append (λ record_bytes. record_bytes ++ 10 ∷ []) s.put (t.0 ∷ []) ∙ ap (λ (l : List ℕ). output_bytes s.put ++ l) (sym (append-nil (output_bytes (t.0 ∷ []))))),
        t.4 ∙ s.steady.input,
        subst (λ n. Rose n (failures o2)) s.steady.out t.5,
        λ unread written. puts_more unread written t.0 t.1 t.6,
        λ none. let one : t.0 ∷ [] ≡ [] = none_behind s.put (t.0 ∷ []) none in cc,
      )
