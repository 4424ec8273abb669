-- A run over a source and a sink, at a turn of the loop: what came in and went out since it began.
use Rattle.std.proofs.Common.{◌≡◌, ℕ, true≢false, List, [], ◌++◌, refl, sym, ◌∙◌, subst}
use Rattle.std.specs.declared.option.Option.{Option}
use Rattle.ground.specs.declared.place.Place.{Place}
use Rattle.f66_tree.specs.Turns.{Hand}
use Rattle.f66_tree.specs.World.{empty_hand, Record, End}
use Rattle.ports.specs.Records.{got_records}
use Rattle.record_intake.specs.Intakes.{Content, Pieces, Gets, untouched}
use Rattle.record_flow.specs.Flows.{State, Flows, AreSteady}
use Rattle.record_flow.proofs.AllRecords.{all_later}
use Rattle.record_flow.proofs.Taking.{flows_nothing}
use Rattle.stack_code.specs.declared.valid.Code.{Code}
use Rattle.runner.specs.declared.words.Word.{Word}
use Rattle.runner.specs.declared.words.Cell.{Cell}
use Rattle.runner.specs.declared.run.End.{End as TheEnd}
use Rattle.runner.specs.declared.run.Ran.{Ran}
use Rattle.runner.specs.Frames.{Level}
use Rattle.runner.specs.Running.{ran, RunsTo, Wants, program}
use Rattle.runner.specs.Endings.{IsUnread, IsWhole, IsEnd, IsRunOf}
use Rattle.runner.proofs.Turn.{IsTurn}

-- what was got since nothing was read
pub gets_fresh : {S : Type 0} {asks : List Record → Type 0} {i j : S} {c : Content} {got : List ℕ} → IsUnread c → Gets asks i j c got → Gets asks i j untouched got
gets_fresh {S} {asks} {i} {j} {c} {got} fresh g =
    record { pieces = g.pieces; all = g.all; asked = subst (λ (l : List ℕ). Pieces asks l g.pieces) fresh.hand g.asked; idle = g.idle; over = λ e. absurd (true≢false (sym e)) }

pub record IsUnderWay {S K : Type 0} (left : S → Option (List ℕ)) (puts : K → List ℕ → K → Type 0) (faults : S → ℕ) (failures : K → ℕ) (i0 i1 : S) (o0 o1 : K) (first now : State) (code : Code) (steps pc rest top : ℕ) (stack : List Word) (cells : List Cell) (place : Place) (executed from : ℕ) (level : Level) (plan : ℕ) : Type 0 where
  pub taken : List Record
  pub written : List Record
  pub hand : Hand
  pub turn : IsTurn code steps pc rest top stack cells place executed from level taken written hand now.stand plan
  pub flows : Flows left puts (Wants (program code) steps) i0 i1 o0 o1 first.intake now.intake taken written
  pub steady : AreSteady faults failures i0 i1 o0 o1

module _ {S K : Type 0} (left : S → Option (List ℕ)) (puts : K → List ℕ → K → Type 0) (faults : S → ℕ) (failures : K → ℕ) where
  pub under_way : (nothing : (s : K) → puts s [] s) (i : S) (o : K) (first : State) (code : Code) (steps pc rest top : ℕ) (stack : List Word) (cells : List Cell) (place : Place) (executed from : ℕ) (level : Level) (plan : ℕ) → IsTurn code steps pc rest top stack cells place executed from level [] [] empty_hand first.stand plan → IsUnderWay left puts faults failures i i o o first first code steps pc rest top stack cells place executed from level plan
  under_way nothing i o first code steps pc rest top stack cells place executed from level plan t =
      record { taken = []; written = []; hand = empty_hand; turn = t; flows = flows_nothing left puts (Wants (program code) steps) nothing i o first.intake; steady = record { input = refl; out = refl } }

module _ {S K : Type 0} {left : S → Option (List ℕ)} {puts : K → List ℕ → K → Type 0} {faults : S → ℕ} {failures : K → ℕ} {i0 i1 : S} {o0 o1 : K} {first now : State} {code : Code} {steps pc rest top : ℕ} {stack : List Word} {cells : List Cell} {place : Place} {executed from : ℕ} {level : Level} {plan : ℕ} (u : IsUnderWay left puts faults failures i0 i1 o0 o1 first now code steps pc rest top stack cells place executed from level plan) where
  -- one more instruction that has nothing to do with records
  pub keeps_on : {pc1 rest1 top1 : ℕ} {stack1 : List Word} {cells1 : List Cell} {place1 : Place} {executed1 from1 : ℕ} {level1 : Level} → IsTurn code steps pc1 rest1 top1 stack1 cells1 place1 executed1 from1 level1 u.taken u.written u.hand now.stand plan → IsUnderWay left puts faults failures i0 i1 o0 o1 first now code steps pc1 rest1 top1 stack1 cells1 place1 executed1 from1 level1 plan
  keeps_on t = record { taken = u.taken; written = u.written; hand = u.hand; turn = t; flows = u.flows; steady = u.steady }

  pub whole : IsUnread first.intake → (end : End) (rest1 shown : ℕ) → ((input : List Record) → RunsTo (program code) (u.taken ++ input) steps u.written end rest1 shown) → IsWhole left puts faults failures i0 i1 o0 o1 code steps end rest1 shown
  whole fresh end rest1 shown runs =
      let r = u.flows.reads in
      record {
        got = r.got;
        written = u.written;
        ended = now.intake.ended;
        consumes = r.consumes;
        gets = gets_fresh fresh r.gets;
        at_end = r.at_end (λ e. absurd (true≢false (sym e ∙ fresh.going)));
        sent = u.flows.sent;
        steady = u.steady;
        runs = λ failed later may. subst (λ input. RunsTo (program code) input steps u.written end rest1 shown) (sym (all_later first.intake now.intake r.got u.taken fresh.hand r.takes failed later may)) (runs (got_records failed (now.intake.hand ++ later)));
      }

-- what is answered at the end
pub answered : {S K : Type 0} (left : S → Option (List ℕ)) (puts : K → List ℕ → K → Type 0) (faults : S → ℕ) (failures : K → ℕ) (i0 i1 : S) (o0 o1 : K) (code : Code) (steps : ℕ) (end : TheEnd) (rest executed : ℕ) (r : Ran) → r ≡ ran end rest executed → IsEnd left puts faults failures i0 i1 o0 o1 code steps rest executed end → IsRunOf left puts faults failures i0 i1 o0 o1 code steps r
answered left puts faults failures i0 i1 o0 o1 code steps end rest executed r e h = subst (IsRunOf left puts faults failures i0 i1 o0 o1 code steps) (sym e) h
