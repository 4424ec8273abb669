-- One more turn with a dummy, a call or a return.
use Rattle.std.proofs.Common.{◌≡◌, ℕ, suc, ◌+◌, ◌-◌, ◌*◌, ◌<◌, ◌≤◌, List, [], ◌∷◌, length, Some, None, true, refl, sym, ap, ◌∙◌, subst, arith, slice_get, slice_set}
use Rattle.ground.specs.declared.place.Place.{Place}
use Rattle.f66_tree.specs.Turns.{Hand}
use Rattle.format_io.specs.Places.{Stand as Standing}
use Rattle.f66_tree.specs.World.{Record}
use Rattle.stack_code.specs.declared.valid.Code.{Code}
use Rattle.stack_code.specs.Instructions as i
use Rattle.stack_code.specs.Views.{code_of}
use Rattle.stack_code.specs.StackMachine.{At, Core, act, called, back_to}
use Rattle.stack_code.specs.ValidCode.{is_counted}
use Rattle.stack_code.specs.Safety.{IsRight, IsSafe, ValidIsSafe}
use Rattle.runner.specs.declared.words.Word.{Word}
use Rattle.runner.specs.declared.words.Cell.{Cell}
use Rattle.runner.specs.Words.{Stand, Lies, pile_of}
use Rattle.runner.specs.Frames.{Back, IsKept, IsKeptIn, Wait, Level, Framed, MayFind, Finds, AreHanded}
use Rattle.runner.specs.Recording.{tape_at}
use Rattle.runner.specs.Running.{IsValidCode, program}
use Rattle.stack_code.proofs.FactsLemmas.{get_set_same}
use Rattle.runner.proofs.Piles.{set_later}
use Rattle.runner.proofs.Measure.{begin_counted}
use Rattle.runner.proofs.Opening.{NoneOpen, IsOpen, open_on, open_called, open_at_call, leads_on}
use Rattle.runner.proofs.Live.{Goes}
use Rattle.runner.proofs.Cells.{over_same}
use Rattle.runner.proofs.Takes.{Taken, taken_spots}
use Rattle.runner.proofs.FrameArms.{GoneBack, goes_back, wait_level, wait_kept, lies_moved, lies_kept, times_more}
use Rattle.runner.proofs.Turn.{IsTurn, CountsOne, safe, right, fine, in_range, may_lie, steps_on, arrives}

module _ {code : Code} (valid : IsValidCode code) (law : ValidIsSafe) {steps pc left top : ℕ} {stack : List Word} {cells : List Cell} {place : Place} {executed from : ℕ} {level : Level} {taken written : List Record} {hand : Hand} {stand : Standing} {plan : ℕ} (t : IsTurn code steps pc left top stack cells place executed from level taken written hand stand plan) where
  abbrev Kept : Core → Type 0
  Kept s = IsSafe (program code) code.units code.stack code.dummies code.depth s

  level_is : (input : List Record) → length (t.held input).core.callers ≡ level.level
  level_is input = wait_level code.dummies level.spots level.resumes (t.held input).core.callers level.level (t.held input).live.framed.wait

  pub deep : level.level ≤ code.depth
  deep = let a = (safe valid law t []).callers in let b = level_is [] in omega arith

  module _ {n : ℕ} (at : slice_get (code_of code.ops.items) pc ≡ Some (i.Dummy n)) where
    pub may_find : suc code.depth * code.stack ≤ length stack → MayFind n stack top level.spots level.base
    may_find room = let x = may_lie valid law t at room in record { work = x.0; lies = x.1 }

    pub finds_on : {new : List Word} {top1 : ℕ} → Finds n stack top level.spots level.base new top1 → top1 ≤ length new → IsTurn code steps (pc + 1) left top1 new cells place executed from level taken written hand stand plan
    finds_on f room = steps_on valid law t at refl (λ input. let k = t.held input in over_same _ k.core k.world _ _ cells k.live.agrees (f code.plans.items k.core k.world k.live.stack k.live.framed.own (fine valid law t at input))) room refl

  module _ {to n : ℕ} (at : slice_get (code_of code.ops.items) pc ≡ Some (i.Call to n)) where
    module _ (input : List Record) where
      abbrev core : Core
      core = (t.held input).core

      popped : Taken At (act code.plans.items (Some (i.Call to n)) core (t.held input).world) (called core to (t.held input).world) stack n 0 top core.stack
      popped = taken_spots stack Kept (t.held input).world n 0 core.stack [] (called core to (t.held input).world) top t.within refl (t.held input).live.stack tt (right valid law t at input)

      abbrev entered_at : Core
      entered_at = record { pc = to; stack = popped.rest; frame = record { place = core.frame.place; spots = popped.got }; callers = record { back = core.pc + 1; frame = core.frame } ∷ core.callers }

      fits_there : Kept entered_at
      fits_there = subst (IsRight Kept) popped.is (right valid law t at input)

    pub call_tall : n ≤ top
    call_tall = let u = (popped []).under in omega arith

    pub call_deep : level.level < code.depth
    call_deep = let a = (fits_there []).callers in let b = level_is [] in omega arith

    pub call_few : n ≤ code.dummies
    call_few = let a = (fits_there []).frame.few in let b = (popped []).long in omega arith

    pub call_room : suc code.depth * code.dummies ≤ length level.spots → (level.base + code.dummies) + n ≤ length level.spots
    call_room room =
        let base = (t.held []).live.framed.base in
        let more = times_more (suc (suc level.level)) (suc code.depth) code.dummies (let d = call_deep in omega arith) in
        let few = call_few in
        omega arith

    pub call_counted : is_counted (slice_get (code_of code.ops.items) to) ≡ true
    call_counted = begin_counted (slice_get (code_of code.ops.items) to) (in_range valid law t at)

    module _ {from1 : ℕ} {spots1 : List Word} {resumes1 : List Back} {resume : Back} (low : from1 ≡ top - n) (handed : AreHanded stack (top - n) n level.spots spots1 (level.base + code.dummies)) (kept : resumes1 ≡ slice_set level.resumes level.level resume) (back : resume.at ≡ pc + 1) (line : resume.place ≡ place) (short : level.level < length level.resumes) where
      abbrev next_level : Level
      next_level = record { level = suc level.level; base = level.base + code.dummies; spots = spots1; resumes = resumes1 }

      module _ (input : List Record) where
        low_is : (popped input).low ≡ from1
        low_is = let u = (popped input).under in omega arith

        framed : Framed code.dummies next_level (entered_at input)
        framed =
            let f = (t.held input).live.framed in
            let base = f.base in
            let few = (safe valid law t input).frame.few in
            record {
              base = omega arith;
              own = lies_moved (popped input).got stack spots1 (popped input).low (level.base + code.dummies) (popped input).lies (λ k lt. let long = (popped input).long in handed.handed k (omega arith) ∙ ap (λ x. slice_get stack (x + k)) (sym (low_is ∙ low)));
              wait = (
                subst (IsKeptIn (record { back = (core input).pc + 1; frame = (core input).frame })) (sym (ap (λ x. slice_get x level.level) kept ∙ get_set_same level.resumes level.level resume short)) (record { at = back ∙ ap (λ x. x + 1) (sym (t.held input).live.here); place = line ∙ sym (t.held input).live.line }),
                subst (Lies At (core input).frame.spots spots1) base (lies_kept (core input).frame.spots level.spots spots1 level.base (level.base + code.dummies) f.own (omega arith) handed.below),
                wait_kept code.units code.dummies level.spots spots1 level.resumes resumes1 level.level (λ q lt. handed.below q (omega arith)) (λ q lt. ap (λ x. slice_get x q) kept ∙ set_later level.resumes level.level q resume lt) (core input).callers level.level (omega arith) (safe valid law t input).waiting f.wait,
              );
            }

        waits_there : IsOpen (code_of code.ops.items) ((core input).pc + 1) None
        waits_there =
            let o = open_on (code_of code.ops.items) (length code.plans.items) code.units pc valid.valid t.among t.opened (i.Call to n) at (pc + 1) (leads_on (i.Call to n) pc refl) in
            subst (λ x. IsOpen (code_of code.ops.items) x None) (ap (λ x. x + 1) (sym (t.held input).live.here)) (subst (IsOpen (code_of code.ops.items) (pc + 1)) (open_at_call to n t.among o.0 o.1) o.2)

        called_to : Goes (code_of code.ops.items) (act code.plans.items (Some (i.Call to n)) (core input) (t.held input).world) steps to left (pile_of stack from1) cells place code.dummies next_level (tape_at hand written input)
        called_to =
            let l = (t.held input).live in
            record { core = entered_at input; world = (t.held input).world; is = (popped input).is; live = record { here = refl; stack = subst (λ x. Stand (popped input).rest (pile_of stack x)) low_is (popped input).stand; line = l.line; agrees = l.agrees; rest = l.rest; sums = l.sums; taped = l.taped; framed = framed }; waits = (waits_there, (t.held input).waits) }

      pub calls_on : {executed1 : ℕ} → CountsOne executed from pc executed1 → IsTurn code steps to left from1 stack cells place executed1 to (record { level = level.level + 1; base = level.base + code.dummies; spots = spots1; resumes = resumes1 }) taken written hand stand plan
      calls_on {executed1} told =
          subst (λ x. IsTurn code steps to left from1 stack cells place executed1 to (record { level = x; base = level.base + code.dummies; spots = spots1; resumes = resumes1 }) taken written hand stand plan) (let e : suc level.level ≡ level.level + 1 = omega arith in e)
          (record { held = λ input. arrives valid law t at input to left (pile_of stack from1) cells place next_level executed1 told (called_to input); within = let w = t.within in omega arith; order = omega arith; units = t.units; among = None; opened = open_called (code_of code.ops.items) pc to n at; in_hand = tt })

  module _ (at : slice_get (code_of code.ops.items) pc ≡ Some i.Return) where
    gone_back : (input : List Record) → GoneBack code.dummies level.spots level.resumes (t.held input).core.callers level.level
    gone_back input = goes_back Kept code.dummies level.spots level.resumes (t.held input).core (t.held input).world (t.held input).core.callers level.level (right valid law t at input) (t.held input).live.framed.wait

    pub returns_some : 1 ≤ level.level
    returns_some = let e = (gone_back []).level_is in omega arith

    pub returns_low : code.dummies ≤ level.base
    returns_low = let e = (gone_back []).level_is in let base = (t.held []).live.framed.base in let more = times_more 1 level.level code.dummies returns_some in omega arith

    module _ {resume : Back} (there : slice_get level.resumes (level.level - 1) ≡ Some resume) where
      abbrev below : Level
      below = record { level = level.level - 1; base = level.base - code.dummies; spots = level.spots; resumes = level.resumes }

      came_back : (input : List Record) → IsKept (gone_back input).caller resume
      came_back input =
          let e = (gone_back input).level_is in
          let down : (gone_back input).under ≡ level.level - 1 = omega arith in
          subst (IsKeptIn (gone_back input).caller) (ap (slice_get level.resumes) down ∙ there) (gone_back input).kept

      waits_below : (input : List Record) → NoneOpen (code_of code.ops.items) ((gone_back input).caller ∷ (gone_back input).rest)
      waits_below input = subst (NoneOpen (code_of code.ops.items)) (gone_back input).is (t.held input).waits

      returned_to : (input : List Record) → Goes (code_of code.ops.items) (act code.plans.items (Some i.Return) (t.held input).core (t.held input).world) steps resume.at left (pile_of stack top) cells resume.place code.dummies below (tape_at hand written input)
      returned_to input =
          let k = t.held input in
          let l = k.live in
          let b = gone_back input in
          let f = l.framed in
          let base = f.base in
          let e = b.level_is in
          let down : b.under ≡ level.level - 1 = omega arith in
          let kept = came_back input in
          let times = ap (λ x. x * code.dummies) e in
          let base1 : level.base - code.dummies ≡ b.under * code.dummies = omega arith in
          record {
            core = record { pc = b.caller.back; stack = k.core.stack; frame = b.caller.frame; callers = b.rest };
            world = k.world;
            is = ap (back_to k.core k.world) b.is;
            live = record { here = sym kept.at; stack = l.stack; line = sym kept.place; agrees = l.agrees; rest = l.rest; sums = l.sums; taped = l.taped; framed = record { base = base1 ∙ ap (λ x. x * code.dummies) down; own = subst (Lies At b.caller.frame.spots level.spots) (sym base1) b.lies; wait = subst (Wait code.dummies level.spots level.resumes b.rest) down b.wait } };
            waits = (waits_below input).1;
          }

      pub returns_on : {executed1 : ℕ} → CountsOne executed from pc executed1 → IsTurn code steps resume.at left top stack cells resume.place executed1 resume.at below taken written hand stand plan
      returns_on {executed1} told =
          record { held = λ input. arrives valid law t at input resume.at left (pile_of stack top) cells resume.place below executed1 told (returned_to input); within = t.within; order = omega arith; units = t.units; among = None; opened = subst (λ x. IsOpen (code_of code.ops.items) x None) (sym (came_back []).at) (waits_below []).0; in_hand = tt }
