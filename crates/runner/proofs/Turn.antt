-- What is known at each turn of the loop, and what one more turn keeps.
use Rattle.std.proofs.Common.{◌≡◌, ℕ, zero, suc, ◌+◌, ◌-◌, ◌*◌, ◌<◌, ◌≤◌, List, [], ◌∷◌, ◌++◌, length, get_or, drop, Option, Some, None, refl, sym, ap, ◌∙◌, subst, arith, slice_get}
use Rattle.std.specs.Prelude.{Ok, true, false, option_map}
use Rattle.std.proofs.lemmas.List.{drop-drop, get_or-drop, length-drop}
use Rattle.std.proofs.lemmas.Option.{slice_get-map, slice_get_read, slice_get_within}
use Rattle.ground.specs.declared.place.Place.{Place}
use Rattle.ground.specs.declared.trap.Trap.{Trap}
use Rattle.ground.specs.Content.{Nothing}
use Rattle.f66_tree.specs.Fields.{Fields}
use Rattle.f66_tree.specs.Turns.{Hand}
use Rattle.format_io.specs.Places.{Stand as Standing}
use Rattle.f66_tree.specs.World.{empty_hand, Record, World, End, Out, Gives, Halts, GoesOn, Ended, Trapped, bind, take_from, holding}
use Rattle.stack_code.specs.declared.op.Op.{Op}
use Rattle.stack_code.specs.declared.valid.Code.{Code}
use Rattle.stack_code.specs.Instructions as i
use Rattle.stack_code.specs.Instructions.{Instruction}
use Rattle.stack_code.specs.Views.{instruction_of, code_of}
use Rattle.stack_code.specs.StackMachine.{At, Core, act, jump, start, first_world, empty, entered, next, stopped}
use Rattle.stack_code.specs.ValidCode.{Open, opens, IsIn, ways, is_counted, is_in_range}
use Rattle.stack_code.specs.Safety.{IsRight, AllWithin, IsSafe, ValidIsSafe}
use Rattle.runner.specs.declared.words.Word.{Word}
use Rattle.runner.specs.declared.words.Cell.{Cell}
use Rattle.runner.specs.declared.words.Cell.TheVariants as cell
use Rattle.runner.specs.Words.{Stand, Agrees, Lies, content_in, pile_of}
use Rattle.runner.specs.Frames.{Back, place_by, place_at, Level, Framed}
use Rattle.runner.specs.Work.{MayWork, MayHold, IsFine, IsAtMost, GoesOver, Works, Holds, Leaps, LeapsOver, is_leap}
use Rattle.runner.specs.Recording.{tape_at, InHand}
use Rattle.runner.specs.Running.{role, is_apart, bounded, RunsTo, IsValidCode, program}
use Rattle.runner.proofs.Measure.{far, nearer_on, nearer_leap, nearer_turn}
use Rattle.runner.proofs.Cells.{over_same}
use Rattle.runner.proofs.FrameArms.{times_more}
use Rattle.runner.proofs.Opening.{NoneOpen, IsOpen, open_first, open_on, open_same, is_straight, straight_apart, leads_on}
use Rattle.runner.proofs.Live as live
use Rattle.runner.proofs.Live.{Live, Held, Goes, Stops}

-- whatever follows the records that were taken, the locals of the loop stand for a state of the machine
pub record IsTurn (code : Code) (steps pc left top : ℕ) (stack : List Word) (cells : List Cell) (place : Place) (executed from : ℕ) (level : Level) (taken written : List Record) (hand : Hand) (stand : Standing) (plan : ℕ) : Type 0 where
  pub held : (input : List Record) → Held (program code) (taken ++ input) steps pc left (pile_of stack top) cells place code.dummies level (tape_at hand written input) executed from
  pub within : top ≤ length stack
  pub order : from ≤ pc
  pub units : length cells ≡ code.units
  pub among : Open
  pub opened : IsOpen (code_of code.ops.items) pc among
  pub in_hand : InHand code.plans.items among hand stand plan

-- one more instruction than up to here is counted
abbrev pub CountsOne : ℕ → ℕ → ℕ → ℕ → Type 0
CountsOne executed from pc executed1 = (base : ℕ) → executed ≡ bounded base → executed1 ≡ bounded (base + (pc - from) + 1)

pub length-code_of : (ops : List Op) → length (code_of ops) ≡ length ops
length-code_of [] = refl
length-code_of (o ∷ ops) = ap suc (length-code_of ops)

empty_agrees : (cells : List Cell) → ((q : ℕ) → q < length cells → slice_get cells q ≡ Some cell.Nothing) → Agrees cells empty
empty_agrees cells h = record { same = λ q. by q (slice_get cells q) refl; small = λ q. tt }
  where
    by : (q : ℕ) (o : Option Cell) → slice_get cells q ≡ o → Nothing ≡ content_in (slice_get cells q)
    by q None e = ap content_in (sym e)
    by q (Some x) e = sym (ap content_in (h q (slice_get_within cells q x e)))

get_drop : {A : Type 0} (n : ℕ) (xs : List A) (k : ℕ) → slice_get (drop n xs) k ≡ slice_get xs (n + k)
get_drop zero xs k = let e : k ≡ 0 + k = omega arith in ap (slice_get xs) e
get_drop (suc n) [] k = refl
get_drop (suc n) (x ∷ xs) k = let e : suc (n + k) ≡ suc n + k = omega arith in get_drop n xs k ∙ ap (slice_get (x ∷ xs)) e

-- what stands in the code from an instruction on
pub ahead : {xs : List Op} (ops : List Op) (pc k : ℕ) → xs ≡ drop pc ops → slice_get (code_of xs) k ≡ slice_get (code_of ops) (pc + k)
ahead {xs} ops pc k same = slice_get-map instruction_of xs k ∙ ap (λ v. option_map instruction_of (slice_get v k)) same ∙ ap (option_map instruction_of) (get_drop pc ops k) ∙ sym (slice_get-map instruction_of ops (pc + k))

-- its first instruction, and the one behind
pub first : {xs : List Op} {op : Op} (ops : List Op) (pc : ℕ) → xs ≡ drop pc ops → op ≡ get_or xs 0 op → op ≡ get_or ops pc op
first {xs} {op} ops pc same is = is ∙ ap (λ v. get_or v 0 op) same ∙ get_or-drop pc ops 0 op ∙ ap (λ n. get_or ops n op) (let e : pc + 0 ≡ pc = omega arith in e)

pub second : {xs : List Op} {op : Op} (ops : List Op) (pc : ℕ) → xs ≡ drop pc ops → op ≡ get_or xs 1 op → op ≡ get_or ops (pc + 1) op
second {xs} {op} ops pc same is = is ∙ ap (λ v. get_or v 1 op) same ∙ get_or-drop pc ops 1 op

-- at first
pub begins : (code : Code) (steps : ℕ) (stack : List Word) (cells : List Cell) (place : Place) (spots : List Word) (resumes : List Back) (stand : Standing) (plan : ℕ) → place ≡ start.frame.place → length cells ≡ code.units → ((q : ℕ) → q < length cells → slice_get cells q ≡ Some cell.Nothing) → IsTurn code steps 0 steps 0 stack cells place 0 0 (record { level = 0; base = 0; spots = spots; resumes = resumes }) [] [] empty_hand stand plan
begins code steps stack cells place spots resumes stand plan first units none =
    record {
      held = λ input. record { count = 0; core = start; world = first_world input steps; comes = refl; live = record { here = refl; stack = tt; line = sym first; agrees = empty_agrees cells none; rest = refl; sums = omega arith; taped = refl; framed = record { base = omega arith; own = tt; wait = refl } }; waits = tt; base = 0; told = refl; adds = omega arith };
      within = omega arith;
      order = omega arith;
      units = units;
      among = None;
      opened = open_first (code_of code.ops.items);
      in_hand = tt;
    }

right_fine : (P : Core → Type 0) (o : Out Core) → IsRight P o → IsFine o
right_fine P (Gives s w) h = tt
right_fine P (Halts e w) h = h

right_more : (P Q : Core → Type 0) (o : Out Core) → ((s : Core) → P s → Q s) → IsRight P o → IsRight Q o
right_more P Q (Gives s w) f h = f s h
right_more P Q (Halts e w) f h = h

-- the same of what stands behind some more instructions
pub further : {xs ys : List Op} (ops : List Op) (pc k : ℕ) → xs ≡ drop pc ops → ys ≡ drop k xs → ys ≡ drop (pc + k) ops
further ops pc k same is = is ∙ ap (drop k) same ∙ drop-drop k pc ops

-- so many instructions are there, where the last of them is
pub reaches_to : {xs : List Op} {j : Instruction} (ops : List Op) (pc at k : ℕ) → xs ≡ drop pc ops → slice_get (code_of ops) at ≡ Some j → pc + k ≡ at + 1 → k ≤ length xs
reaches_to ops pc at k same there e = let within = slice_get_within (code_of ops) at _ there in let all = length-code_of ops in let rest = ap length same ∙ length-drop pc ops in omega (arith, within, all, rest)

module _ {code : Code} (valid : IsValidCode code) (law : ValidIsSafe) {steps pc left top : ℕ} {stack : List Word} {cells : List Cell} {place : Place} {executed from : ℕ} {level : Level} {taken written : List Record} {hand : Hand} {stand : Standing} {plan : ℕ} (t : IsTurn code steps pc left top stack cells place executed from level taken written hand stand plan) where
  abbrev pub Safe : Core → Type 0
  Safe s = IsSafe (program code) code.units code.stack code.dummies code.depth s

  pub safe : (input : List Record) → Safe (t.held input).core
  safe input = live.now (program code) (taken ++ input) steps code.units code.stack code.dummies code.depth valid.valid valid.bounds law pc left (pile_of stack top) cells place level (tape_at hand written input) executed from (t.held input)

  pub within : pc < length code.ops.items
  within = let a = (safe []).there in let b = (t.held []).live.here in let c = length-code_of code.ops.items in omega arith

  -- what stands here
  pub stands : (op : Op) (ops : List Op) → ops ≡ code.ops.items → op ≡ get_or ops pc op → slice_get (code_of code.ops.items) pc ≡ Some (instruction_of op)
  stands op ops same e = slice_get-map instruction_of code.ops.items pc ∙ ap (option_map instruction_of) (slice_get_read code.ops.items _ pc op refl within (e ∙ ap (λ xs. get_or xs pc op) same))

  module _ {j : Instruction} (at : slice_get (code_of code.ops.items) pc ≡ Some j) where
    pub right : (input : List Record) → IsRight Safe (act code.plans.items (Some j) (t.held input).core (t.held input).world)
    right input = live.right (program code) (taken ++ input) steps code.units code.stack code.dummies code.depth valid.valid valid.bounds law pc left (pile_of stack top) cells place level (tape_at hand written input) executed from (t.held input) j at

    pub fine : (input : List Record) → IsFine (act code.plans.items (Some j) (t.held input).core (t.held input).world)
    fine input = right_fine _ _ (right input)

    pub in_range : is_in_range (code_of code.ops.items) (length code.plans.items) code.units pc j ≡ true
    in_range = valid.valid.ranges pc j at

    pub may_work : suc code.depth * code.stack ≤ length stack → MayWork j stack top
    may_work room =
        record {
          plans = code.plans.items;
          core = (t.held []).core;
          world = (t.held []).world;
          stand = (t.held []).live.stack;
          within = t.within;
          right = right_more Safe (IsAtMost (length stack)) _ (λ s k. let a = k.stack in let b = k.callers in let m = times_more (suc (length s.callers)) (suc code.depth) code.stack (omega arith) in omega arith) (right []);
        }

    pub may_hold : suc code.depth * code.stack ≤ length stack → MayHold j stack top cells
    unfolding may_work
    may_hold room =
        record { work = may_work room; spots = subst (λ n. AllWithin n (may_work room).core.stack) (sym t.units) (safe []).spots; agrees = (t.held []).live.agrees }

    pub may_lie : suc code.depth * code.stack ≤ length stack → (m : MayWork j stack top) × Lies At m.core.frame.spots level.spots level.base
    unfolding may_work
    may_lie room = (may_work room, (t.held []).live.framed.own)

    -- ---- the end is nearer ----

    pub nearer_next : is_counted (Some j) ≡ false → far (code_of code.ops.items) (pc + 1) left level.level < far (code_of code.ops.items) pc left level.level
    nearer_next e = nearer_on (code_of code.ops.items) pc (pc + 1) left level.level (omega arith) (omega (arith, within, length-code_of code.ops.items)) (ap is_counted at ∙ e)

    pub nearer_to : is_leap j ≡ true → is_counted (Some j) ≡ false → {to : ℕ} → IsIn to (ways j pc) → far (code_of code.ops.items) to left level.level < far (code_of code.ops.items) pc left level.level
    nearer_to l e {to} way = nearer_leap (code_of code.ops.items) (length code.plans.items) code.units pc j to left level.level at l e in_range (omega (arith, within, length-code_of code.ops.items)) way

    pub nearer_end : {limit step a to : ℕ} → j ≡ i.LoopTurn limit step a → IsIn to (ways (i.LoopTurn limit step a) pc) → far (code_of code.ops.items) to left level.level < far (code_of code.ops.items) pc left level.level
    nearer_end {limit} {step} {a} {to} e way =
        nearer_turn (code_of code.ops.items) (length code.plans.items) code.units pc limit step a to left level.level (at ∙ ap Some e) (subst (λ x. is_in_range (code_of code.ops.items) (length code.plans.items) code.units pc x ≡ true) e in_range) (omega (arith, within, length-code_of code.ops.items)) way

    pub opened_at : (to : ℕ) → IsIn to (ways j pc) → (o1 : Open) × (opens j t.among ≡ Some o1) × IsOpen (code_of code.ops.items) to o1
    opened_at to way = open_on (code_of code.ops.items) (length code.plans.items) code.units pc valid.valid t.among t.opened j at to way

    -- the same statement stays open
    opened_same : (to : ℕ) → IsIn to (ways j pc) → is_apart (role j) ≡ true → IsOpen (code_of code.ops.items) to t.among
    opened_same to way plain = let o = opened_at to way in subst (IsOpen (code_of code.ops.items) to) (open_same j t.among o.0 plain o.1) o.2

    -- ---- the run goes on ----

    to_next : (input : List Record) (to : ℕ) (pile1 : List Word) (cells1 : List Cell) → GoesOver (act code.plans.items (Some j) (t.held input).core (t.held input).world) (t.held input).core (t.held input).world to pile1 cells1 → Goes (code_of code.ops.items) (act code.plans.items (Some j) (t.held input).core (t.held input).world) steps to left pile1 cells1 place code.dummies level (tape_at hand written input)
    to_next input to pile1 cells1 g =
        let k = t.held input in
        let l = k.live in
        let f = l.framed in
        record { core = jump k.core to g.stack; world = holding g.store k.world; is = g.is; live = record { here = refl; stack = g.stand; line = l.line; agrees = g.agrees; rest = l.rest; sums = l.sums; taped = l.taped; framed = record { base = f.base; own = f.own; wait = f.wait } }; waits = k.waits }

    goes_on : (input : List Record) (left1 : ℕ) (pile1 : List Word) (cells1 : List Cell) (place1 : Place) → Goes (code_of code.ops.items) (act code.plans.items (Some j) (t.held input).core (t.held input).world) steps (pc + 1) left1 pile1 cells1 place1 code.dummies level (tape_at hand written input) → Held (program code) (taken ++ input) steps (pc + 1) left1 pile1 cells1 place1 code.dummies level (tape_at hand written input) executed from
    goes_on input left1 pile1 cells1 place1 g =
        let k = t.held input in
        let adds = k.adds in
        let order = t.order in
        live.goes (program code) (taken ++ input) steps code.units code.stack code.dummies code.depth valid.valid valid.bounds law pc left (pile_of stack top) cells place level (tape_at hand written input) executed from k j at (pc + 1) left1 pile1 cells1 place1 level (tape_at hand written input) executed from k.base g k.told (omega arith)

    -- an instruction is counted that goes on elsewhere
    pub arrives : (input : List Record) (to left1 : ℕ) (pile1 : List Word) (cells1 : List Cell) (place1 : Place) (level1 : Level) (executed1 : ℕ) → CountsOne executed from pc executed1 → Goes (code_of code.ops.items) (act code.plans.items (Some j) (t.held input).core (t.held input).world) steps to left1 pile1 cells1 place1 code.dummies level1 (tape_at hand written input) → Held (program code) (taken ++ input) steps to left1 pile1 cells1 place1 code.dummies level1 (tape_at hand written input) executed1 to
    arrives input to left1 pile1 cells1 place1 level1 executed1 told g =
        let k = t.held input in
        let adds = k.adds in
        live.goes (program code) (taken ++ input) steps code.units code.stack code.dummies code.depth valid.valid valid.bounds law pc left (pile_of stack top) cells place level (tape_at hand written input) executed from k j at to left1 pile1 cells1 place1 level1 (tape_at hand written input) executed1 to (k.base + (pc - from) + 1) g (told k.base k.told) (omega arith)

    -- at the next instruction
    pub steps_on : {new : List Word} {cells1 : List Cell} {top1 : ℕ} → is_straight (role j) ≡ true → ((input : List Record) → GoesOver (act code.plans.items (Some j) (t.held input).core (t.held input).world) (t.held input).core (t.held input).world ((t.held input).core.pc + 1) (pile_of new top1) cells1) → top1 ≤ length new → length cells1 ≡ length cells → IsTurn code steps (pc + 1) left top1 new cells1 place executed from level taken written hand stand plan
    steps_on {new} {cells1} {top1} straight g room long =
        record { held = held; within = room; order = let order = t.order in omega arith; units = long ∙ t.units; among = t.among; opened = opened_same (pc + 1) (leads_on j pc straight) (straight_apart (role j) straight); in_hand = t.in_hand }
      where
        held : (input : List Record) → Held (program code) (taken ++ input) steps (pc + 1) left (pile_of new top1) cells1 place code.dummies level (tape_at hand written input) executed from
        held input =
            let k = t.held input in
            goes_on input left (pile_of new top1) cells1 place (subst (λ n. Goes (code_of code.ops.items) (act code.plans.items (Some j) k.core k.world) steps n left (pile_of new top1) cells1 place code.dummies level (tape_at hand written input)) (ap (λ n. n + 1) k.live.here) (to_next input (k.core.pc + 1) (pile_of new top1) cells1 (g input)))

    -- or elsewhere
    jumps_on : {to top1 executed1 : ℕ} {cells1 : List Cell} → CountsOne executed from pc executed1 → IsIn to (ways j pc) → is_apart (role j) ≡ true → ((input : List Record) → GoesOver (act code.plans.items (Some j) (t.held input).core (t.held input).world) (t.held input).core (t.held input).world to (pile_of stack top1) cells1) → top1 ≤ length stack → length cells1 ≡ length cells → IsTurn code steps to left top1 stack cells1 place executed1 to level taken written hand stand plan
    jumps_on {to} {top1} {executed1} {cells1} told way plain g room long =
        record { held = λ input. arrives input to left (pile_of stack top1) cells1 place level executed1 told (to_next input to (pile_of stack top1) cells1 (g input)); within = room; order = omega arith; units = long ∙ t.units; among = t.among; opened = opened_same to way plain; in_hand = t.in_hand }

    pub holds_on : {new : List Word} {cells1 : List Cell} {top1 : ℕ} → is_straight (role j) ≡ true → Holds j stack top cells new cells1 (Ok top1) → top1 ≤ length new → length cells1 ≡ length cells → IsTurn code steps (pc + 1) left top1 new cells1 place executed from level taken written hand stand plan
    holds_on straight f room long = steps_on straight (λ input. let k = t.held input in f code.plans.items k.core k.world k.live.stack k.live.agrees (fine input)) room long

    pub works_on : {new : List Word} {top1 : ℕ} → is_straight (role j) ≡ true → Works j stack top new (Ok top1) → top1 ≤ length new → IsTurn code steps (pc + 1) left top1 new cells place executed from level taken written hand stand plan
    works_on straight f room = steps_on straight (λ input. let k = t.held input in over_same _ k.core k.world _ _ cells k.live.agrees (f code.plans.items k.core k.world k.live.stack (fine input))) room refl

    pub leaps_on : {to top1 executed1 : ℕ} → CountsOne executed from pc executed1 → IsIn to (ways j pc) → is_apart (role j) ≡ true → Leaps j pc stack top (Ok (to, top1)) → top1 ≤ length stack → IsTurn code steps to left top1 stack cells place executed1 to level taken written hand stand plan
    leaps_on told way plain f room = jumps_on told way plain (λ input. let k = t.held input in over_same _ k.core k.world _ _ cells k.live.agrees (f code.plans.items k.core k.world k.live.here k.live.stack (fine input))) room refl

    pub loops_on : {to top1 executed1 : ℕ} {cells1 : List Cell} → CountsOne executed from pc executed1 → IsIn to (ways j pc) → is_apart (role j) ≡ true → LeapsOver j pc stack top cells cells1 (Ok (to, top1)) → top1 ≤ length stack → length cells1 ≡ length cells → IsTurn code steps to left top1 stack cells1 place executed1 to level taken written hand stand plan
    loops_on told way plain f room long = jumps_on told way plain (λ input. let k = t.held input in f code.plans.items k.core k.world k.live.here k.live.stack k.live.agrees (fine input)) room long

    -- ---- the run ends ----

    over : (end : End) (executed1 : ℕ) → CountsOne executed from pc executed1 → ((input : List Record) → Stops (act code.plans.items (Some j) (t.held input).core (t.held input).world) written end steps left) → (input : List Record) → RunsTo (program code) (taken ++ input) steps written end left executed1
    over end executed1 told stops input =
        let k = t.held input in
        let adds = k.adds in
        let same : k.base + (pc - from) + 1 ≡ suc k.count = omega arith in
        live.ends (program code) (taken ++ input) steps code.units code.stack code.dummies code.depth valid.valid valid.bounds law pc left (pile_of stack top) cells place level (tape_at hand written input) executed from k j at written end executed1 (stops input) (told k.base k.told ∙ ap bounded same)

    ends_at : (input : List Record) (o : Out Core) (end : End) → o ≡ Halts end (t.held input).world → Stops o written end steps left
    ends_at input o end is = let l = (t.held input).live in record { world = (t.held input).world; is = is; count = let e = l.sums in let f = l.rest in omega arith; shows = ap (λ x. x.written) l.taped }

    trapped_over : (trap : Trap) (executed1 : ℕ) → CountsOne executed from pc executed1 → ((input : List Record) → act code.plans.items (Some j) (t.held input).core (t.held input).world ≡ Halts (Ended (Trapped trap (t.held input).core.frame.place)) (t.held input).world) → (input : List Record) → RunsTo (program code) (taken ++ input) steps written (Ended (Trapped trap place)) left executed1
    trapped_over trap executed1 told is =
        over (Ended (Trapped trap place)) executed1 told (λ input. let k = t.held input in ends_at input _ _ (is input ∙ ap (λ p. Halts (Ended (Trapped trap p)) k.world) k.live.line))

    pub holds_over : {trap : Trap} {executed1 : ℕ} → CountsOne executed from pc executed1 → ((plans : List Fields) (s : Core) (w : World) → Stand s.stack (pile_of stack top) → Agrees cells w.state.store → IsFine (act plans (Some j) s w) → act plans (Some j) s w ≡ Halts (Ended (Trapped trap s.frame.place)) w) → (input : List Record) → RunsTo (program code) (taken ++ input) steps written (Ended (Trapped trap place)) left executed1
    holds_over {trap} {executed1} told f = trapped_over trap executed1 told (λ input. let k = t.held input in f code.plans.items k.core k.world k.live.stack k.live.agrees (fine input))

    pub works_over : {trap : Trap} {executed1 : ℕ} → CountsOne executed from pc executed1 → ((plans : List Fields) (s : Core) (w : World) → Stand s.stack (pile_of stack top) → IsFine (act plans (Some j) s w) → act plans (Some j) s w ≡ Halts (Ended (Trapped trap s.frame.place)) w) → (input : List Record) → RunsTo (program code) (taken ++ input) steps written (Ended (Trapped trap place)) left executed1
    works_over {trap} {executed1} told f = trapped_over trap executed1 told (λ input. let k = t.held input in f code.plans.items k.core k.world k.live.stack (fine input))

    pub leaps_over : {trap : Trap} {executed1 : ℕ} → CountsOne executed from pc executed1 → ((plans : List Fields) (s : Core) (w : World) → s.pc ≡ pc → Stand s.stack (pile_of stack top) → IsFine (act plans (Some j) s w) → act plans (Some j) s w ≡ Halts (Ended (Trapped trap s.frame.place)) w) → (input : List Record) → RunsTo (program code) (taken ++ input) steps written (Ended (Trapped trap place)) left executed1
    leaps_over {trap} {executed1} told f = trapped_over trap executed1 told (λ input. let k = t.held input in f code.plans.items k.core k.world k.live.here k.live.stack (fine input))

    pub loops_over : {trap : Trap} {executed1 : ℕ} → CountsOne executed from pc executed1 → ((plans : List Fields) (s : Core) (w : World) → s.pc ≡ pc → Stand s.stack (pile_of stack top) → Agrees cells w.state.store → IsFine (act plans (Some j) s w) → act plans (Some j) s w ≡ Halts (Ended (Trapped trap s.frame.place)) w) → (input : List Record) → RunsTo (program code) (taken ++ input) steps written (Ended (Trapped trap place)) left executed1
    loops_over {trap} {executed1} told f = trapped_over trap executed1 told (λ input. let k = t.held input in f code.plans.items k.core k.world k.live.here k.live.stack k.live.agrees (fine input))

    pub halts_over : (n : Option ℕ) {executed1 : ℕ} → CountsOne executed from pc executed1 → j ≡ i.Halt n → (input : List Record) → RunsTo (program code) (taken ++ input) steps written (stopped n) left executed1
    halts_over n {executed1} told is = over (stopped n) executed1 told (λ input. let k = t.held input in ends_at input _ _ (ap (λ x. act code.plans.items (Some x) k.core k.world) is))

    -- ---- a statement begins, or a turn of an implied DO ----

    module _ (begun : Core → Core) (p : Place) (is : (s : Core) (w : World) → act code.plans.items (Some j) s w ≡ bind (take_from w.state w.left w.count) (λ _ w1. Gives (begun s) w1)) where
      counted_by : (input : List Record) (s : Core) (w : World) (n : ℕ) → n ≡ left → (left ≡ 0 → ⊥) → Live steps pc left (pile_of stack top) cells place code.dummies level (tape_at hand written input) s w → (begun s).pc ≡ s.pc + 1 → (begun s).stack ≡ s.stack → (begun s).frame.place ≡ p → Framed code.dummies level (begun s) → NoneOpen (code_of code.ops.items) (begun s).callers → Goes (code_of code.ops.items) (bind (take_from w.state n w.count) (λ _ w1. Gives (begun s) w1)) steps (pc + 1) (left - 1) (pile_of stack top) cells p code.dummies level (tape_at hand written input)
      counted_by input s w zero e some l one two three four five = absurd (some (sym e))
      counted_by input s w (suc m) e some l one two three four five =
          let sums = l.sums in
          record { core = begun s; world = record { state = w.state; left = m; count = w.count + 1 }; is = refl; live = record { here = one ∙ ap (λ n. n + 1) l.here; stack = subst (λ es. Stand es (pile_of stack top)) (sym two) l.stack; line = three; agrees = l.agrees; rest = omega arith; sums = omega arith; taped = l.taped; framed = four }; waits = five }

      counts_on : is_straight (role j) ≡ true → (left ≡ 0 → ⊥) → ((s : Core) → (begun s).pc ≡ s.pc + 1) → ((s : Core) → (begun s).stack ≡ s.stack) → ((s : Core) → s.frame.place ≡ place → (begun s).frame.place ≡ p) → ((s : Core) → Framed code.dummies level s → Framed code.dummies level (begun s)) → ((s : Core) → (begun s).callers ≡ s.callers) → IsTurn code steps (pc + 1) (left - 1) top stack cells p executed from level taken written hand stand plan
      counts_on straight some one two three four five = record { held = held; within = t.within; order = let order = t.order in omega arith; units = t.units; among = t.among; opened = opened_same (pc + 1) (leads_on j pc straight) (straight_apart (role j) straight); in_hand = t.in_hand }
        where
          held : (input : List Record) → Held (program code) (taken ++ input) steps (pc + 1) (left - 1) (pile_of stack top) cells p code.dummies level (tape_at hand written input) executed from
          held input =
              let k = t.held input in
              goes_on input (left - 1) (pile_of stack top) cells p (subst (λ o. Goes (code_of code.ops.items) o steps (pc + 1) (left - 1) (pile_of stack top) cells p code.dummies level (tape_at hand written input)) (sym (is k.core k.world)) (counted_by input k.core k.world k.world.left k.live.rest some k.live (one k.core) (two k.core) (three k.core k.live.line) (four k.core k.live.framed) (subst (NoneOpen (code_of code.ops.items)) (sym (five k.core)) k.waits)))

      none_by : (input : List Record) (s : Core) (w : World) (n : ℕ) → n ≡ left → left ≡ 0 → Live steps pc left (pile_of stack top) cells place code.dummies level (tape_at hand written input) s w → Stops (bind (take_from w.state n w.count) (λ _ w1. Gives (begun s) w1)) written GoesOn steps left
      none_by input s w zero e none l = record { world = record { state = w.state; left = 0; count = w.count }; is = refl; count = let e1 = l.sums in omega arith; shows = ap (λ x. x.written) l.taped }
      none_by input s w (suc m) e none l = absurd (omega arith)

      counts_out : {executed1 : ℕ} → CountsOne executed from pc executed1 → left ≡ 0 → (input : List Record) → RunsTo (program code) (taken ++ input) steps written GoesOn left executed1
      counts_out {executed1} told none = over GoesOn executed1 told (λ input. let k = t.held input in subst (λ o. Stops o written GoesOn steps left) (sym (is k.core k.world)) (none_by input k.core k.world k.world.left k.live.rest none k.live))

    begin_is : (p : Place) → j ≡ i.Begin p → (s : Core) (w : World) → act code.plans.items (Some j) s w ≡ bind (take_from w.state w.left w.count) (λ _ w1. Gives (entered s p) w1)
    begin_is p e s w = ap (λ x. act code.plans.items (Some x) s w) e

    step_is : j ≡ i.Step → (s : Core) (w : World) → act code.plans.items (Some j) s w ≡ bind (take_from w.state w.left w.count) (λ _ w1. Gives (next s s.stack) w1)
    step_is e s w = ap (λ x. act code.plans.items (Some x) s w) e

    pub begins_on : {p : Place} → j ≡ i.Begin p → (left ≡ 0 → ⊥) → IsTurn code steps (pc + 1) (left - 1) top stack cells p executed from level taken written hand stand plan
    begins_on {p} e some = counts_on (λ s. entered s p) p (begin_is p e) (ap (λ x. is_straight (role x)) e) some (λ s. refl) (λ s. refl) (λ s h. refl) (λ s f. record { base = f.base; own = f.own; wait = f.wait }) (λ s. refl)

    -- the place of the statement is told by the instruction that began it
    pub begins_here : {p : Place} → j ≡ i.Begin p → (left ≡ 0 → ⊥) → IsTurn code steps (pc + 1) (left - 1) top stack cells (place_at (code_of code.ops.items) pc) executed from level taken written hand stand plan
    begins_here {p} e some = subst (λ q. IsTurn code steps (pc + 1) (left - 1) top stack cells q executed from level taken written hand stand plan) (sym (ap place_by (at ∙ ap Some e))) (begins_on e some)

    pub begins_out : {p : Place} {executed1 : ℕ} → j ≡ i.Begin p → CountsOne executed from pc executed1 → left ≡ 0 → (input : List Record) → RunsTo (program code) (taken ++ input) steps written GoesOn left executed1
    begins_out {p} e told none = counts_out (λ s. entered s p) p (begin_is p e) told none

    pub turns_on : j ≡ i.Step → (left ≡ 0 → ⊥) → IsTurn code steps (pc + 1) (left - 1) top stack cells place executed from level taken written hand stand plan
    turns_on e some = counts_on (λ s. next s s.stack) place (step_is e) (ap (λ x. is_straight (role x)) e) some (λ s. refl) (λ s. refl) (λ s h. h) (λ s f. record { base = f.base; own = f.own; wait = f.wait }) (λ s. refl)

    pub turns_out : {executed1 : ℕ} → j ≡ i.Step → CountsOne executed from pc executed1 → left ≡ 0 → (input : List Record) → RunsTo (program code) (taken ++ input) steps written GoesOn left executed1
    turns_out e told none = counts_out (λ s. next s s.stack) place (step_is e) told none
