-- A spot, and what is loaded from it where a load comes next.
use Rattle.std.proofs.Common.{◌≡◌, ℕ, suc, ◌+◌, ◌*◌, ◌<◌, ◌≤◌, ◌^◌, List, ◌++◌, length, Some, false, refl, ap, subst, arith, slice_get, slice_set}
use Rattle.std.specs.Prelude.{Ok, pos}
use Rattle.std.proofs.lemmas.Bool.{leb-true, and_parts}
use Rattle.std.proofs.lemmas.List.{length-set}
use Rattle.ground.specs.declared.place.Place.{Place}
use Rattle.ground.specs.declared.value.Kind.TheVariants.{Integer}
use Rattle.f66_tree.specs.Turns.{Hand}
use Rattle.f66_tree.specs.World.{Record}
use Rattle.format_io.specs.Places.{Stand as Standing}
use Rattle.stack_code.specs.declared.valid.Code.{Code}
use Rattle.stack_code.specs.Instructions as i
use Rattle.stack_code.specs.Views.{code_of}
use Rattle.stack_code.specs.Safety.{ValidIsSafe}
use Rattle.stack_code.specs.StackMachine.{At, spot}
use Rattle.runner.specs.declared.words.Word.{Word}
use Rattle.runner.specs.declared.words.Cell.{Cell}
use Rattle.runner.specs.Frames.{Level}
use Rattle.runner.specs.Running.{IsValidCode, program}
use Rattle.runner.specs.Words.{Shows, spot_word}
use Rattle.runner.specs.Work.{Holds}
use Rattle.runner.specs.Recording.{tape_at}
use Rattle.runner.proofs.Live.{Held}
use Rattle.runner.proofs.Measure.{far}
use Rattle.runner.proofs.Piles.{pile_push, pile_above}
use Rattle.runner.proofs.Pushes.{push_room, push_works}
use Rattle.runner.proofs.Roles.{range_of}
use Rattle.runner.proofs.Turn as turn
use Rattle.runner.proofs.Turn.{IsTurn}

module _ {code : Code} (valid : IsValidCode code) (law : ValidIsSafe) (few : code.units < 2 ^ 31) {steps pc left top : ℕ} {stack : List Word} {cells : List Cell} {place : Place} {executed from : ℕ} {level : Level} {taken written : List Record} {hand : Hand} {stand : Standing} {plan : ℕ} (t : IsTurn code steps pc left top stack cells place executed from level taken written hand stand plan) (room : suc code.depth * code.stack ≤ length stack) (first size : ℕ) (at : slice_get (code_of code.ops.items) pc ≡ Some (i.PushSpot first size)) where
  pub ranges : (1 ≤ size) × (first + size < 2 ^ 31)
  ranges = range_of (code_of code.ops.items) (length code.plans.items) code.units pc (i.PushSpot first size) few (turn.in_range valid law t at)

  pub unit_there : first < length cells
  unit_there =
      let b = and_parts _ _ (turn.in_range valid law t at) in
      let last = leb-true (first + size) code.units b.1 in
      let some = leb-true 1 size b.0 in
      let units = t.units in
      omega (arith, last, some, units)

  pub has_room : top < length stack
  has_room = push_room (i.PushSpot first size) (At (spot first size false)) stack top (λ plans s w. refl) (turn.may_work valid law t at room)

  shows : Shows (At (spot first size false)) (spot_word first size)
  shows = record { value = ap pos (let e : first ≡ first + 0 = omega arith in e); behind = refl; inside = let r = ranges.0 in omega (arith, r); few = ranges.1 }

  -- the spot lies on the stack
  pub after : IsTurn code steps (pc + 1) left (top + 1) (slice_set stack top (spot_word first size)) cells place executed from level taken written hand stand plan
  after = turn.works_on valid law t at refl (λ plans s w st fine. push_works (At (spot first size false)) (spot_word first size) s w _ _ st shows (pile_push stack top (spot_word first size) has_room)) (let r = has_room in let n = length-set stack top (spot_word first size) in omega (arith, r, n))

  pub next_within : pc + 1 < length code.ops.items
  next_within = turn.within valid law after

  module _ (load_at : slice_get (code_of code.ops.items) (pc + 1) ≡ Some (i.Load Integer)) where
    pub loads_on : {new : List Word} {top1 : ℕ} → Holds (i.Load Integer) (slice_set stack top (spot_word first size)) (top + 1) cells new cells (Ok top1) → top1 ≤ length new → IsTurn code steps (pc + 2) left top1 new cells place executed from level taken written hand stand plan
    loads_on {new} {top1} h fits = subst (λ n. IsTurn code steps n left top1 new cells place executed from level taken written hand stand plan) (let e : pc + 1 + 1 ≡ pc + 2 = omega arith in e) (turn.holds_on valid law after load_at refl h fits refl)

    pub loads_nearer : far (code_of code.ops.items) (pc + 2) left level.level < far (code_of code.ops.items) pc left level.level
    loads_nearer =
        let one = turn.nearer_next valid law t at refl in
        let two = subst (λ n. far (code_of code.ops.items) n left level.level < far (code_of code.ops.items) (pc + 1) left level.level) (let e : pc + 1 + 1 ≡ pc + 2 = omega arith in e) (turn.nearer_next valid law after load_at refl) in
        omega (arith, one, two)

  -- the spot was not written, and no more words than below it are left
  pub unwritten : {pc1 top1 : ℕ} {cells1 : List Cell} {executed1 from1 : ℕ} → top1 ≤ top → IsTurn code steps pc1 left top1 (slice_set stack top (spot_word first size)) cells1 place executed1 from1 level taken written hand stand plan → IsTurn code steps pc1 left top1 stack cells1 place executed1 from1 level taken written hand stand plan
  unwritten {pc1} {top1} {cells1} {executed1} {from1} low u =
      record {
        held = λ input. subst (λ pile. Held (program code) (taken ++ input) steps pc1 left pile cells1 place code.dummies level (tape_at hand written input) executed1 from1) (pile_above stack top top1 (spot_word first size) low) (u.held input);
        within = let w = t.within in omega (arith, low, w);
        order = u.order;
        units = u.units;
        among = u.among;
        opened = u.opened;
        in_hand = u.in_hand;
      }
