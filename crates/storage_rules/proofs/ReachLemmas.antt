-- How far the class of a block reaches behind its first place, by the end of the class.
use Rattle.std.proofs.Common.{◌<◌, ◌^◌, inl, inr, ℕ, ℤ, pos, ◌-ℤ◌, ◌≤ℤ◌, ◌<ℤ◌, List, length, slice_index, Option, None, Some, refl, sym, ap, subst, arith}
use Rattle.std.proofs.lemmas.Int.{ints}
use Rattle.std.specs.Option.{IfSome}
use Rattle.offset_classes.specs.declared.link.Seat.{Seat}
use Rattle.offset_classes.specs.Links.{class_in, offset_in}
use Rattle.offset_classes.specs.Numbers.{AreNearSeats}
use Rattle.storage_rules.specs.Ends.{IsEnd}
use Rattle.storage_rules.specs.Reach.{IsGap, IsReach}

module _ (seats : List Seat) (sizes : List ℕ) (b : ℕ) where
  -- no row has places
  reach_none : IsEnd seats sizes (length seats) (class_in seats b) None → IsReach seats sizes b (pos 0)
  reach_none h = record { low = omega (arith, ints); within = λ x i. absurd (h x i); reached = inl refl }

  -- the last place stands before the block
  reach_before : (e : ℤ) → IsEnd seats sizes (length seats) (class_in seats b) (Some e) → e ≤ℤ offset_in seats b → IsReach seats sizes b (pos 0)
  reach_before e h le = record { low = omega (arith, ints); within = λ x i. (let l = h.0 x i in omega (arith, ints, l, le)); reached = inl refl }

  reach_behind : (e : ℤ) → IsEnd seats sizes (length seats) (class_in seats b) (Some e) → offset_in seats b <ℤ e → IsReach seats sizes b (e -ℤ offset_in seats b)
  reach_behind e h lt = record {
    low = omega (arith, ints, lt);
    within = λ x i. (let l = h.0 x i in omega (arith, ints, l));
    reached = (let w = h.1 in inr (w.0, w.1, ap (λ z. z -ℤ offset_in seats b) w.2));
  }

  pub reach_gap : (o : Option ℤ) (z : ℤ) → IsEnd seats sizes (length seats) (class_in seats b) o → IsGap o (offset_in seats b) z → IsReach seats sizes b z
  reach_gap None z h g = subst (IsReach seats sizes b) (sym g) (reach_none h)
  reach_gap (Some e) z h (inl g) = subst (IsReach seats sizes b) (sym g.1) (reach_before e h g.0)
  reach_gap (Some e) z h (inr g) = subst (IsReach seats sizes b) (sym g.1) (reach_behind e h g.0)

  -- an end stays in range
  pub end_near : (o : Option ℤ) → AreNearSeats seats → ((x : ℕ) → x < length seats → slice_index sizes x < 2 ^ 16) → IsEnd seats sizes (length seats) (class_in seats b) o → IfSome o (λ e. e ≤ℤ pos (2 ^ 126))
  end_near None near small h = tt
  end_near (Some e) near small h =
      let w = h.1 in
      let d = (near w.0 w.1.0).1 in
      let s = small w.0 w.1.0 in
      let q = w.2 in
      omega (arith, ints, d, q, s)
