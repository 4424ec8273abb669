-- A run of valid code. The invariant: a way leads to the instruction that is next, with the kinds on the stack that it says; each
-- caller's way goes on where it waits, with its part of the stack; and each calls what is less deep.
use Rattle.std.proofs.Common.{◌≡◌, cond, inl, inr, ℕ, zero, suc, ◌+◌, ◌*◌, ◌<◌, ◌≤◌, nat_le, not, Bool, true, false, List, [], ◌∷◌, length, Option, Some, None, refl, sym, ap, ◌∙◌, subst, arith, slice_get}
use Rattle.std.specs.Prelude.{ℤ, pos, negsuc, ◌+ℤ◌, int_le, is_some, ◌&&◌, ⊤}
use Rattle.std.proofs.lemmas.Bool.{true≢false, ltb-true, leb-true, and_parts}
use Rattle.std.proofs.lemmas.Option.{slice_get_within, same_Some}
use Rattle.ground.specs.declared.place.Place.{Place}
use Rattle.ground.specs.declared.value.Kind.{Kind}
use Rattle.ground.specs.declared.value.Kind.TheVariants.{Integer, Logical}
use Rattle.ground.specs.Content.{Content, Nothing, Whole, Truth}
use Rattle.f66_tree.specs.declared.editing.Way.{Way}
use Rattle.f66_tree.specs.declared.expression.Operator.{Operator}
use Rattle.f66_tree.specs.declared.expression.Operator.TheVariants as ops
use Rattle.f66_tree.specs.World.{State, World, Out, Gives, Halts, bind, Yields, Traps, settle, choose, take_from, holding}
use Rattle.f66_tree.specs.Evaluation.{operate, distance}
use Rattle.f66_tree.specs.Statements.{LoopParameters, fit_loop_in, extent, on_unit, unit_for, opened_by}
use Rattle.f66_tree.specs.Records.{closed}
use Rattle.f66_tree.proofs.Tries.{IsOfKind, TriesRightly}
use Rattle.f66_tree.proofs.EditLemmas.{opened_rightly, closed_rightly}
use Rattle.stack_code.specs.declared.shape.EntryKind.{EntryKind}
use Rattle.stack_code.specs.declared.shape.EntryKind.TheVariants.{Int, Log, Spot}
use Rattle.stack_code.specs.declared.fact.Fact.{Fact}
use Rattle.stack_code.specs.Instructions as i
use Rattle.stack_code.specs.Instructions.{Instruction}
use Rattle.stack_code.specs.StackMachine as sm
use Rattle.stack_code.specs.StackMachine.{Entry, Val, At, Caller, Core, Program, act, step, exec, next, jump, dummy, store, load, nth, target_at}
use Rattle.stack_code.specs.ValidCode.{Open, and_then, pop, pops, onto, entry_kind, effect, taken, reshaped, allows, after, ways, root, IsIn, IsReached, IsValid, is_none, is_in_range, takes}
use Rattle.stack_code.specs.Bounds.{HasBounds}
use Rattle.stack_code.specs.Safety.{IsRight, IsRightEnd, IsWithin, AllWithin, SpotsWithin, FrameWithin, CallersWithin, IsSafe, ValidIsSafe}
use Rattle.stack_code.proofs.SafeLemmas.{some_then, behind, Suits, Matches, AllWhole, int_right, log_right, spot_right, value_right, values_right, spots_right, settle_right, bind_right, IsInt, IsLog, arithmetic_right, relation_right, logic_right}
use Rattle.stack_code.proofs.SafeOps.{known_right, distance_right, element_right, extent_right, load_right, store_right}
use Rattle.stack_code.proofs.SafeRecords.{moving_right, edited_right, row_right}

only : {A : Type 0} (o : Option A) (r : A) → and_then o (λ t. Some t) ≡ Some r → o ≡ Some r
only None r e = e
only (Some a) r e = e

pops_add : (k : EntryKind) (n m q : ℕ) (shape rest : List EntryKind) → q ≡ n + m → pops k q shape ≡ Some rest → (mid : List EntryKind) × (pops k n shape ≡ Some mid) × (pops k m mid ≡ Some rest)
pops_add k zero m q shape rest e h = let e1 : q ≡ m = omega arith in (shape, refl, ap (λ x. pops k x shape) (sym e1) ∙ h)
pops_add k (suc n) m zero shape rest e h = absurd (omega arith)
pops_add k (suc n) m (suc q) shape rest e h =
    let a = some_then (pop k shape) (pops k q) rest h in
    let b = pops_add k n m q a.0 rest (omega arith) a.2 in
    (b.0, ap (λ o. and_then o (pops k n)) a.1 ∙ b.1, b.2)

take_right : (st : State) (left count : ℕ) (Q : Core → Type 0) (g : Unit {0} → World → Out Core) → ((w : World) → IsRight Q (g tt w)) → IsRight Q (bind (take_from st left count) g)
take_right st zero count Q g h = tt
take_right st (suc n) count Q g h = h _

first_way : (n : ℕ) (ns : List ℕ) → IsIn n (n ∷ ns)
first_way n ns = record { index = 0; is = refl }

second_way : (n m : ℕ) (ns : List ℕ) → IsIn n (m ∷ n ∷ ns)
second_way n m ns = record { index = 1; is = refl }

third_way : (n m k : ℕ) (ns : List ℕ) → IsIn n (m ∷ k ∷ n ∷ ns)
third_way n m k ns = record { index = 2; is = refl }

nth_right : (ts all : List ℕ) (n : ℕ) → ((t : ℕ) → IsIn t ts → IsIn t all) → TriesRightly (λ t. IsIn t all) (nth ts n)
nth_right [] all n h = tt
nth_right (t ∷ ts) all zero h = h t (first_way t ts)
nth_right (t ∷ ts) all (suc n) h = nth_right ts all n (λ x is. h x (record { index = suc is.index; is = is.is }))

target_right : (ts : List ℕ) (z : ℤ) → TriesRightly (λ t. IsIn t ts) (target_at ts (Whole z))
target_right ts (pos zero) = tt
target_right ts (pos (suc n)) = nth_right ts ts n (λ t is. is)
target_right ts (negsuc n) = tt

unit_by : (b : Bool) → TriesRightly (λ (x : Unit {0}). Unit {0}) (cond b (Yields tt) (Traps Rattle.ground.specs.declared.trap.Trap.TheVariants.BadUnit))
unit_by true = tt
unit_by false = tt

unit_right : (way : Way) (z : ℤ) → TriesRightly (λ (x : Unit {0}). Unit {0}) (on_unit way (Whole z))
unit_right way z = unit_by (int_le z (unit_for way) && int_le (unit_for way) z)

fit_by : (b : Bool) (k : LoopParameters) → TriesRightly (λ (x : LoopParameters). Unit {0}) (cond b (Yields k) (Traps Rattle.ground.specs.declared.trap.Trap.TheVariants.BadDo))
fit_by true k = tt
fit_by false k = tt

fit_right : (a b d : ℤ) → TriesRightly (λ (x : LoopParameters). Unit {0}) (fit_loop_in (Whole a) (Whole b) (Whole d))
fit_right a b d = fit_by (int_le (pos 1) a && int_le a b && int_le (pos 1) d) (record { limit = b; step = d })

plan_some : {A : Type 0} (xs : List A) (n : ℕ) → n < length xs → is_some (slice_get xs n) ≡ true
plan_some [] n lt = absurd (omega arith)
plan_some (x ∷ xs) zero lt = refl
plan_some (x ∷ xs) (suc n) lt = plan_some xs n (omega arith)

module _ (c : Program) (units top wide deep : ℕ) (v : IsValid c.code (length c.plans) units) (b : HasBounds c.code top wide deep) where
  abbrev depth : ℕ → ℕ
  depth = b.depth.depth

  -- the callers of an entry, with what lies below its part of the stack
  abbrev Under : List Caller → List Entry → ℕ → Type 0
  Under [] below e = (below ≡ []) × (e ≡ 0)
  Under (k ∷ ks) below e =
      (caller : ℕ) × (n : ℕ) × (f : Fact) × (lower : List Entry) × IsReached c.code caller n k.back f × Matches units below f.shape lower × SpotsWithin units k.frame.spots × (length k.frame.spots ≡ f.count) × (depth e < depth caller) × Under ks lower caller

  record Sound (s : Core) : Type 0 where
    entry : ℕ
    steps : ℕ
    fact : Fact
    below : List Entry
    reached : IsReached c.code entry steps s.pc fact
    stack : Matches units s.stack fact.shape below
    spots : SpotsWithin units s.frame.spots
    count : length s.frame.spots ≡ fact.count
    under : Under s.callers below entry

  -- ---- one instruction ----

  module _ (s : Core) (h : Sound s) (instruction : Instruction) (stands : slice_get c.code s.pc ≡ Some instruction) (open1 : Open) (rest : List EntryKind) (allowed : allows instruction h.fact ≡ true) (took : taken (effect instruction) h.fact.shape ≡ Some rest) (gives : after instruction h.fact ≡ Some (reshaped h.fact (effect instruction).gives open1 rest)) where
    ranges : is_in_range c.code (length c.plans) units s.pc instruction ≡ true
    ranges = v.ranges s.pc instruction stands

    -- where one goes on within the entry
    abbrev goes : (q : ℕ) (st : List Entry) (place : Place) → IsIn q (ways instruction s.pc) → Matches units st (onto (effect instruction).gives rest) h.below → Sound (record { pc = q; stack = st; frame = record { place = place; spots = s.frame.spots }; callers = s.callers })
    goes q st place way m =
        record { entry = h.entry; steps = suc h.steps; fact = reshaped h.fact (effect instruction).gives open1 rest; below = h.below; reached = (s.pc, h.fact, h.reached, record { instruction = instruction; stands = stands; gives = gives; goes = way }); stack = m; spots = h.spots; count = h.count; under = h.under }

  dummy_right : (n : ℕ) (ps : List sm.Spot) → SpotsWithin units ps → n < length ps → TriesRightly (IsWithin units) (dummy n ps)
  dummy_right n [] all lt = absurd (omega arith)
  dummy_right zero (p ∷ ps) all lt = all.0
  dummy_right (suc n) (p ∷ ps) all lt = dummy_right n ps all.1 (omega arith)

  kind_suits : (k : Kind) (a : Content) → IsOfKind k a → Suits units (Val a) (entry_kind k)
  kind_suits Integer (Whole z) h = tt
  kind_suits Integer (Truth x) h = absurd h
  kind_suits Integer Nothing h = absurd h
  kind_suits Logical (Truth x) h = tt
  kind_suits Logical (Whole z) h = absurd h
  kind_suits Logical Nothing h = absurd h

  int_suits : (a : Content) → IsInt a → Suits units (Val a) Int
  int_suits (Whole z) h = tt
  int_suits (Truth x) h = absurd h
  int_suits Nothing h = absurd h

  log_suits : (a : Content) → IsLog a → Suits units (Val a) Log
  log_suits (Truth x) h = tt
  log_suits (Whole z) h = absurd h
  log_suits Nothing h = absurd h

  as_rest : (st : List Entry) (a r : List EntryKind) (below : List Entry) → Prim.Path (Option (List EntryKind)) (Some a) (Some r) → Matches units st a below → Matches units st r below
  as_rest st a r below e m = subst (λ ks. Matches units st ks below) (same_Some _ _ e) m

  two_ints : (s : Core) (w : World) (op : Operator) (shape r : List EntryKind) (below : List Entry) (R : Content → Type 0) → Matches units s.stack shape below → pops Int 2 shape ≡ Some r → ((x y : ℤ) → TriesRightly R (operate op (Whole x) (Whole y))) → ((z : Content) (st : List Entry) → R z → Matches units st r below → Sound (next s (Val z ∷ st))) → IsRight Sound (sm.on_value w s.stack (λ y rest. sm.on_value w rest (λ x under. sm.pushed s under w (operate op x y))))
  two_ints s w op shape r below R m e try go =
      int_right units below Sound w 1 shape r s.stack _ m e (λ y st1 js m1 e1. int_right units below Sound w 0 js r st1 _ m1 e1 (λ x st2 ks m2 e2. settle_right R Sound s.frame.place (operate op (Whole x) (Whole y)) w _ (try x y) (λ z hz. go z st2 hz (as_rest st2 ks r below e2 m2))))

  two_logs : (s : Core) (w : World) (op : Operator) (shape r : List EntryKind) (below : List Entry) → Matches units s.stack shape below → pops Log 2 shape ≡ Some r → ((x y : Bool) → TriesRightly IsLog (operate op (Truth x) (Truth y))) → ((z : Content) (st : List Entry) → IsLog z → Matches units st r below → Sound (next s (Val z ∷ st))) → IsRight Sound (sm.on_value w s.stack (λ y rest. sm.on_value w rest (λ x under. sm.pushed s under w (operate op x y))))
  two_logs s w op shape r below m e try go =
      log_right units below Sound w 1 shape r s.stack _ m e (λ y st1 js m1 e1. log_right units below Sound w 0 js r st1 _ m1 e1 (λ x st2 ks m2 e2. settle_right IsLog Sound s.frame.place (operate op (Truth x) (Truth y)) w _ (try x y) (λ z hz. go z st2 hz (as_rest st2 ks r below e2 m2))))

  chosen_right : (t : Bool) (x y : Core) (w : World) → Sound x → Sound y → IsRight Sound (choose t (Gives x w) (Gives y w))
  chosen_right true x y w h k = h
  chosen_right false x y w h k = k

  sign_right : (s : Core) (a d e : ℕ) (st : List Entry) (w : World) (z : ℤ) → Sound (jump s a st) → Sound (jump s d st) → Sound (jump s e st) → IsRight Sound (sm.jump_sign s a d e st w (Whole z))
  sign_right s a d e st w (negsuc n) x y z = x
  sign_right s a d e st w (pos zero) x y z = y
  sign_right s a d e st w (pos (suc n)) x y z = z

  start_right : (s : Core) (limit step1 : ℕ) (p : sm.Spot) (st : List Entry) (w : World) (vs : List Content) → AllWhole units vs → length vs ≡ 3 → Sound (next s st) → IsRight Sound (sm.loop_start s limit step1 p st w vs)
  start_right s limit step1 p st w [] all e h = absurd (omega arith)
  start_right s limit step1 p st w (Whole a ∷ []) all e h = absurd (omega arith)
  start_right s limit step1 p st w (Whole a ∷ (Whole d ∷ [])) all e h = absurd (omega arith)
  start_right s limit step1 p st w (Whole a ∷ (Whole d ∷ (Whole f ∷ []))) all e h =
      settle_right (λ _. Unit {0}) Sound s.frame.place (fit_loop_in (Whole a) (Whole d) (Whole f)) w _ (fit_right a d f) (λ k hk. settle_right (λ _. Unit {0}) Sound s.frame.place (store p (Whole a) w.state.store) w _ (store_right p (Whole a) w.state.store) (λ x hx. h))
  start_right s limit step1 p st w (Whole a ∷ (Whole d ∷ (Whole f ∷ (x ∷ vs)))) all e h = absurd (omega arith)
  start_right s limit step1 p st w (Truth t ∷ vs) all e h = absurd all
  start_right s limit step1 p st w (Nothing ∷ vs) all e h = absurd all
  start_right s limit step1 p st w (Whole a ∷ (Truth t ∷ vs)) all e h = absurd all
  start_right s limit step1 p st w (Whole a ∷ (Nothing ∷ vs)) all e h = absurd all
  start_right s limit step1 p st w (Whole a ∷ (Whole d ∷ (Truth t ∷ vs))) all e h = absurd all
  start_right s limit step1 p st w (Whole a ∷ (Whole d ∷ (Nothing ∷ vs))) all e h = absurd all

  turn_by : (t : Bool) (s : Core) (to : ℕ) (p : sm.Spot) (st : List Entry) (w : World) (z : ℤ) → Sound (jump s to st) → Sound (next s st) → IsRight Sound (cond t (bind (settle s.frame.place (store p (Whole z) w.state.store) w) (λ x w1. Gives (jump s to st) (holding x w1))) (sm.changed s st w (store p Nothing w.state.store)))
  turn_by true s to p st w z h k = settle_right (λ _. Unit {0}) Sound s.frame.place (store p (Whole z) w.state.store) w _ (store_right p (Whole z) w.state.store) (λ x hx. h)
  turn_by false s to p st w z h k = settle_right (λ _. Unit {0}) Sound s.frame.place (store p Nothing w.state.store) w _ (store_right p Nothing w.state.store) (λ x hx. k)

  turn_right : (s : Core) (to : ℕ) (p : sm.Spot) (st : List Entry) (w : World) (k : LoopParameters) (a : Content) → IsInt a → Sound (jump s to st) → Sound (next s st) → IsRight Sound (sm.loop_turn s to p st w k a)
  turn_right s to p st w k (Whole z) hz h n = turn_by (int_le (z +ℤ k.step) k.limit) s to p st w (z +ℤ k.step) h n
  turn_right s to p st w k (Truth t) hz h n = absurd hz
  turn_right s to p st w k Nothing hz h n = absurd hz

  halt_right : (n : Option ℕ) → IsRightEnd (sm.stopped n)
  halt_right None = tt
  halt_right (Some n) = tt

  pop_empty : (st : List Entry) (ks : List EntryKind) (below : List Entry) → is_none ks ≡ true → Matches units st ks below → st ≡ below
  pop_empty st [] below e m = m
  pop_empty st (k ∷ ks) below e m = absurd (true≢false (sym e))

  back_right : (s : Core) (below : List Entry) (e : ℕ) (w : World) (ks : List Caller) → (e ≡ 0 → ⊥) → s.stack ≡ below → Under ks below e → IsRight Sound (sm.back_to s w ks)
  back_right s below e w [] ne same u = absurd (ne u.1)
  back_right s below e w (k ∷ ks) ne same u =
      record { entry = u.0; steps = u.1; fact = u.2; below = u.3; reached = u.4; stack = subst (λ st. Matches units st u.2.shape u.3) (sym same) u.5; spots = u.6; count = u.7; under = u.9 }

  -- the main's ways lead to no Return
  not_main : (s : Core) (h : Sound s) → slice_get c.code s.pc ≡ Some i.Return → h.entry ≡ 0 → ⊥
  not_main s h stands e = v.returns h.steps s.pc h.fact (subst (λ n. IsReached c.code n h.steps s.pc h.fact) e h.reached) stands

  act_right : (s : Core) (h : Sound s) (instruction : Instruction) (w : World) (stands : slice_get c.code s.pc ≡ Some instruction) (o : Open) (r : List EntryKind) (al : allows instruction h.fact ≡ true) (tk : taken (effect instruction) h.fact.shape ≡ Some r) (gv : after instruction h.fact ≡ Some (reshaped h.fact (effect instruction).gives o r)) → IsRight Sound (act c.plans (Some instruction) s w)
  act_right s h (i.Begin p) w st o r al tk gv = take_right w.state w.left w.count Sound _ (λ w1. goes s h (i.Begin p) st o r al tk gv (s.pc + 1) s.stack p (first_way _ _) (as_rest s.stack _ r h.below tk h.stack))
  act_right s h i.Step w st o r al tk gv = take_right w.state w.left w.count Sound _ (λ w1. goes s h i.Step st o r al tk gv (s.pc + 1) s.stack s.frame.place (first_way _ _) (as_rest s.stack _ r h.below tk h.stack))
  act_right s h (i.Push (Whole z)) w st o r al tk gv = goes s h (i.Push (Whole z)) st o r al tk gv (s.pc + 1) (Val (Whole z) ∷ s.stack) s.frame.place (first_way _ _) (tt, as_rest s.stack _ r h.below tk h.stack)
  act_right s h (i.Push (Truth x)) w st o r al tk gv = goes s h (i.Push (Truth x)) st o r al tk gv (s.pc + 1) (Val (Truth x) ∷ s.stack) s.frame.place (first_way _ _) (tt, as_rest s.stack _ r h.below tk h.stack)
  act_right s h (i.Push Nothing) w st o r al tk gv = absurd (true≢false (sym (v.ranges s.pc (i.Push Nothing) st)))
  act_right s h (i.PushSpot a n) w st o r al tk gv =
      let ranges = and_parts (nat_le 1 n) (nat_le (a + n) units) (v.ranges s.pc (i.PushSpot a n) st) in
      let one = leb-true 1 n ranges.0 in
      goes s h (i.PushSpot a n) st o r al tk gv (s.pc + 1) (At (sm.spot a n false) ∷ s.stack) s.frame.place (first_way _ _) (record { last = leb-true (a + n) units ranges.1; place = omega arith }, as_rest s.stack _ r h.below tk h.stack)
  act_right s h (i.Dummy n) w st o r al tk gv =
      let lt = ltb-true n h.fact.count al in
      settle_right (IsWithin units) Sound s.frame.place (dummy n s.frame.spots) w _ (dummy_right n s.frame.spots h.spots (omega (arith, h.count))) (λ p hp. goes s h (i.Dummy n) st o r al tk gv (s.pc + 1) (At p ∷ s.stack) s.frame.place (first_way _ _) (hp, as_rest s.stack _ r h.below tk h.stack))
  act_right s h (i.Element n) w st o r al tk gv =
      let a = some_then (pops Int (n + n) h.fact.shape) (λ t. pops Spot 1 t) r tk in
      let m = pops_add Int n n (n + n) h.fact.shape a.0 refl a.1 in
      values_right units h.below Sound w n h.fact.shape m.0 s.stack [] _ h.stack m.1 tt (λ ds st1 hd ld m1. values_right units h.below Sound w n m.0 a.0 st1 [] _ m1 m.2 tt (λ is' st2 hi li m2. spot_right units h.below Sound w 0 a.0 r st2 _ m2 a.2 (λ p st3 js hp m3 e3. settle_right (IsWithin units) Sound s.frame.place _ w _ (element_right units (distance 1 is' ds) p hp (distance_right units 1 n is' ds hi hd (omega arith) (omega arith))) (λ q hq. goes s h (i.Element n) st o r al tk gv (s.pc + 1) (At q ∷ st3) s.frame.place (first_way _ _) (hq, as_rest st3 js r h.below e3 m3)))))
  act_right s h (i.Load k) w st o r al tk gv =
      spot_right units h.below Sound w 0 h.fact.shape r s.stack _ h.stack tk (λ p st1 js hp m1 e1. settle_right (IsOfKind k) Sound s.frame.place (load k p w.state.store) w _ (load_right k p w.state.store) (λ a ha. goes s h (i.Load k) st o r al tk gv (s.pc + 1) (Val a ∷ st1) s.frame.place (first_way _ _) (kind_suits k a ha, as_rest st1 js r h.below e1 m1)))
  act_right s h i.Store w st o r al tk gv =
      let a = some_then (Rattle.stack_code.specs.ValidCode.pop_value h.fact.shape) (λ t. pops Spot 1 t) r tk in
      value_right units h.below Sound w h.fact.shape a.0 s.stack _ h.stack a.1 (λ x st1 m1. spot_right units h.below Sound w 0 a.0 r st1 _ m1 a.2 (λ p st2 js hp m2 e2. settle_right (λ _. Unit {0}) Sound s.frame.place (store p x w.state.store) w _ (store_right p x w.state.store) (λ y hy. goes s h i.Store st o r al tk gv (s.pc + 1) st2 s.frame.place (first_way _ _) (as_rest st2 js r h.below e2 m2))))
  act_right s h i.Forget w st o r al tk gv =
      spot_right units h.below Sound w 0 h.fact.shape r s.stack _ h.stack tk (λ p st2 js hp m2 e2. settle_right (λ _. Unit {0}) Sound s.frame.place (store p Nothing w.state.store) w _ (store_right p Nothing w.state.store) (λ y hy. goes s h i.Forget st o r al tk gv (s.pc + 1) st2 s.frame.place (first_way _ _) (as_rest st2 js r h.below e2 m2)))
  act_right s h (i.Lend q) w st o r al tk gv =
      let lt = ltb-true q units (v.ranges s.pc (i.Lend q) st) in
      value_right units h.below Sound w h.fact.shape r s.stack _ h.stack (only (Rattle.stack_code.specs.ValidCode.pop_value h.fact.shape) r tk) (λ x st1 m1. goes s h (i.Lend q) st o r al tk gv (s.pc + 1) (At (sm.spot q 1 true) ∷ st1) s.frame.place (first_way _ _) (record { last = omega arith; place = omega arith }, m1))
  act_right s h (i.Both ops.Add) w st o r al tk gv = two_ints s w ops.Add h.fact.shape r h.below IsInt h.stack (only (pops Int 2 h.fact.shape) r tk) (arithmetic_right ops.Add refl refl) (λ z st1 hz m. goes s h (i.Both ops.Add) st o r al tk gv (s.pc + 1) (Val z ∷ st1) s.frame.place (first_way _ _) (int_suits z hz, m))
  act_right s h (i.Both ops.Sub) w st o r al tk gv = two_ints s w ops.Sub h.fact.shape r h.below IsInt h.stack (only (pops Int 2 h.fact.shape) r tk) (arithmetic_right ops.Sub refl refl) (λ z st1 hz m. goes s h (i.Both ops.Sub) st o r al tk gv (s.pc + 1) (Val z ∷ st1) s.frame.place (first_way _ _) (int_suits z hz, m))
  act_right s h (i.Both ops.Mul) w st o r al tk gv = two_ints s w ops.Mul h.fact.shape r h.below IsInt h.stack (only (pops Int 2 h.fact.shape) r tk) (arithmetic_right ops.Mul refl refl) (λ z st1 hz m. goes s h (i.Both ops.Mul) st o r al tk gv (s.pc + 1) (Val z ∷ st1) s.frame.place (first_way _ _) (int_suits z hz, m))
  act_right s h (i.Both ops.Div) w st o r al tk gv = two_ints s w ops.Div h.fact.shape r h.below IsInt h.stack (only (pops Int 2 h.fact.shape) r tk) (arithmetic_right ops.Div refl refl) (λ z st1 hz m. goes s h (i.Both ops.Div) st o r al tk gv (s.pc + 1) (Val z ∷ st1) s.frame.place (first_way _ _) (int_suits z hz, m))
  act_right s h (i.Both ops.Power) w st o r al tk gv = two_ints s w ops.Power h.fact.shape r h.below IsInt h.stack (only (pops Int 2 h.fact.shape) r tk) (arithmetic_right ops.Power refl refl) (λ z st1 hz m. goes s h (i.Both ops.Power) st o r al tk gv (s.pc + 1) (Val z ∷ st1) s.frame.place (first_way _ _) (int_suits z hz, m))
  act_right s h (i.Both ops.And) w st o r al tk gv = two_logs s w ops.And h.fact.shape r h.below h.stack (only (pops Log 2 h.fact.shape) r tk) (logic_right ops.And refl) (λ z st1 hz m. goes s h (i.Both ops.And) st o r al tk gv (s.pc + 1) (Val z ∷ st1) s.frame.place (first_way _ _) (log_suits z hz, m))
  act_right s h (i.Both ops.Or) w st o r al tk gv = two_logs s w ops.Or h.fact.shape r h.below h.stack (only (pops Log 2 h.fact.shape) r tk) (logic_right ops.Or refl) (λ z st1 hz m. goes s h (i.Both ops.Or) st o r al tk gv (s.pc + 1) (Val z ∷ st1) s.frame.place (first_way _ _) (log_suits z hz, m))
  act_right s h (i.Both ops.Lt) w st o r al tk gv = absurd (true≢false (sym (v.ranges s.pc (i.Both ops.Lt) st)))
  act_right s h (i.Both ops.Le) w st o r al tk gv = absurd (true≢false (sym (v.ranges s.pc (i.Both ops.Le) st)))
  act_right s h (i.Both ops.Eq) w st o r al tk gv = absurd (true≢false (sym (v.ranges s.pc (i.Both ops.Eq) st)))
  act_right s h (i.Both ops.Ne) w st o r al tk gv = absurd (true≢false (sym (v.ranges s.pc (i.Both ops.Ne) st)))
  act_right s h (i.Both ops.Ge) w st o r al tk gv = absurd (true≢false (sym (v.ranges s.pc (i.Both ops.Ge) st)))
  act_right s h (i.Both ops.Gt) w st o r al tk gv = absurd (true≢false (sym (v.ranges s.pc (i.Both ops.Gt) st)))
  act_right s h (i.Compare op) w st o r al tk gv =
      two_ints s w op h.fact.shape r h.below IsLog h.stack (only (pops Int 2 h.fact.shape) r tk) (relation_right op (v.ranges s.pc (i.Compare op) st)) (λ z st1 hz m. goes s h (i.Compare op) st o r al tk gv (s.pc + 1) (Val z ∷ st1) s.frame.place (first_way _ _) (log_suits z hz, m))
  act_right s h i.Minus w st o r al tk gv =
      int_right units h.below Sound w 0 h.fact.shape r s.stack _ h.stack (only (pops Int 1 h.fact.shape) r tk) (λ z st1 js m1 e1. goes s h i.Minus st o r al tk gv (s.pc + 1) (Val (Whole (Rattle.std.specs.Prelude.neg_ℤ z)) ∷ st1) s.frame.place (first_way _ _) (tt, as_rest st1 js r h.below e1 m1))
  act_right s h i.Not w st o r al tk gv =
      log_right units h.below Sound w 0 h.fact.shape r s.stack _ h.stack (only (pops Log 1 h.fact.shape) r tk) (λ z st1 js m1 e1. goes s h i.Not st o r al tk gv (s.pc + 1) (Val (Truth (not z)) ∷ st1) s.frame.place (first_way _ _) (tt, as_rest st1 js r h.below e1 m1))
  act_right s h (i.Known g n) w st o r al tk gv =
      values_right units h.below Sound w n h.fact.shape r s.stack [] _ h.stack (only (pops Int n h.fact.shape) r tk) tt (λ vs st1 hv len m1.
      let count1 : length vs ≡ n = omega arith in
      settle_right IsInt Sound s.frame.place _ w _ (known_right units g vs hv (ap (takes g) count1 ∙ v.ranges s.pc (i.Known g n) st)) (λ z hz. goes s h (i.Known g n) st o r al tk gv (s.pc + 1) (Val z ∷ st1) s.frame.place (first_way _ _) (int_suits z hz, m1)))
  act_right s h (i.Jump to) w st o r al tk gv = goes s h (i.Jump to) st o r al tk gv to s.stack s.frame.place (first_way _ _) (as_rest s.stack _ r h.below tk h.stack)
  act_right s h (i.JumpFalse to) w st o r al tk gv =
      log_right units h.below Sound w 0 h.fact.shape r s.stack _ h.stack (only (pops Log 1 h.fact.shape) r tk) (λ z st1 js m1 e1. chosen_right z (next s st1) (jump s to st1) w (goes s h (i.JumpFalse to) st o r al tk gv (s.pc + 1) st1 s.frame.place (first_way _ _) (as_rest st1 js r h.below e1 m1)) (goes s h (i.JumpFalse to) st o r al tk gv to st1 s.frame.place (second_way _ _ _) (as_rest st1 js r h.below e1 m1)))
  act_right s h (i.JumpSign a d e) w st o r al tk gv =
      int_right units h.below Sound w 0 h.fact.shape r s.stack _ h.stack (only (pops Int 1 h.fact.shape) r tk) (λ z st1 js m1 e1.
      let m2 = as_rest st1 js r h.below e1 m1 in
      sign_right s a d e st1 w z (goes s h (i.JumpSign a d e) st o r al tk gv a st1 s.frame.place (first_way _ _) m2) (goes s h (i.JumpSign a d e) st o r al tk gv d st1 s.frame.place (second_way _ _ _) m2) (goes s h (i.JumpSign a d e) st o r al tk gv e st1 s.frame.place (third_way _ _ _ _) m2))
  act_right s h (i.JumpTable ts) w st o r al tk gv =
      int_right units h.below Sound w 0 h.fact.shape r s.stack _ h.stack (only (pops Int 1 h.fact.shape) r tk) (λ z st1 js m1 e1. settle_right (λ t. IsIn t ts) Sound s.frame.place (target_at ts (Whole z)) w _ (target_right ts z) (λ t ht. goes s h (i.JumpTable ts) st o r al tk gv t st1 s.frame.place ht (as_rest st1 js r h.below e1 m1)))
  act_right s h (i.LoopStart a d) w st o r al tk gv =
      let x = some_then (pops Int 3 h.fact.shape) (λ t. pops Spot 1 t) r tk in
      values_right units h.below Sound w 3 h.fact.shape x.0 s.stack [] _ h.stack x.1 tt (λ vs st1 hv len m1. spot_right units h.below Sound w 0 x.0 r st1 _ m1 x.2 (λ p st2 js hp m2 e2. start_right s a d p st2 w vs hv (omega arith) (goes s h (i.LoopStart a d) st o r al tk gv (s.pc + 1) st2 s.frame.place (first_way _ _) (as_rest st2 js r h.below e2 m2))))
  act_right s h (i.LoopTurn a d to) w st o r al tk gv =
      spot_right units h.below Sound w 0 h.fact.shape r s.stack _ h.stack tk (λ p st2 js hp m2 e2.
      let m3 = as_rest st2 js r h.below e2 m2 in
      settle_right (IsOfKind Integer) Sound s.frame.place (load Integer p w.state.store) w _ (load_right Integer p w.state.store) (λ x hx. turn_right s to p st2 w _ x hx (goes s h (i.LoopTurn a d to) st o r al tk gv to st2 s.frame.place (second_way _ _ _) m3) (goes s h (i.LoopTurn a d to) st o r al tk gv (s.pc + 1) st2 s.frame.place (first_way _ _) m3)))
  act_right s h (i.Call to n) w st o r al tk gv =
      spots_right units h.below Sound w n h.fact.shape r s.stack [] _ h.stack tk tt (λ ps st1 hp len m1.
      let after1 = goes s h (i.Call to n) st o r al tk gv (s.pc + 1) st1 s.frame.place (first_way _ _) m1 in
      record { entry = to; steps = 0; fact = root n; below = st1; reached = record { count = n; entry_is = inr (record { at = s.pc; calls = st }); here = refl; is = refl }; stack = refl; spots = hp; count = omega arith; under = (h.entry, after1.steps, after1.fact, h.below, after1.reached, m1, h.spots, h.count, b.depth.depths.falls h.entry h.steps s.pc h.fact to n h.reached st, h.under) })
  act_right s h i.Return w st o r al tk gv =
      back_right s h.below h.entry w s.callers (not_main s h st) (pop_empty s.stack h.fact.shape h.below al h.stack) h.under
  act_right s h (i.Start way n) w st o r al tk gv =
      let lt = ltb-true n (length c.plans) (v.ranges s.pc (i.Start way n) st) in
      int_right units h.below Sound w 0 h.fact.shape r s.stack _ h.stack (only (pops Int 1 h.fact.shape) r tk) (λ z st1 js m1 e1. settle_right (λ _. Unit {0}) Sound s.frame.place (on_unit way (Whole z)) w _ (unit_right way z) (λ x hx. moving_right (λ _. ⊤) Sound s.frame.place (opened_by way (slice_get c.plans n) w.state.tape) w _ (opened_rightly way (slice_get c.plans n) (plan_some c.plans n lt) w.state.tape) (λ t ht. goes s h (i.Start way n) st o r al tk gv (s.pc + 1) st1 s.frame.place (first_way _ _) (as_rest st1 js r h.below e1 m1))))
  act_right s h (i.Item way k) w st o r al tk gv =
      spot_right units h.below Sound w 0 h.fact.shape r s.stack _ h.stack tk (λ p st2 js hp m2 e2. bind_right (λ _. Unit {0}) Sound (sm.edited s.frame.place way k p w) _ (edited_right s.frame.place way k p w) (λ x w2 hx. goes s h (i.Item way k) st o r al tk gv (s.pc + 1) st2 s.frame.place (first_way _ _) (as_rest st2 js r h.below e2 m2)))
  act_right s h (i.Row way k n) w st o r al tk gv =
      let x = some_then (pops Int n h.fact.shape) (λ t. pops Spot 1 t) r tk in
      values_right units h.below Sound w n h.fact.shape x.0 s.stack [] _ h.stack x.1 tt (λ ds st1 hd len m1. spot_right units h.below Sound w 0 x.0 r st1 _ m1 x.2 (λ p st2 js hp m2 e2. settle_right (λ _. Unit {0}) Sound s.frame.place (extent ds) w _ (extent_right units ds hd) (λ m hm. bind_right (λ _. Unit {0}) Sound (sm.row s.frame.place way k p m 0 w) _ (row_right units s.frame.place way k p hp m 0 w) (λ y w2 hy. goes s h (i.Row way k n) st o r al tk gv (s.pc + 1) st2 s.frame.place (first_way _ _) (as_rest st2 js r h.below e2 m2)))))
  act_right s h i.Finish w st o r al tk gv = moving_right (λ _. ⊤) Sound s.frame.place (closed w.state.tape) w _ (closed_rightly w.state.tape) (λ t ht. goes s h i.Finish st o r al tk gv (s.pc + 1) s.stack s.frame.place (first_way _ _) (as_rest s.stack _ r h.below tk h.stack))
  act_right s h (i.Halt n) w st o r al tk gv = halt_right n

  step_right : (s : Core) → Sound s → (w : World) → IsRight Sound (step c s w)
  step_right s h w =
      let found = v.finds h.entry h.steps s.pc h.fact h.reached in
      let bh = behind found.instruction h.fact found.behind found.gives in
      subst (λ o. IsRight Sound (act c.plans o s w)) (sym found.stands) (act_right s h found.instruction w found.stands bh.open1 bh.rest bh.allowed bh.took (found.gives ∙ ap Some (sym bh.is)))

  exec_right : (n : ℕ) (s : Core) → Sound s → (w : World) → IsRight Sound (exec c n s w)
  exec_right zero s h w = h
  exec_right (suc n) s h w = bind_right Sound Sound (step c s w) (exec c n) (step_right s h w) (λ t w1 ht. exec_right n t ht w1)

  -- ---- within bounds ----

  within_stack : (st : List Entry) (ks : List EntryKind) (below : List Entry) → Matches units st ks below → AllWithin units below → AllWithin units st
  within_stack st [] below m all = subst (AllWithin units) (sym m) all
  within_stack [] (k ∷ ks) below m all = absurd m
  within_stack (Val a ∷ st) (k ∷ ks) below m all = (tt, within_stack st ks below m.1 all)
  within_stack (At p ∷ st) (Spot ∷ ks) below m all = (m.0, within_stack st ks below m.1 all)
  within_stack (At p ∷ st) (Int ∷ ks) below m all = absurd m.0
  within_stack (At p ∷ st) (Log ∷ ks) below m all = absurd m.0

  within_under : (ks : List Caller) (below : List Entry) (e : ℕ) → Under ks below e → AllWithin units below
  within_under [] below e u = subst (AllWithin units) (sym u.0) tt
  within_under (k ∷ ks) below e u = within_stack below u.2.shape u.3 u.5 (within_under ks u.3 u.0 u.9)

  long_stack : (st : List Entry) (ks : List EntryKind) (below : List Entry) → Matches units st ks below → length st ≡ length ks + length below
  long_stack st [] below m = let e = ap length m in omega arith
  long_stack [] (k ∷ ks) below m = absurd m
  long_stack (x ∷ st) (k ∷ ks) below m = let ih = long_stack st ks below m.1 in omega arith

  long_under : (ks : List Caller) (below : List Entry) (e : ℕ) → Under ks below e → length below ≤ length ks * top
  long_under [] below e u = let x = ap length u.0 in omega arith
  long_under (k ∷ ks) below e u =
      let x = long_stack below u.2.shape u.3 u.5 in
      let y = long_under ks u.3 u.0 u.9 in
      let z = b.stack u.0 u.1 k.back u.2 u.4 in
      omega arith

  deep_under : (ks : List Caller) (below : List Entry) (e : ℕ) → Under ks below e → length ks + depth e ≤ deep
  deep_under [] below e u = let x = ap depth u.1 in let y = b.depth.main in omega arith
  deep_under (k ∷ ks) below e u = let x = deep_under ks u.3 u.0 u.9 in let y = u.8 in omega arith

  frame_within : (n k pc : ℕ) (f : Fact) → IsReached c.code n k pc f → (frame : sm.Frame) → SpotsWithin units frame.spots → length frame.spots ≡ f.count → FrameWithin units wide frame
  frame_within n k pc f reached frame spots count = let z = b.dummies n k pc f reached in record { spots = spots; few = omega arith }

  callers_within : (ks : List Caller) (below : List Entry) (e : ℕ) → Under ks below e → CallersWithin units wide ks
  callers_within [] below e u = tt
  callers_within (k ∷ ks) below e u = (frame_within u.0 u.1 k.back u.2 u.4 k.frame u.6 u.7, callers_within ks u.3 u.0 u.9)

  dummy_there : (s : Core) → Sound s → (n : ℕ) → slice_get c.code s.pc ≡ Some (i.Dummy n) → n < length s.frame.spots
  dummy_there s h n stands =
      let found = v.finds h.entry h.steps s.pc h.fact h.reached in
      let bh = behind found.instruction h.fact found.behind found.gives in
      let count = h.count in
      let lt = ltb-true n h.fact.count (subst (λ x. allows x h.fact ≡ true) (same_Some _ _ (sym found.stands ∙ stands)) bh.allowed) in
      omega arith

  safe : (s : Core) → Sound s → IsSafe c units top wide deep s
  safe s h =
      let found = v.finds h.entry h.steps s.pc h.fact h.reached in
      let x = long_stack s.stack h.fact.shape h.below h.stack in
      let y = long_under s.callers h.below h.entry h.under in
      let z = b.stack h.entry h.steps s.pc h.fact h.reached in
      let d = deep_under s.callers h.below h.entry h.under in
      record { there = slice_get_within c.code s.pc found.instruction found.stands; spots = within_stack s.stack h.fact.shape h.below h.stack (within_under s.callers h.below h.entry h.under); stack = omega arith; callers = omega arith; frame = frame_within h.entry h.steps s.pc h.fact h.reached s.frame h.spots h.count; waiting = callers_within s.callers h.below h.entry h.under; finds = dummy_there s h }

  safe_out : (o : Out Core) → IsRight Sound o → IsRight (IsSafe c units top wide deep) o
  safe_out (Gives s w) h = safe s h
  safe_out (Halts e w) h = h

  begins : Sound sm.start
  begins = record { entry = 0; steps = 0; fact = root 0; below = []; reached = record { count = 0; entry_is = inl (refl, refl); here = refl; is = refl }; stack = refl; spots = tt; count = refl; under = (refl, refl) }

pub valid_is_safe : ValidIsSafe
valid_is_safe c units top wide deep v b input n count = safe_out c units top wide deep v b (exec c count sm.start (sm.first_world input n)) (exec_right c units top wide deep v b count sm.start (begins c units top wide deep v b) (sm.first_world input n))
