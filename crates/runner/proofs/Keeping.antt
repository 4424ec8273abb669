-- The machine keeps the records that are written.
use Rattle.std.proofs.Common.{◌≡◌, ℕ, zero, suc, ◌+◌, ◌-◌, Bool, true, false, List, [], ◌∷◌, Option, Some, None, refl, sym, ap, ◌∙◌, subst, arith, nat_le}
use Rattle.std.specs.Prelude.{pos, negsuc, int_le, ◌+ℤ◌, if◌then◌else◌, slice_get}
use Rattle.ground.specs.declared.place.Place.{Place}
use Rattle.ground.specs.declared.value.Kind.{Kind}
use Rattle.ground.specs.declared.value.Kind.TheVariants.{Integer}
use Rattle.ground.specs.Content.{Content, Nothing, Whole, Truth}
use Rattle.f66_tree.specs.declared.editing.Way.{Way}
use Rattle.f66_tree.specs.declared.editing.Way.TheVariants.{Reading, Writing}
use Rattle.f66_tree.specs.Fields.{Fields}
use Rattle.f66_tree.specs.FirstLaws.{Keeps}
use Rattle.f66_tree.specs.World.{Record, Tape, Store, World, Out, Gives, Halts, bind, Try, Yields, Traps, Fails, Move, Moves, Breaks, Misses, AfterMove, IfYields, IsPrefix, settle, moving, choose, State, take_from, holding, taping, Shown}
use Rattle.f66_tree.specs.Statements.{LoopParameters, fit_loop_in, on_unit, opened_by, extent}
use Rattle.f66_tree.specs.Records.{due, put, take, closed}
use Rattle.f66_tree.specs.Evaluation.{truth_in}
use Rattle.f66_tree.proofs.Prefixes.{prefix_self, prefix_in}
use Rattle.f66_tree.proofs.EditingLemmas.{records_stay}
use Rattle.stack_code.specs.Instructions as i
use Rattle.stack_code.specs.Instructions.{Instruction}
use Rattle.stack_code.specs.StackMachine.{Spot, Entry, Val, At, Caller, Core, Program, on_value, on_spot, take_values, take_spots, load, store, shift, pushed, pushed_spot, changed, loop_start, loop_turn, loop_in, jump_sign, target_at, back_to, jump, transfer, edited, row, act, step, exec, start, first_world, Runs}
use Rattle.std.proofs.lemmas.Bool.{true≢false, leb-true, leb-false}
use Rattle.runner.specs.Recording.{HasWritten}
use Rattle.runner.proofs.Live.{exec_more}

-- what the world has written is there behind
abbrev pub Stays : {A : Type 0} → World → Out A → Type 0
Stays w (Gives a w1) = IsPrefix w.state.tape.written w1.state.tape.written
Stays w (Halts e w1) = IsPrefix w.state.tape.written w1.state.tape.written

stays_in : {A : Type 0} (w w1 : World) (o : Out A) → IsPrefix w.state.tape.written w1.state.tape.written → Stays w1 o → Stays w o
stays_in w w1 (Gives a v) p h = prefix_in p h
stays_in w w1 (Halts e v) p h = prefix_in p h

stays_bind : {A B : Type 0} (w : World) (o : Out A) (go : A → World → Out B) → Stays w o → ((a : A) (w1 : World) → Stays w1 (go a w1)) → Stays w (bind o go)
stays_bind w (Gives a w1) go h f = stays_in w w1 (go a w1) h (f a w1)
stays_bind w (Halts e w1) go h f = h

same : (w : World) → IsPrefix w.state.tape.written w.state.tape.written
same w = prefix_self w.state.tape.written

settled : {A : Type 0} (p : Place) (t : Try A) (w : World) → Stays w (settle p t w)
settled p (Yields a) w = same w
settled p (Traps e) w = same w
settled p Fails w = same w

moved : (p : Place) (w : World) (m : Move) → AfterMove (Keeps w.state.tape) m → Stays w (moving p m w)
moved p w (Moves t) h = h
moved p w (Breaks e t) h = h
moved p w Misses h = same w

module _ (w : World) where
  value_stays : (es : List Entry) (f : Content → List Entry → Out Core) → ((v : Content) (rest : List Entry) → Stays w (f v rest)) → Stays w (on_value w es f)
  value_stays [] f h = same w
  value_stays (At p ∷ es) f h = same w
  value_stays (Val v ∷ es) f h = h v es

  spot_stays : (es : List Entry) (f : Spot → List Entry → Out Core) → ((p : Spot) (rest : List Entry) → Stays w (f p rest)) → Stays w (on_spot w es f)
  spot_stays [] f h = same w
  spot_stays (Val v ∷ es) f h = same w
  spot_stays (At p ∷ es) f h = h p es

  values_stay : (n : ℕ) (es : List Entry) (got : List Content) (f : List Content → List Entry → Out Core) → ((vs : List Content) (rest : List Entry) → Stays w (f vs rest)) → Stays w (take_values w n es got f)
  values_stay zero es got f h = h got es
  values_stay (suc n) [] got f h = same w
  values_stay (suc n) (At p ∷ es) got f h = same w
  values_stay (suc n) (Val v ∷ es) got f h = values_stay n es (v ∷ got) f h

  spots_stay : (n : ℕ) (es : List Entry) (got : List Spot) (f : List Spot → List Entry → Out Core) → ((ps : List Spot) (rest : List Entry) → Stays w (f ps rest)) → Stays w (take_spots w n es got f)
  spots_stay zero es got f h = h got es
  spots_stay (suc n) [] got f h = same w
  spots_stay (suc n) (Val v ∷ es) got f h = same w
  spots_stay (suc n) (At p ∷ es) got f h = spots_stay n es (p ∷ got) f h

  pushed_stays : (s : Core) (rest : List Entry) (t : Try Content) → Stays w (pushed s rest w t)
  pushed_stays s rest t = stays_bind w _ _ (settled s.frame.place t w) (λ v w1. same w1)

  pushed_spot_stays : (s : Core) (rest : List Entry) (t : Try Spot) → Stays w (pushed_spot s rest w t)
  pushed_spot_stays s rest t = stays_bind w _ _ (settled s.frame.place t w) (λ p w1. same w1)

  changed_stays : (s : Core) (rest : List Entry) (t : Try Store) → Stays w (changed s rest w t)
  changed_stays s rest t = stays_bind w _ _ (settled s.frame.place t w) (λ st w1. same w1)

  start_stays : (s : Core) (limit step1 : ℕ) (p : Spot) (rest : List Entry) (vs : List Content) → Stays w (loop_start s limit step1 p rest w vs)
  start_stays s limit step1 p rest [] = same w
  start_stays s limit step1 p rest (a ∷ []) = same w
  start_stays s limit step1 p rest (a ∷ b ∷ []) = same w
  start_stays s limit step1 p rest (a ∷ b ∷ c ∷ []) = stays_bind w _ _ (settled s.frame.place (fit_loop_in a b c) w) (λ k w1. stays_bind w1 _ _ (settled s.frame.place (store p a w1.state.store) w1) (λ st w2. same w2))
  start_stays s limit step1 p rest (a ∷ b ∷ c ∷ d ∷ vs) = same w

  turn_stays : (s : Core) (to : ℕ) (p : Spot) (rest : List Entry) (k : LoopParameters) (v : Content) → Stays w (loop_turn s to p rest w k v)
  turn_stays s to p rest k Nothing = same w
  turn_stays s to p rest k (Truth b) = same w
  turn_stays s to p rest k (Whole z) = elim (int_le (z +ℤ k.step) k.limit) as (λ b. Stays w (if b then bind (settle s.frame.place (store p (Whole (z +ℤ k.step)) w.state.store) w) (λ st w1. Gives (jump s to rest) (holding st w1)) else changed s rest w (store p Nothing w.state.store))) [ true ↦ stays_bind w _ _ (settled s.frame.place (store p (Whole (z +ℤ k.step)) w.state.store) w) (λ st w1. same w1) | false ↦ changed_stays s rest (store p Nothing w.state.store) ]

  sign_stays : (s : Core) (a b c : ℕ) (rest : List Entry) (v : Content) → Stays w (jump_sign s a b c rest w v)
  sign_stays s a b c rest Nothing = same w
  sign_stays s a b c rest (Truth t) = same w
  sign_stays s a b c rest (Whole (negsuc z)) = same w
  sign_stays s a b c rest (Whole (pos zero)) = same w
  sign_stays s a b c rest (Whole (pos (suc z))) = same w

  chosen_stays : (b : Bool) (x y : Core) → Stays w (choose b (Gives x w) (Gives y w))
  chosen_stays true x y = same w
  chosen_stays false x y = same w

  back_stays : (s : Core) (cs : List Caller) → Stays w (back_to s w cs)
  back_stays s [] = same w
  back_stays s (c ∷ cs) = same w

  take_stays : (st : State) (n c : ℕ) → st ≡ w.state → Stays w (take_from st n c)
  take_stays st zero c e = subst (λ x. IsPrefix w.state.tape.written x.tape.written) (sym e) (same w)
  take_stays st (suc n) c e = subst (λ x. IsPrefix w.state.tape.written x.tape.written) (sym e) (same w)

taken_stays : (w : World) (o : Try (Content × Tape)) (p : Place) → IfYields (λ x. Keeps w.state.tape x.1) o → Stays w (bind (settle p o w) (λ r w1. Gives r.0 (taping r.1 w1)))
taken_stays w (Yields x) p h = h
taken_stays w (Traps e) p h = same w
taken_stays w Fails p h = same w

pub transfer_stays : (p : Place) (way : Way) (k : Kind) (q : Spot) (w : World) → Stays w (transfer p way k q w)
transfer_stays p Reading k q w = stays_bind w _ _ (taken_stays w (take w.state.tape) p (records_stay.takes w.state.tape)) (λ c w1. stays_bind w1 _ _ (settled p (store q c w1.state.store) w1) (λ st w2. same w2))
transfer_stays p Writing k q w = stays_bind w _ _ (settled p (load k q w.state.store) w) (λ c w1. moved p w1 (put c w1.state.tape) (records_stay.puts c w1.state.tape))

edited_stays : (p : Place) (way : Way) (k : Kind) (q : Spot) (w : World) → Stays w (edited p way k q w)
edited_stays p way k q w = stays_bind w _ _ (moved p w (due k w.state.tape) (records_stay.dues k w.state.tape)) (λ _ w1. transfer_stays p way k q w1)

pub row_stays : (p : Place) (way : Way) (k : Kind) (q : Spot) (n at : ℕ) (w : World) → Stays w (row p way k q n at w)
row_stays p way k q zero at w = same w
row_stays p way k q (suc n) at w = stays_bind w _ _ (settled p (shift q at) w) (λ r w1. stays_bind w1 _ _ (edited_stays p way k r w1) (λ _ w2. row_stays p way k q n (at + 1) w2))

opened_keeps : (way : Way) (fs : Option Fields) (t : Tape) → AfterMove (Keeps t) (opened_by way fs t)
opened_keeps way (Some fs) t = records_stay.opens way fs t
opened_keeps way None t = tt

pub act_stays : (plans : List Fields) (j : Option Instruction) (s : Core) (w : World) → Stays w (act plans j s w)
act_stays plans None s w = same w
act_stays plans (Some (i.Begin p)) s w = stays_bind w _ _ (take_stays w w.state w.left w.count refl) (λ _ w1. same w1)
act_stays plans (Some i.Step) s w = stays_bind w _ _ (take_stays w w.state w.left w.count refl) (λ _ w1. same w1)
act_stays plans (Some (i.Push v)) s w = same w
act_stays plans (Some (i.PushSpot first size)) s w = same w
act_stays plans (Some (i.Dummy n)) s w = pushed_spot_stays w s s.stack _
act_stays plans (Some (i.Element n)) s w = values_stay w n s.stack [] _ (λ ds rest. values_stay w n rest [] _ (λ is' below. spot_stays w below _ (λ p under. pushed_spot_stays w s under _)))
act_stays plans (Some (i.Load k)) s w = spot_stays w s.stack _ (λ p rest. pushed_stays w s rest _)
act_stays plans (Some i.Store) s w = value_stays w s.stack _ (λ v rest. spot_stays w rest _ (λ p below. changed_stays w s below _))
act_stays plans (Some i.Forget) s w = spot_stays w s.stack _ (λ p rest. changed_stays w s rest _)
act_stays plans (Some (i.Lend q)) s w = value_stays w s.stack _ (λ v rest. same w)
act_stays plans (Some (i.Both op)) s w = value_stays w s.stack _ (λ b rest. value_stays w rest _ (λ a below. pushed_stays w s below _))
act_stays plans (Some (i.Compare op)) s w = value_stays w s.stack _ (λ b rest. value_stays w rest _ (λ a below. pushed_stays w s below _))
act_stays plans (Some i.Minus) s w = value_stays w s.stack _ (λ a rest. pushed_stays w s rest _)
act_stays plans (Some i.Not) s w = value_stays w s.stack _ (λ a rest. pushed_stays w s rest _)
act_stays plans (Some (i.Known g n)) s w = values_stay w n s.stack [] _ (λ vs rest. pushed_stays w s rest _)
act_stays plans (Some (i.Jump to)) s w = same w
act_stays plans (Some (i.JumpFalse to)) s w = value_stays w s.stack _ (λ v rest. stays_bind w _ _ (settled s.frame.place (truth_in v) w) (λ b w1. chosen_stays w1 b _ _))
act_stays plans (Some (i.JumpSign a b c)) s w = value_stays w s.stack _ (λ v rest. sign_stays w s a b c rest v)
act_stays plans (Some (i.JumpTable ts)) s w = value_stays w s.stack _ (λ v rest. stays_bind w _ _ (settled s.frame.place (target_at ts v) w) (λ to w1. same w1))
act_stays plans (Some (i.LoopStart limit step1)) s w = values_stay w 3 s.stack [] _ (λ vs rest. spot_stays w rest _ (λ p below. start_stays w s limit step1 p below vs))
act_stays plans (Some (i.LoopTurn limit step1 to)) s w = spot_stays w s.stack _ (λ p rest. stays_bind w _ _ (settled s.frame.place (load Integer p w.state.store) w) (λ v w1. turn_stays w1 s to p rest (loop_in limit step1 w1.state.store) v))
act_stays plans (Some (i.Call to n)) s w = spots_stay w n s.stack [] _ (λ spots rest. same w)
act_stays plans (Some i.Return) s w = back_stays w s s.callers
act_stays plans (Some (i.Start way n)) s w = value_stays w s.stack _ (λ v rest. stays_bind w _ _ (settled s.frame.place (on_unit way v) w) (λ _ w1. stays_bind w1 _ _ (moved s.frame.place w1 (opened_by way (slice_get plans n) w1.state.tape) (opened_keeps way (slice_get plans n) w1.state.tape)) (λ _ w2. same w2)))
act_stays plans (Some (i.Item way k)) s w = spot_stays w s.stack _ (λ p rest. stays_bind w _ _ (edited_stays s.frame.place way k p w) (λ _ w1. same w1))
act_stays plans (Some (i.Row way k n)) s w = values_stay w n s.stack [] _ (λ ds rest. spot_stays w rest _ (λ p below. stays_bind w _ _ (settled s.frame.place (extent ds) w) (λ m w1. stays_bind w1 _ _ (row_stays s.frame.place way k p m 0 w1) (λ _ w2. same w2))))
act_stays plans (Some i.Finish) s w = stays_bind w _ _ (moved s.frame.place w (closed w.state.tape) (records_stay.closes w.state.tape)) (λ _ w1. same w1)
act_stays plans (Some (i.Halt n)) s w = same w

pub exec_stays : (c : Program) (n : ℕ) (s : Core) (w : World) → Stays w (exec c n s w)
exec_stays c zero s w = same w
exec_stays c (suc n) s w = stays_bind w _ _ (act_stays c.plans (slice_get c.code s.pc) s w) (λ s1 w1. exec_stays c n s1 w1)

split_by : (c : Program) (n m d : ℕ) (o : Out Core) → ((s : Core) (w : World) → exec c n s w ≡ bind (exec c m s w) (exec c d)) → bind o (exec c n) ≡ bind (bind o (exec c m)) (exec c d)
split_by c n m d (Gives s w) h = h s w
split_by c n m d (Halts e w) h = refl

exec_split : (c : Program) (n m d : ℕ) → n ≡ m + d → (s : Core) (w : World) → exec c n s w ≡ bind (exec c m s w) (exec c d)
exec_split c n zero d e s w = let same : n ≡ d = omega arith in ap (λ k. exec c k s w) same
exec_split c zero (suc m) d e s w = absurd (omega arith)
exec_split c (suc n) (suc m) d e s w = split_by c n m d (step c s w) (exec_split c n m d (omega arith))

still_written : (c : Program) (d : ℕ) (ws : List Record) (o : Out Core) → HasWritten ws o → HasWritten ws (bind o (exec c d))
still_written c d ws (Gives s w) h = by (exec c d s w) (exec_stays c d s w)
  where
    by : (o : Out Core) → Stays w o → HasWritten ws o
    by (Gives t v) k = prefix_in h k
    by (Halts e v) k = prefix_in h k
still_written c d ws (Halts e w) h = h

abbrev given : Out Core → Bool
given (Gives s w) = true
given (Halts e w) = false

-- a run that comes to have written these records shows them
pub begins_run : (c : Program) (input ws : List Record) (steps k : ℕ) (core : Core) (world : World) → exec c k start (first_world input steps) ≡ Gives core world → HasWritten ws (exec c (suc k) start (first_world input steps)) → (a : Shown) (count : ℕ) → Runs c input steps a count → IsPrefix ws a.records
begins_run c input ws steps k core world comes written a count r = by (nat_le k n) refl
  where
    n : ℕ
    n = r.run.count

    first : World
    first = first_world input steps

    ends : exec c (suc n) start first ≡ Halts r.run.end r.run.after
    ends = exec_more c n start first ∙ ap (λ o. bind o (step c)) r.run.comes ∙ r.run.ends

    by : (b : Bool) → nat_le k n ≡ b → IsPrefix ws a.records
    by true e =
        let le = leb-true k n e in
        let same : suc n ≡ suc k + (n - k) = omega arith in
        let kept : HasWritten ws (bind (exec c (suc k) start first) (exec c (n - k))) = still_written c (n - k) ws (exec c (suc k) start first) written in
        let there : HasWritten ws (Halts r.run.end r.run.after) = subst (HasWritten ws) (sym (exec_split c (suc n) (suc k) (n - k) same start first) ∙ ends) kept in
        subst (λ x. IsPrefix ws x.records) r.run.shows there
    by false e =
        let gt = leb-false k n e in
        let same : k ≡ suc n + (k - suc n) = omega arith in
        absurd (true≢false (ap given (sym comes ∙ exec_split c k (suc n) (k - suc n) same start first ∙ ap (λ o. bind o (exec c (k - suc n))) ends)))
