-- The machine does what one plain statement does.
use Rattle.std.proofs.Common.{◌≡◌, ℕ, zero, suc, ◌+◌, ◌<◌, ◌≤◌, Bool, true, false, List, [], ◌∷◌, ◌++◌, length, Option, Some, None, refl, sym, ap, ◌∙◌, subst, arith, length-append, slice_get}
use Rattle.std.specs.Prelude.{◌-◌, pos, negsuc}
use Rattle.ground.specs.Content.{Content, Nothing, Whole, Truth}
use Rattle.f66_tree.specs.Syntax.{Text, Formula, Par, Act, Assign, Goto, Computed, Sign, When, Loop, Invoke, Stop, Return, Read, Write, Entries}
use Rattle.f66_tree.specs.World.{taping, World, Out, Gives, bind, settle, choose, Shown}
use Rattle.f66_tree.specs.Units as units
use Rattle.f66_tree.specs.Units.{Held, Lent, Linkage, Setting, is_main, format_of, dummies_of, position, sizes_of, kind_of, places_of}
use Rattle.f66_tree.specs.Evaluation as ev
use Rattle.f66_tree.specs.Evaluation.{Sort, AnArray, AnIntrinsic, AFunction, sort_of, Intrinsic, Iabs, Mod, Isign, Idim, Max0, Min0, intrinsic, operate, truth_in, opposite, denied, same_whole, asked, held, base, variable_in, par_in, pars_in, distance, element, referred, called, place_by, place_of, subscripts_of, value_of, values_of, spots_of, locate, asks, by_sign, by_operator}
use Rattle.f66_tree.specs.Statements.{Exit, Normal, To, Back, LoopParameters, fit_loop_in, loop_start, loop_turn, turn_of, nth, label_at, by_sign_of, returned, does}
use Rattle.f66_tree.specs.Statements as ss
use Rattle.f66_tree.specs.Statements.{extent}
use Rattle.f66_tree.specs.Fields.{Fields}
use Rattle.f66_tree.specs.Records as rec
use Rattle.f66_tree.specs.declared.editing.Way.{Way}
use Rattle.f66_tree.specs.declared.editing.Way.TheVariants.{Reading, Writing}
use Rattle.f66_tree.specs.Execution.{stand, nowhere, no_loops}
use Rattle.stack_code.specs.Instructions as i
use Rattle.stack_code.specs.Instructions.{Instruction}
use Rattle.stack_code.specs.StackMachine as sm
use Rattle.stack_code.specs.StackMachine.{Spot, Entry, Val, At, Frame, Caller, Core, Program, act, load, shift, dummy, take_values, known}
use Rattle.code_gen.specs.Layout.{Layout}
use Rattle.code_gen.specs.Expressions.{variable_code, par_code, count, value_code, place_code, room_of, actuals_code}
use Rattle.code_gen.specs.Statements as st
use Rattle.code_gen.specs.Statements.{entries_room}
use Rattle.code_gen.specs.Coded.{top, LiesBelow, Counted, CodedItems, Coded, act_room}
use Rattle.code_gen.specs.Behaves.{HavePlans}
use Rattle.code_gen.proofs.Steps.{HasAt, has_front, has_back, finish, at, Comes, Meets, does_one, does_as, bind_finish, bound, moved, goes_wrong}
use Rattle.code_gen.proofs.Sights.{seen_shown, settled, spots_low}
use Rattle.code_gen.proofs.Values as vl
use Rattle.code_gen.proofs.Values.{Calls, Site, piled, take_all, spotted, take_all_spots}
use Rattle.code_gen.proofs.Calls as cl
use Rattle.code_gen.proofs.Records as rd
use Rattle.code_gen.proofs.Lengths.{items_length}

module _ (lay : Layout) (bound1 : ℕ) (c : Program) (site : Site lay bound1 c) where
  abbrev setting : Setting
  setting = vl.setting lay bound1 c site

  abbrev frame : units.Frame
  frame = vl.frame lay bound1 c site

  abbrev here : Frame
  here = vl.here lay bound1 c site

  abbrev Anchor : Type 0
  Anchor = vl.Anchor lay bound1 c site

  abbrev Sees : Anchor → World → World → Type 0
  Sees = vl.Sees lay bound1 c site

  abbrev Hands : Anchor → ℕ → List Entry → World → World → ℕ → ℕ → Out (List units.Spot) → Type 0
  Hands = vl.Hands lay bound1 c site

  module _ (an : Anchor) (planned : HavePlans lay site.unit c.plans) (stack : List Entry) where
    -- from here the machine comes to where a plain statement leads, or to an end, as r says
    pub record Does (pc : ℕ) (w m : World) (next : ℕ) (r : Out Exit) : Type 0 where
      pub by : (k : Exit → World → Shown) → ((w' m' : World) → Sees an w' m' → w'.left < an.few → Comes c (at next stack here site.callers) m' (k Normal w')) → ((j : ℕ) (w' m' : World) → Sees an w' m' → w'.left < an.few → Comes c (at (st.target lay site.unit j) stack here site.callers) m' (k (To j) w')) → ((p : ℕ) (w' m' : World) → Sees an w' m' → w'.left < an.few → is_main (lay.linked.context site.unit).header ≡ false → slice_get c.code p ≡ Some i.Return → Comes c (at p stack here site.callers) m' (k Back w')) → Comes c (at pc stack here site.callers) m (finish r k)

    pub leave_run : (b : Bool) (pc : ℕ) (w m : World) (k : Exit → World → Shown) → Sees an w m → slice_get c.code pc ≡ Some (st.leave b) → (b ≡ false → slice_get c.code pc ≡ Some i.Return → Comes c (at pc stack here site.callers) m (k Back w)) → Comes c (at pc stack here site.callers) m (finish (returned b w) k)
    leave_run true pc w m k seen has back = does_one c (at pc stack here site.callers) m _ _ has (seen_shown lay.linked bound1 an.first an.hold w m seen _)
    leave_run false pc w m k seen has back = back refl has

    nth_meets : (ls : List ℕ) (n : ℕ) (w m : World) → Sees an w m → (f : ℕ → World → Out Core) (k : ℕ → World → Shown) → ((j : ℕ) → Meets c (f (st.target lay site.unit j) m) (k j w)) → Meets c (bind (settle site.place (sm.nth (st.targets lay site.unit ls) n) m) f) (finish (settle site.place (nth ls n) w) k)
    nth_meets [] n w m seen f k go = seen_shown lay.linked bound1 an.first an.hold w m seen _
    nth_meets (j ∷ ls) zero w m seen f k go = go j
    nth_meets (j ∷ ls) (suc n) w m seen f k go = nth_meets ls n w m seen f k go

    table_meets : (ls : List ℕ) (v : Content) (w m : World) → Sees an w m → (f : ℕ → World → Out Core) (k : ℕ → World → Shown) → ((j : ℕ) → Meets c (f (st.target lay site.unit j) m) (k j w)) → Meets c (bind (settle site.place (sm.target_at (st.targets lay site.unit ls) v) m) f) (finish (settle site.place (label_at ls v) w) k)
    table_meets ls (Whole (pos zero)) w m seen f k go = seen_shown lay.linked bound1 an.first an.hold w m seen _
    table_meets ls (Whole (pos (suc n))) w m seen f k go = nth_meets ls n w m seen f k go
    table_meets ls (Whole (negsuc n)) w m seen f k go = seen_shown lay.linked bound1 an.first an.hold w m seen _
    table_meets ls (Truth b) w m seen f k go = seen_shown lay.linked bound1 an.first an.hold w m seen _
    table_meets ls Nothing w m seen f k go = seen_shown lay.linked bound1 an.first an.hold w m seen _

    sign_meets : (a b d : ℕ) (v : Content) (pc : ℕ) (w m : World) → Sees an w m → (k : ℕ → World → Shown) → ((j : ℕ) → Comes c (at (st.target lay site.unit j) stack here site.callers) m (k j w)) → Meets c (sm.jump_sign (at pc (Val v ∷ stack) here site.callers) (st.target lay site.unit a) (st.target lay site.unit b) (st.target lay site.unit d) stack m v) (finish (settle site.place (by_sign_of a b d v) w) k)
    sign_meets a b d (Whole (negsuc n)) pc w m seen k go = go a
    sign_meets a b d (Whole (pos zero)) pc w m seen k go = go b
    sign_meets a b d (Whole (pos (suc n))) pc w m seen k go = go d
    sign_meets a b d (Truth x) pc w m seen k go = seen_shown lay.linked bound1 an.first an.hold w m seen _
    sign_meets a b d Nothing pc w m seen k go = seen_shown lay.linked bound1 an.first an.hold w m seen _

    record_run : (way : Way) (a : Par) (lb : ℕ) (es : Entries) → CodedItems lay site.unit es → lay.spare site.unit + entries_room (lay.linked.context site.unit) es ≤ an.first → (fs : Fields) → format_of lb (lay.linked.context site.unit).notes ≡ Some fs → (next pc : ℕ) (w m : World) → Sees an w m → w.left < an.few → HasAt c.code pc (st.record_code lay site.unit way (next - st.record_size lay site.unit way a es) a (lay.plan site.unit lb) es) → pc + st.record_size lay site.unit way a es ≡ next → Does pc w m next (ss.record_by setting frame way a lb es w)
    record_run way a lb es fits room fs is next pc w m seen lt has end =
        let ca = par_code lay site.unit a in
        let from = suc (next - st.record_size lay site.unit way a es + length ca) in
        let ci = st.items_code lay site.unit way from es in
        let here1 : from ≡ pc + length ca + 1 = omega arith in
        let size = items_length lay site.unit way from es in
        let last = i.Finish ∷ [] in
        let p1 = pc + length ca in
        let p2 = p1 + 1 + length ci in
        let has1 = has_back c.code pc ca (i.Start way (lay.plan site.unit lb) ∷ (ci ++ last)) has in
        let has2 = has_back c.code (p1 + 1) ci last has1.1 in
        let e : p2 + 1 ≡ next = omega arith in
        let items1 = subst (λ z. HasAt c.code (p1 + 1) (st.items_code lay site.unit way z es)) here1 (has_front c.code (p1 + 1) ci last has1.1) in
        let near : p1 + 1 + length ci ≡ p1 + 1 + st.items_size lay site.unit way es = ap (λ z. p1 + 1 + z) size in
        let plan1 : slice_get c.plans (lay.plan site.unit lb) ≡ format_of lb (lay.linked.context site.unit).notes = planned.by lb fs is ∙ sym is in
        let opens1 : World → Out (Unit {0}) = ss.taped site.place (ss.opened_by way (format_of lb (lay.linked.context site.unit).notes)) in
        let b3 : Unit {0} → World → Out Exit = λ _ w5. Gives Normal w5 in
        let b2 : Unit {0} → World → Out Exit = λ _ w4. bind (ss.taped site.place rec.closed w4) b3 in
        let b1 : Unit {0} → World → Out Exit = λ _ w3. bind (ss.items setting frame way es w3) b2 in
        record {
          by = λ k go to back. bound c _ m (par_in setting frame a w) _ k ((vl.par_run lay bound1 c site an a pc stack w m seen lt (has_front c.code pc ca _ has)).by _ (λ x w1 m1 seen1 lt1. bound c _ m1 (settle site.place (ss.on_unit way x) w1) _ k (does_one c (at p1 (Val x ∷ stack) here site.callers) m1 _ _ has1.0 (settled lay.linked bound1 an.first an.hold c site.place w1 m1 seen1 (ss.on_unit way x) _ _ (λ y. subst (Meets c _) (bind_finish (opens1 w1) b1 k) (subst (λ o. Meets c (bind (ss.taped site.place (ss.opened_by way o) m1) (λ _ w2. Gives (at (p1 + 1) stack here site.callers) w2)) (finish (opens1 w1) (λ z w3. finish (b1 z w3) k))) (sym plan1) (rd.taped_meets lay bound1 c site an (ss.opened_by way (format_of lb (lay.linked.context site.unit).notes)) w1 m1 seen1 (λ _ w2. Gives (at (p1 + 1) stack here site.callers) w2) (λ z w3. finish (b1 z w3) k) (λ t.
              let w2 = taping t w1 in
              let m2 = taping t m1 in
              bound c _ m2 (ss.items setting frame way es w2) b2 k (rd.items_run lay bound1 c site an way es fits room (p1 + 1) stack w2 m2 (rd.seen_tape lay bound1 c site an w1 m1 seen1 t) lt1 items1 (λ z w3. finish (b2 z w3) k) (λ w3 m3 seen3 lt3. moved c _ _ stack here site.callers m3 _ (sym near) (bound c _ m3 (ss.taped site.place rec.closed w3) b3 k (does_one c (at p2 stack here site.callers) m3 _ _ has2.0 (rd.taped_meets lay bound1 c site an rec.closed w3 m3 seen3 _ (λ z w5. finish (b3 z w5) k) (λ t3. moved c _ _ stack here site.callers _ _ e (go (taping t3 w3) (taping t3 m3) (rd.seen_tape lay bound1 c site an w3 m3 seen3 t3) lt3)))))))))))))));
        }

    -- a subroutine is called
    invoked_by : (x : Text) (o : Option ℕ) → lay.linked.find x ≡ o → LiesBelow lay site.unit x → (n : ℕ) (code : List Instruction) (spots1 : World → Out (List units.Spot)) → lay.spare site.unit ≤ an.first → (next pc : ℕ) (w m : World) → Sees an w m → w.left < an.few → HasAt c.code pc (st.invoked_code lay site.unit o n code) → pc + length (st.invoked_code lay site.unit o n code) ≡ next → (HasAt c.code pc code → Hands an pc stack w m (pc + length code) n (spots1 w)) → Does pc w m next (ss.invoked setting o spots1 w)
    invoked_by x None is fits n code spots1 room next pc w m seen lt has end run_spots = record { by = λ k go to back. goes_wrong c _ m w _ refl }
    invoked_by x (Some b) is fits n code spots1 room next pc w m seen lt has end run_spots =
        let tail = i.Call (lay.entry b) n ∷ [] in
        let p1 = pc + length code in
        let has1 = has_back c.code pc code tail has in
        let e : p1 + 1 ≡ next = omega (arith, length-append code tail) in
        let call = site.calls x b is in
        let below : top lay b ≤ lay.spare site.unit = fits b is in
        record {
          by = λ k go to back. bound c _ m (spots1 w) _ k ((run_spots (has_front c.code pc code tail has)).by _ (λ ps es w1 m1 len see1 seen1 lt1.
              let an1 = vl.lowered lay bound1 c site an (lay.spare site.unit) site.above room w1 m1 seen1 in
              let here1 : Sees an1 w1 m1 = vl.seen_here lay bound1 c site an.first an.hold w1 m1 seen1 (lay.spare site.unit) in
              let called1 : units.Frame = record { unit = b; actuals = ps; place = nowhere } in
              let more : Unit {0} → World → Out Exit = λ _ w2. Gives Normal w2 in
              let kept = spots_low lay.linked bound1 (lay.spare site.unit) (top lay b) m1.state.store m1.state.store below (λ r le. refl) ps es see1 in
              does_as c (at p1 (spotted es stack) here site.callers) m1 (i.Call (lay.entry b) n) _ _ has1.0 (take_all_spots m1 es stack n _ len) (bound c _ m1 (site.run called1 (stand (lay.lines b) no_loops) w1) more k (call.by an.few an.within ps es (p1 + 1) stack w1 m1 _ (vl.seen_here lay bound1 c site an1.first an1.hold w1 m1 here1 (top lay b)) kept lt1 (λ w2 m2 seen2 lt2.
              let seen3 : Sees an1 w2 m2 = vl.raised lay bound1 c site an1 (top lay b) w1 m1 below here1 w2 m2 seen2 in
              moved c _ _ stack here site.callers m2 _ e (go w2 m2 (vl.raised lay bound1 c site an (lay.spare site.unit) w1 m1 room seen1 w2 m2 seen3) lt2))))));
        }

    abbrev pub IsSimple : Act → Type 0
    IsSimple (When e a) = ⊥
    IsSimple (Loop lb x a b d) = ⊥
    IsSimple _ = Unit {0}

    pub does_run : (a : Act) → IsSimple a → Coded lay site.unit a → lay.spare site.unit + act_room (lay.linked.context site.unit) a ≤ an.first → (key next pc : ℕ) (w m : World) → Sees an w m → w.left < an.few → HasAt c.code pc (st.act_code lay site.unit key next site.place a) → pc + st.act_size lay site.unit a ≡ next → Does pc w m next (does setting frame a w)
    does_run (Assign x e) simple fits room key next pc w m seen lt has end =
        let cx = place_code lay site.unit x in
        let ce = value_code lay site.unit e in
        let has1 = has_back c.code pc cx (ce ++ i.Store ∷ []) has in
        let p2 = pc + length cx + length ce in
        let last = has_back c.code (pc + length cx) ce (i.Store ∷ []) has1 in
        let e1 : p2 + 1 ≡ next = omega arith in
        record { by = λ k go to back. bound c _ m (locate setting frame x w) _ k ((cl.place_run lay bound1 c site an x fits.0 (omega arith) pc stack w m seen lt (has_front c.code pc cx _ has)).by _ (λ p s w1 m1 sp seen1 lt1. bound c _ m1 (value_of setting frame e w1) _ k ((cl.value_run lay bound1 c site an e fits.1 (omega arith) (pc + length cx) (At s ∷ stack) w1 m1 seen1 lt1 (has_front c.code _ ce _ has1)).by _ (λ v w2 m2 seen2 lt2. bound c _ m2 (ev.store_at setting frame p v w2) _ k (does_one c (at p2 (Val v ∷ At s ∷ stack) here site.callers) m2 i.Store _ last.0 (vl.store_meets lay bound1 c site an p s sp v w2 m2 seen2 _ _ (λ w3 st3 seen3 le. moved c _ _ stack here site.callers _ _ e1 (go w3 _ seen3 (omega arith))))))))) }
    does_run (Goto j) simple fits room key next pc w m seen lt has end = record { by = λ k go to back. does_one c (at pc stack here site.callers) m _ _ has.0 (to j w m seen lt) }
    does_run (Computed ls x) simple fits room key next pc w m seen lt has end =
        let last = has_back c.code pc (variable_code lay site.unit x) (i.JumpTable (st.targets lay site.unit ls) ∷ []) has in
        record { by = λ k go to back. bound c _ m (variable_in setting frame x w) _ k ((vl.variable_run lay bound1 c site an x pc stack w m seen lt (has.0, (has.1.0, tt))).by _ (λ v w1 m1 seen1 lt1. bound c _ m1 (settle site.place (label_at ls v) w1) _ k (does_one c (at (pc + 2) (Val v ∷ stack) here site.callers) m1 _ _ last.0 (table_meets ls v w1 m1 seen1 _ _ (λ j. to j w1 m1 seen1 lt1))))) }
    does_run (Sign e a b d) simple fits room key next pc w m seen lt has end =
        let ce = value_code lay site.unit e in
        let last = has_back c.code pc ce (i.JumpSign (st.target lay site.unit a) (st.target lay site.unit b) (st.target lay site.unit d) ∷ []) has in
        record { by = λ k go to back. bound c _ m (value_of setting frame e w) _ k ((cl.value_run lay bound1 c site an e fits room pc stack w m seen lt (has_front c.code pc ce _ has)).by _ (λ v w1 m1 seen1 lt1. bound c _ m1 (settle site.place (by_sign_of a b d v) w1) _ k (does_one c (at (pc + length ce) (Val v ∷ stack) here site.callers) m1 _ _ last.0 (sign_meets a b d v (pc + length ce) w1 m1 seen1 _ (λ j. to j w1 m1 seen1 lt1))))) }
    does_run (Stop None) simple fits room key next pc w m seen lt has end = record { by = λ k go to back. does_one c (at pc stack here site.callers) m _ _ has.0 (seen_shown lay.linked bound1 an.first an.hold w m seen _) }
    does_run (Stop (Some n)) simple fits room key next pc w m seen lt has end = record { by = λ k go to back. does_one c (at pc stack here site.callers) m _ _ has.0 (seen_shown lay.linked bound1 an.first an.hold w m seen _) }
    does_run Return simple fits room key next pc w m seen lt has end = record { by = λ k go to back. leave_run (is_main (lay.linked.context site.unit).header) pc w m k seen has.0 (back pc w m seen lt) }
    does_run (When e a) simple fits room key next pc w m seen lt has end = absurd simple
    does_run (Loop lb x a b d) simple fits room key next pc w m seen lt has end = absurd simple
    does_run (Invoke x es) simple fits room key next pc w m seen lt has end =
        invoked_by x (lay.linked.find x) refl fits.0 (count es) (actuals_code lay site.unit es) (spots_of setting frame es) (omega arith) next pc w m seen lt has end (λ has1. cl.actuals_run lay bound1 c site an es fits.1 room pc stack w m seen lt has1)
    does_run (Read n f es) simple fits room key next pc w m seen lt has end = record_run Reading n f es fits.0 room fits.1.0 fits.1.1 next pc w m seen lt has end
    does_run (Write n f es) simple fits room key next pc w m seen lt has end = record_run Writing n f es fits.0 room fits.1.0 fits.1.1 next pc w m seen lt has end
    does_run _ simple fits room key next pc w m seen lt has end =
        let e : pc ≡ next = omega arith in
        record { by = λ k go to back. moved c _ _ stack here site.callers m _ e (go w m seen lt) }

    -- a condition
    chosen : (b : Bool) (p q : ℕ) (w m : World) (k : Bool → World → Shown) → Comes c (at p stack here site.callers) m (k true w) → Comes c (at q stack here site.callers) m (k false w) → Meets c (choose b (Gives (at p stack here site.callers) m) (Gives (at q stack here site.callers) m)) (k b w)
    chosen true p q w m k h h1 = h
    chosen false p q w m k h h1 = h1

    pub asks_run : (e : Formula) → Counted lay site.unit e → lay.spare site.unit + room_of (lay.linked.context site.unit) e ≤ an.first → (next pc : ℕ) (more : List Instruction) (w m : World) → Sees an w m → w.left < an.few → HasAt c.code pc (value_code lay site.unit e ++ i.JumpFalse next ∷ more) → (k : Bool → World → Shown) → ((w' m' : World) → Sees an w' m' → w'.left < an.few → Comes c (at (pc + length (value_code lay site.unit e) + 1) stack here site.callers) m' (k true w')) → ((w' m' : World) → Sees an w' m' → w'.left < an.few → Comes c (at next stack here site.callers) m' (k false w')) → Comes c (at pc stack here site.callers) m (finish (asks setting frame e w) k)
    asks_run e fits room next pc more w m seen lt has k ok off =
        let ce = value_code lay site.unit e in
        let last = has_back c.code pc ce (i.JumpFalse next ∷ more) has in
        bound c _ m (value_of setting frame e w) _ k ((cl.value_run lay bound1 c site an e fits room pc stack w m seen lt (has_front c.code pc ce (i.JumpFalse next ∷ more) has)).by _ (λ v w1 m1 seen1 lt1. does_one c (at (pc + length ce) (Val v ∷ stack) here site.callers) m1 _ _ last.0 (settled lay.linked bound1 an.first an.hold c site.place w1 m1 seen1 (truth_in v) _ k (λ b. chosen b (pc + length ce + 1) next w1 m1 k (ok w1 m1 seen1 lt1) (off w1 m1 seen1 lt1)))))
