-- The machine does what lists of READ and WRITE do.
use Rattle.std.proofs.Common.{◌≡◌, ℕ, zero, suc, ◌+◌, ◌<◌, ◌≤◌, List, [], ◌∷◌, ◌++◌, length, Some, refl, sym, ap, ◌∙◌, subst, arith, length-append, slice_get}
use Rattle.ground.specs.declared.value.Kind.{Kind}
use Rattle.ground.specs.Content.{Content}
use Rattle.f66_tree.specs.Syntax.{Text, Formula, Int, Letter, Ref, Item, Group, Plus, Minus, Not, Pair, Formulas, NoFormula, AndFormula, Par, Constant, Named, Line, Act, Assign, Goto, Computed, Sign, When, Loop, Invoke, Stop, Return, Read, Write, One, Many, Entries, NoEntry, AndEntry}
use Rattle.f66_tree.specs.Syntax as f66
use Rattle.f66_tree.specs.World.{holding, State, GoesOn, take_from, take_one, taping, Tape, Move, Moves, Breaks, Misses, moving, World, Out, Gives, Halts, bind, Try, Yields, Traps, Fails, settle, choose, Shown}
use Rattle.f66_tree.specs.Units as units
use Rattle.f66_tree.specs.Units.{Held, Lent, Linkage, Setting, is_main, format_of, dummies_of, position, sizes_of, kind_of, places_of}
use Rattle.f66_tree.specs.Evaluation as ev
use Rattle.f66_tree.specs.Evaluation.{Sort, AnArray, AnIntrinsic, AFunction, sort_of, Intrinsic, Iabs, Mod, Isign, Idim, Max0, Min0, intrinsic, operate, truth_in, opposite, denied, same_whole, asked, held, base, variable_in, par_in, pars_in, distance, element, referred, called, place_by, place_of, subscripts_of, value_of, values_of, spots_of, locate, asks, by_sign, by_operator}
use Rattle.f66_tree.specs.Statements.{Exit, Normal, To, Back, LoopParameters, fit_loop_in, loop_start, loop_turn, turn_of, nth, label_at, by_sign_of, returned, does}
use Rattle.f66_tree.specs.Statements as ss
use Rattle.f66_tree.specs.Statements.{extent}
use Rattle.f66_tree.specs.Records as rec
use Rattle.f66_tree.specs.declared.editing.Way.{Way}
use Rattle.f66_tree.specs.declared.editing.Way.TheVariants.{Reading, Writing}
use Rattle.stack_code.specs.Instructions as i
use Rattle.stack_code.specs.Instructions.{Instruction}
use Rattle.stack_code.specs.StackMachine as sm
use Rattle.stack_code.specs.StackMachine.{Spot, Entry, Val, At, Frame, Caller, Core, Program, act, load, shift, dummy, take_values, known}
use Rattle.code_gen.specs.Layout.{Layout}
use Rattle.code_gen.specs.Expressions.{base_code, pars_code, count, place_code, room_of}
use Rattle.code_gen.specs.Statements as st
use Rattle.code_gen.specs.Statements.{entries_room}
use Rattle.code_gen.specs.Coded.{Counted, CodedItems, CodedEntry}
use Rattle.code_gen.proofs.Steps.{HasAt, has_front, has_back, has_at, finish, at, Comes, Meets, does_one, does_as, bind_finish, bound, moved, goes_wrong}
use Rattle.code_gen.proofs.Sights.{seen_shown, held_seen, settled}
use Rattle.code_gen.proofs.Values as vl
use Rattle.code_gen.proofs.Values.{Calls, Site, piled, take_all, spotted, take_all_spots}
use Rattle.code_gen.proofs.Calls as cl
use Rattle.code_gen.proofs.Loops as lo
use Rattle.code_gen.proofs.Lengths.{start_length, items_length, entry_length}

assoc : {A B C : Type 0} (o : Out A) (f : A → World → Out B) (h : B → World → Out C) → bind o (λ a w. bind (f a w) h) ≡ bind (bind o f) h
assoc (Gives a w) f h = refl
assoc (Halts e w) f h = refl

module _ (lay : Layout) (bound1 : ℕ) (c : Program) (site : Site lay bound1 c) where
  abbrev setting : Setting
  setting = vl.setting lay bound1 c site

  abbrev frame : units.Frame
  frame = vl.frame lay bound1 c site

  abbrev here : Frame
  here = vl.here lay bound1 c site

  abbrev Anchor : Type 0
  Anchor = vl.Anchor lay bound1 c site

  abbrev Sees : Anchor → World → World → Type 0
  Sees = vl.Sees lay bound1 c site

  abbrev SeesSpot : Anchor → units.Spot → Spot → Type 0
  SeesSpot = vl.SeesSpot lay bound1 c site

  module _ (an : Anchor) where
    -- ---- records ----

    meets_both : {A B D : Type 0} (o : Out A) (f : A → World → Out B) (h : B → World → Out Core) (q : Out D) (f1 : D → World → Out (Unit {0})) (k : Unit {0} → World → Shown) → Meets c (bind o (λ a w. bind (f a w) h)) (finish q (λ x w. finish (f1 x w) k)) → Meets c (bind (bind o f) h) (finish (bind q f1) k)
    meets_both o f h q f1 k m = subst (λ r. Meets c r (finish (bind q f1) k)) (assoc o f h) (subst (Meets c (bind o (λ a w. bind (f a w) h))) (bind_finish q f1 k) m)

    pub seen_tape : (w m : World) → Sees an w m → (t : Tape) → Sees an (taping t w) (taping t m)
    seen_tape w m h t = record { store = h.store; tape = refl; left = h.left; count = h.count; kept = h.kept }

    move_meets : (mv : Move) (w m : World) → Sees an w m → (f : Unit {0} → World → Out Core) (k : Unit {0} → World → Shown) → ((t : Tape) → Meets c (f tt (taping t m)) (k tt (taping t w))) → Meets c (bind (moving site.place mv m) f) (finish (moving site.place mv w) k)
    move_meets (Moves t) w m seen f k go = go t
    move_meets (Breaks e t) w m seen f k go = seen_shown lay.linked bound1 an.first an.hold (taping t w) (taping t m) (seen_tape w m seen t) _
    move_meets Misses w m seen f k go = seen_shown lay.linked bound1 an.first an.hold w m seen _

    pub taped_meets : (h : Tape → Move) (w m : World) → Sees an w m → (f : Unit {0} → World → Out Core) (k : Unit {0} → World → Shown) → ((t : Tape) → Meets c (f tt (taping t m)) (k tt (taping t w))) → Meets c (bind (ss.taped site.place h m) f) (finish (ss.taped site.place h w) k)
    taped_meets h w m seen f k go = subst (λ t. Meets c (bind (moving site.place (h t) m) f) (finish (moving site.place (h w.state.tape) w) k)) (sym seen.tape) (move_meets (h w.state.tape) w m seen f k go)

    took_by : (t : Try (Content × Tape)) (w m : World) → Sees an w m → (f : Content → World → Out Core) (k : Content → World → Shown) → ((a : Content) (t : Tape) → Meets c (f a (taping t m)) (k a (taping t w))) → Meets c (bind (bind (settle site.place t m) (λ r w1. Gives r.0 (taping r.1 w1))) f) (finish (bind (settle site.place t w) (λ r w1. Gives r.0 (taping r.1 w1))) k)
    took_by (Yields x) w m seen f k go = go x.0 x.1
    took_by (Traps e) w m seen f k go = seen_shown lay.linked bound1 an.first an.hold w m seen _
    took_by Fails w m seen f k go = seen_shown lay.linked bound1 an.first an.hold w m seen _

    took_meets : (h : Tape → Try (Content × Tape)) (w m : World) → Sees an w m → (f : Content → World → Out Core) (k : Content → World → Shown) → ((a : Content) (t : Tape) → Meets c (f a (taping t m)) (k a (taping t w))) → Meets c (bind (ss.taken_content site.place h m) f) (finish (ss.taken_content site.place h w) k)
    took_meets h w m seen f k go = subst (λ t. Meets c (bind (bind (settle site.place (h t) m) (λ r w1. Gives r.0 (taping r.1 w1))) f) (finish (bind (settle site.place (h w.state.tape) w) (λ r w1. Gives r.0 (taping r.1 w1))) k)) (sym seen.tape) (took_by (h w.state.tape) w m seen f k go)

    transfer_meets : (way : Way) (kind : Kind) (p : units.Spot) (e : Spot) → SeesSpot an p e → (w m : World) → Sees an w m → (f : Unit {0} → World → Out Core) (k : Unit {0} → World → Shown) → ((w1 m1 : World) → Sees an w1 m1 → w1.left ≡ w.left → Meets c (f tt m1) (k tt w1)) → Meets c (bind (sm.transfer site.place way kind e m) f) (finish (ss.transfer setting frame way kind p w) k)
    transfer_meets Reading kind p e sp w m seen f k go =
        meets_both (ss.taken_content site.place rec.take m) _ f (ss.taken_content site.place rec.take w) _ k (took_meets rec.take w m seen _ _ (λ a t.
        let w1 = taping t w in
        let m1 = taping t m in
        subst (λ r. Meets c r (finish (ev.store_at setting frame p a w1) k)) (assoc (settle site.place (sm.store e a m1.state.store) m1) (λ st2 w2. Gives tt (holding st2 w2)) f) (vl.store_meets lay bound1 c site an p e sp a w1 m1 (seen_tape w m seen t) _ k (λ w2 st2 seen2 le. go w2 _ seen2 le))))
    transfer_meets Writing kind p e sp w m seen f k go =
        meets_both (settle site.place (load kind e m.state.store) m) _ f (ev.load setting frame kind p w) _ k (subst (λ v. Meets c (bind (settle site.place (asked kind v) m) (λ a w1. bind (ss.taped site.place (rec.put a) w1) f)) (finish (ev.load setting frame kind p w) (λ a w1. finish (ss.taped site.place (rec.put a) w1) k))) (sym (held_seen lay.linked bound1 an.first an.hold p e w m sp seen)) (settled lay.linked bound1 an.first an.hold c site.place w m seen (asked kind (held lay.linked p w.state.store)) _ _ (λ a. taped_meets (rec.put a) w m seen f k (λ t. go (taping t w) (taping t m) (seen_tape w m seen t) refl))))

    pub edited_meets : (way : Way) (kind : Kind) (p : units.Spot) (e : Spot) → SeesSpot an p e → (w m : World) → Sees an w m → (f : Unit {0} → World → Out Core) (k : Unit {0} → World → Shown) → ((w1 m1 : World) → Sees an w1 m1 → w1.left ≡ w.left → Meets c (f tt m1) (k tt w1)) → Meets c (bind (sm.edited site.place way kind e m) f) (finish (ss.edited setting frame way kind p w) k)
    edited_meets way kind p e sp w m seen f k go =
        meets_both (ss.taped site.place (rec.due kind) m) _ f (ss.taped site.place (rec.due kind) w) _ k (taped_meets (rec.due kind) w m seen _ _ (λ t. transfer_meets way kind p e sp (taping t w) (taping t m) (seen_tape w m seen t) f k go))

    row_meets : (way : Way) (kind : Kind) (p : units.Spot) (e : Spot) → SeesSpot an p e → (n at1 : ℕ) (w m : World) → Sees an w m → (f : Unit {0} → World → Out Core) (k : Unit {0} → World → Shown) → ((w1 m1 : World) → Sees an w1 m1 → w1.left ≡ w.left → Meets c (f tt m1) (k tt w1)) → Meets c (bind (sm.row site.place way kind e n at1 m) f) (finish (ss.row setting frame way kind p n at1 w) k)
    row_meets way kind p e sp zero at1 w m seen f k go = go w m seen refl
    row_meets way kind p e sp (suc n) at1 w m seen f k go =
        meets_both (settle site.place (shift e at1) m) _ f (settle site.place (ev.moved lay.linked p at1) w) _ k (vl.shift_meets lay bound1 c site an p e at1 sp w m _ _ seen (λ q d sq. meets_both (sm.edited site.place way kind d m) _ f (ss.edited setting frame way kind q w) _ k (edited_meets way kind q d sq w m seen _ _ (λ w1 m1 seen1 le. row_meets way kind p e sp n (at1 + 1) w1 m1 seen1 f k (λ w2 m2 seen2 le2. go w2 m2 seen2 (le2 ∙ le))))))

    -- an item, or an array whole
    whole_run : (way : Way) (kind : Kind) (ns : List Par) (p : units.Spot) (e : Spot) → SeesSpot an p e → (pc : ℕ) (stack : List Entry) (w m : World) → Sees an w m → w.left < an.few → HasAt c.code pc (st.whole_code lay site.unit way kind ns) → (k : Unit {0} → World → Shown) → ((w' m' : World) → Sees an w' m' → w'.left < an.few → Comes c (at (pc + length (st.whole_code lay site.unit way kind ns)) stack here site.callers) m' (k tt w')) → Comes c (at pc (At e ∷ stack) here site.callers) m (finish (ss.one_or_row setting frame way kind ns p w) k)
    whole_run way kind [] p e sp pc stack w m seen lt has k go =
        does_one c (at pc (At e ∷ stack) here site.callers) m _ _ has.0 (edited_meets way kind p e sp w m seen _ k (λ w1 m1 seen1 le. go w1 m1 seen1 (omega arith)))
    whole_run way kind (n ∷ ns) p e sp pc stack w m seen lt has k go =
        let ca = pars_code lay site.unit (n ∷ ns) in
        let last = i.Row way kind (length (n ∷ ns)) ∷ [] in
        let h1 = has_back c.code pc ca last has in
        let p1 = pc + length ca in
        let end : p1 + 1 ≡ pc + length (ca ++ last) = omega (arith, length-append ca last) in
        bound c _ m (pars_in setting frame (n ∷ ns) w) _ k ((vl.pars_run lay bound1 c site an (n ∷ ns) pc (At e ∷ stack) w m seen lt (has_front c.code pc ca last has)).by _ (λ ds w1 m1 len seen1 lt1. does_as c (at p1 (piled ds (At e ∷ stack)) here site.callers) m1 (i.Row way kind (length (n ∷ ns))) (bind (settle site.place (extent ds) m1) (λ x w2. bind (sm.row site.place way kind e x 0 w2) (λ _ w3. Gives (at (p1 + 1) stack here site.callers) w3))) _ h1.0 (take_all m1 ds (At e ∷ stack) (length (n ∷ ns)) _ len) (subst (Meets c _) (bind_finish (settle site.place (extent ds) w1) _ k) (settled lay.linked bound1 an.first an.hold c site.place w1 m1 seen1 (extent ds) _ _ (λ x. row_meets way kind p e sp x 0 w1 m1 seen1 _ k (λ w2 m2 seen2 le. moved c _ _ stack here site.callers m2 _ end (go w2 m2 seen2 (omega arith))))))))

    pub item_run : (way : Way) (e : Formula) → Counted lay site.unit e → lay.spare site.unit + room_of (lay.linked.context site.unit) e ≤ an.first → (pc : ℕ) (stack : List Entry) (w m : World) → Sees an w m → w.left < an.few → HasAt c.code pc (st.item_code lay site.unit way e) → (k : Unit {0} → World → Shown) → ((w' m' : World) → Sees an w' m' → w'.left < an.few → Comes c (at (pc + length (st.item_code lay site.unit way e)) stack here site.callers) m' (k tt w')) → Comes c (at pc stack here site.callers) m (finish (ss.item setting frame way e w) k)
    item_run way (Ref x) fits room pc stack w m seen lt has k go =
        let cw = st.whole_code lay site.unit way (kind_of (lay.linked.context site.unit) x) (sizes_of x (lay.linked.context site.unit).notes) in
        let end : pc + 1 + length cw ≡ pc + suc (length cw) = omega arith in
        bound c _ m (settle site.place (base setting frame x) w) _ k (vl.base_run lay bound1 c site an x pc stack w m _ seen has.0 (λ p e sp. whole_run way (kind_of (lay.linked.context site.unit) x) (sizes_of x (lay.linked.context site.unit).notes) p e sp (pc + 1) stack w m seen lt has.1 k (λ w1 m1 seen1 lt1. moved c _ _ stack here site.callers m1 _ end (go w1 m1 seen1 lt1))))
    item_run way (Item x es) fits room pc stack w m seen lt has k go =
        let cp = place_code lay site.unit (Item x es) in
        let last = i.Item way (kind_of (lay.linked.context site.unit) x) ∷ [] in
        let h1 = has_back c.code pc cp last has in
        let end : pc + length cp + 1 ≡ pc + length (cp ++ last) = omega (arith, length-append cp last) in
        bound c _ m (locate setting frame (Item x es) w) _ k ((cl.place_run lay bound1 c site an (Item x es) fits room pc stack w m seen lt (has_front c.code pc cp last has)).by _ (λ p e w1 m1 sp seen1 lt1. does_one c (at (pc + length cp) (At e ∷ stack) here site.callers) m1 _ _ h1.0 (edited_meets way (kind_of (lay.linked.context site.unit) x) p e sp w1 m1 seen1 _ k (λ w2 m2 seen2 le. moved c _ _ stack here site.callers m2 _ end (go w2 m2 seen2 (omega arith))))))
    item_run way (Int z) fits room pc stack w m seen lt has k go = goes_wrong c _ m w _ refl
    item_run way (f66.Truth z) fits room pc stack w m seen lt has k go = goes_wrong c _ m w _ refl
    item_run way (Letter z) fits room pc stack w m seen lt has k go = goes_wrong c _ m w _ refl
    item_run way (Group a) fits room pc stack w m seen lt has k go = goes_wrong c _ m w _ refl
    item_run way (Plus a) fits room pc stack w m seen lt has k go = goes_wrong c _ m w _ refl
    item_run way (Minus a) fits room pc stack w m seen lt has k go = goes_wrong c _ m w _ refl
    item_run way (Not a) fits room pc stack w m seen lt has k go = goes_wrong c _ m w _ refl
    item_run way (Pair op a b) fits room pc stack w m seen lt has k go = goes_wrong c _ m w _ refl

  -- a turn of an implied DO begins, unless none may
  step_run : (left count : ℕ) (ws ms : State) → ms.tape ≡ ws.tape → (pc : ℕ) (stack : List Entry) (f : World → Out (Unit {0})) (k : Unit {0} → World → Shown) → slice_get c.code pc ≡ Some i.Step → ((more : ℕ) → left ≡ suc more → Comes c (at (pc + 1) stack here site.callers) (record { state = ms; left = more; count = count + 1 }) (finish (f (record { state = ws; left = more; count = count + 1 })) k)) → Comes c (at pc stack here site.callers) (record { state = ms; left = left; count = count }) (finish (bind (take_from ws left count) (λ _ w1. f w1)) k)
  step_run zero count ws ms tape pc stack f k has h = does_one c (at pc stack here site.callers) _ _ _ has (λ j. record { records = (tape j).written; end = GoesOn; work = count })
  step_run (suc more) count ws ms tape pc stack f k has h = does_one c (at pc stack here site.callers) _ _ _ has (h more refl)

  module _ (an : Anchor) (stack : List Entry) (x : Text) (q turn : ℕ) (items : List Instruction) (body : World → Out (Unit {0})) (lp : LoopParameters) (is : sm.loop_in q (suc q) an.hold ≡ lp) (le : an.first ≤ q) (has : HasAt c.code turn (st.turn_code lay site.unit x q turn items)) (run_items : (few : ℕ) (within : few ≤ site.most) (w m : World) → Sees an w m → w.left < few → (k : Unit {0} → World → Shown) → ((w' m' : World) → Sees an w' m' → w'.left < few → Comes c (at (turn + 1 + length items) stack here site.callers) m' (k tt w')) → Comes c (at (turn + 1) stack here site.callers) m (finish (body w) k)) where
    -- the turns of an implied DO, of which there are fewer than t
    pub turns_run : (t : ℕ) (w m : World) → Sees an w m → w.left < an.few → w.left < t → (k : Unit {0} → World → Shown) → ((w' m' : World) → Sees an w' m' → w'.left < an.few → Comes c (at (turn + 1 + length items + 1 + 1) stack here site.callers) m' (k tt w')) → Comes c (at turn stack here site.callers) m (finish (ss.item_turns t setting frame x lp body w) k)
    turns_run zero w m seen lt few k go = absurd (omega arith)
    turns_run (suc t) w m seen lt few k go =
        let m1 : World = record { state = m.state; left = w.left; count = w.count } in
        let path : m ≡ m1 = λ j. record { state = m.state; left = seen.left j; count = seen.count j } in
        let turn1 : World → Out (Unit {0}) = λ w2. bind (loop_turn setting frame x lp w2) (λ b w3. choose b (ss.item_turns t setting frame x lp body w3) (Gives tt w3)) in
        let body1 : World → Out (Unit {0}) = λ w1. bind (body w1) (λ _ w2. turn1 w2) in
        let shows : Shown = finish (bind (take_one w) (λ _ w1. body1 w1)) k in
        let has_turn = has_back c.code (turn + 1) items (base_code lay site.unit x ∷ i.LoopTurn q (suc q) turn ∷ []) has.1 in
        subst (λ z. Comes c (at turn stack here site.callers) z shows) (sym path) (step_run w.left w.count w.state m.state seen.tape turn stack body1 k has.0 (λ more e.
        let w2 : World = record { state = w.state; left = more; count = w.count + 1 } in
        let m2 : World = record { state = m.state; left = more; count = w.count + 1 } in
        let seen2 : Sees an w2 m2 = record { store = seen.store; tape = seen.tape; left = refl; count = refl; kept = seen.kept } in
        let inside = an.within in
        let within : suc more ≤ site.most = omega arith in
        bound c _ m2 (body w2) (λ _ w3. turn1 w3) k (run_items (suc more) within w2 m2 seen2 (omega arith) _ (λ w3 m3 seen3 lt3.
        bound c _ m3 (loop_turn setting frame x lp w3) (λ b w4. choose b (ss.item_turns t setting frame x lp body w4) (Gives tt w4)) k (lo.turn_run lay bound1 c site (vl.narrowed lay bound1 c site an (suc more) within) stack q (suc q) le (omega arith) x turn (turn + 1 + length items) [] lp w3 m3 seen3 lt3 is has_turn _ (λ w4 m4 seen4 lt4. turns_run t w4 m4 seen4 (omega arith) (omega arith) k go) (λ w4 m4 seen4 lt4. go w4 m4 seen4 (omega arith)))))))

  -- what a list of a READ or WRITE does
  abbrev Listed : Anchor → ℕ → List Entry → World → World → ℕ → Out (Unit {0}) → Type 0
  Listed an pc stack w m to r = (k : Unit {0} → World → Shown) → ((w' m' : World) → Sees an w' m' → w'.left < an.few → Comes c (at to stack here site.callers) m' (k tt w')) → Comes c (at pc stack here site.callers) m (finish r k)

  mutual
    pub items_run : (an : Anchor) (way : Way) (es : Entries) → CodedItems lay site.unit es → lay.spare site.unit + entries_room (lay.linked.context site.unit) es ≤ an.first → (pc : ℕ) (stack : List Entry) (w m : World) → Sees an w m → w.left < an.few → HasAt c.code pc (st.items_code lay site.unit way pc es) → Listed an pc stack w m (pc + st.items_size lay site.unit way es) (ss.items setting frame way es w)
    items_run an way NoEntry fits room pc stack w m seen lt has k go = let e : pc ≡ pc + 0 = omega arith in moved c _ _ stack here site.callers m _ e (go w m seen lt)
    items_run an way (AndEntry e es) fits room pc stack w m seen lt has k go =
        let ca = st.entry_code lay site.unit way pc e in
        let mid = pc + st.entry_size lay site.unit way e in
        let cb = st.items_code lay site.unit way mid es in
        let size = entry_length lay site.unit way pc e in
        let here1 : pc + length ca ≡ mid = ap (λ z. pc + z) size in
        let end : mid + st.items_size lay site.unit way es ≡ pc + (st.entry_size lay site.unit way e + st.items_size lay site.unit way es) = omega arith in
        bound c _ m (ss.entry setting frame way e w) _ k (entry_run an way e fits.0 (omega arith) pc stack w m seen lt (has_front c.code pc ca cb has) _ (λ w1 m1 seen1 lt1. items_run an way es fits.1 (omega arith) mid stack w1 m1 seen1 lt1 (has_at c.code _ mid cb here1 (has_back c.code pc ca cb has)) k (λ w2 m2 seen2 lt2. moved c _ _ stack here site.callers m2 _ end (go w2 m2 seen2 lt2))))

    pub entry_run : (an : Anchor) (way : Way) (e : f66.Entry) → CodedEntry lay site.unit e → lay.spare site.unit + st.entry_room (lay.linked.context site.unit) e ≤ an.first → (pc : ℕ) (stack : List Entry) (w m : World) → Sees an w m → w.left < an.few → HasAt c.code pc (st.entry_code lay site.unit way pc e) → Listed an pc stack w m (pc + st.entry_size lay site.unit way e) (ss.entry setting frame way e w)
    entry_run an way (One e) fits room pc stack w m seen lt has k go = item_run an way e fits room pc stack w m seen lt has k go
    entry_run an way (Many es x a b d) fits room pc stack w m seen lt has k go =
        let cx = lay.linked.context site.unit in
        let q = lay.spare site.unit + entries_room cx es in
        let turn = pc + st.start_size lay site.unit a b d in
        let items = st.items_code lay site.unit way (suc turn) es in
        let start = st.start_code lay site.unit x a b d q (suc q) in
        let tail = st.turn_code lay site.unit x q turn items in
        let long = start_length lay site.unit x a b d q (suc q) in
        let here1 : pc + length start ≡ turn = ap (λ z. pc + z) long in
        let has1 = has_at c.code _ turn tail here1 (has_back c.code pc start tail has) in
        let next : suc turn ≡ turn + 1 = omega arith in
        let size = items_length lay site.unit way (suc turn) es in
        let end : turn + 1 + length items + 1 + 1 ≡ pc + (st.start_size lay site.unit a b d + suc (st.items_size lay site.unit way es + 2)) = omega arith in
        let above = site.above in
        let body : World → Out (Unit {0}) = λ w1. ss.items setting frame way es w1 in
        bound c _ m (loop_start setting frame x a b d w) _ k (lo.start_run lay bound1 c site an stack q (suc q) x a b d turn pc w m seen lt (has_front c.code pc start tail has) refl _ (λ lp w1 st1 m1 fit seen1 lt1.
        let m2 = holding (sm.keep_loop q (suc q) lp st1) m1 in
        let seen2 : Sees an w1 m2 = lo.seen_loop lay.linked bound1 an.first an.hold q (suc q) (omega arith) (omega arith) (omega arith) (omega arith) lp w1 st1 m1 seen1 in
        let an2 = vl.lowered lay bound1 c site an q (omega arith) (omega arith) w1 m2 seen2 in
        let keeps = lo.keeps_loop q (suc q) (λ z. omega arith) lp fit st1 in
        let items1 = subst (λ z. HasAt c.code (turn + 1) (st.items_code lay site.unit way z es)) next (has_front c.code (turn + 1) items (base_code lay site.unit x ∷ i.LoopTurn q (suc q) turn ∷ []) has1.1) in
        let to : turn + 1 + length items ≡ turn + 1 + st.items_size lay site.unit way es = ap (λ z. turn + 1 + z) size in
        let inside = an.within in
        turns_run an2 stack x q turn items body lp keeps (omega arith) has1 (λ few within w3 m3 seen3 lt3 k3 go3. items_run (vl.narrowed lay bound1 c site an2 few within) way es fits (omega arith) (turn + 1) stack w3 m3 seen3 lt3 items1 k3 (λ w4 m4 seen4 lt4. moved c _ _ stack here site.callers m4 _ (sym to) (go3 w4 m4 seen4 lt4))) site.most w1 m2 (vl.seen_here lay bound1 c site an.first an.hold w1 m2 seen2 q) lt1 (omega arith) k (λ w3 m3 seen3 lt3. moved c _ _ stack here site.callers m3 _ end (go w3 m3 (vl.raised lay bound1 c site an q w1 m2 (omega arith) seen2 w3 m3 seen3) lt3))))
