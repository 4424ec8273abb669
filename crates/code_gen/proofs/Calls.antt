-- The machine comes to the value of an expression, to those of several, to places and to actuals, and calls functions.
use Rattle.std.proofs.Common.{◌≡◌, ℕ, suc, ◌+◌, ◌<◌, ◌≤◌, Bool, true, false, List, [], ◌∷◌, ◌++◌, length, Option, Some, None, refl, ap, ◌∙◌, subst, arith, length-append}
use Rattle.std.specs.Prelude.{pos}
use Rattle.ground.specs.Content.{Content, Nothing, Whole, Truth}
use Rattle.f66_tree.specs.Syntax.{Text, Formula, Int, Letter, Ref, Item, Group, Plus, Minus, Not, Pair, Formulas, NoFormula, AndFormula, Par, Constant, Named, Line, Act, Assign, Goto, Computed, Sign, When, Loop, Invoke, Stop, Return, Read, Write, One, Many, Entries, NoEntry, AndEntry}
use Rattle.f66_tree.specs.Syntax as f66
use Rattle.f66_tree.specs.World.{put_in, holding, World, Out, Gives, bind}
use Rattle.f66_tree.specs.Units as units
use Rattle.f66_tree.specs.Units.{Held, Lent, Linkage, Setting, is_main, format_of, dummies_of, position, sizes_of, kind_of, places_of}
use Rattle.f66_tree.specs.Evaluation as ev
use Rattle.f66_tree.specs.Evaluation.{Sort, AnArray, AnIntrinsic, AFunction, sort_of, Intrinsic, Iabs, Mod, Isign, Idim, Max0, Min0, intrinsic, operate, truth_in, opposite, denied, same_whole, asked, held, base, variable_in, par_in, pars_in, distance, element, referred, called, place_by, place_of, subscripts_of, value_of, values_of, spots_of, locate, asks, by_sign, by_operator}
use Rattle.f66_tree.specs.Execution.{stand, nowhere, no_loops}
use Rattle.stack_code.specs.Instructions as i
use Rattle.stack_code.specs.Instructions.{Instruction}
use Rattle.stack_code.specs.StackMachine.{Spot, Entry, Val, At, Frame, Program}
use Rattle.code_gen.specs.Layout.{Layout}
use Rattle.code_gen.specs.Expressions.{base_by, base_code, variable_code, par_code, pars_code, operator_by, operator_code, is_relation, function_number, count, element_code, applied_code, value_code, values_code, place_code, room_of, rooms_of, rooms_to_hand, applied_room, actual_room, actual_code, actuals_code, called_code, own_code, subscripts_code, place_with}
use Rattle.code_gen.specs.Expressions as ex
use Rattle.code_gen.specs.Coded.{top, LiesBelow, HasResult, Fits, Counted, CountedAll}
use Rattle.code_gen.proofs.Steps.{HasAt, has_front, has_back, has_at, finish, at, does_one, does_as, bound, moved, goes_wrong}
use Rattle.code_gen.proofs.Sights.{own_spot, lent_spot, put_here, put_in_kept, spots_low, spot_low}
use Rattle.code_gen.proofs.Values as vl
use Rattle.code_gen.proofs.Values.{Calls, Site, piled, take_all, spotted, take_all_spots}

module _ (lay : Layout) (bound1 : ℕ) (c : Program) (site : Site lay bound1 c) where
  abbrev setting : Setting
  setting = vl.setting lay bound1 c site

  abbrev frame : units.Frame
  frame = vl.frame lay bound1 c site

  abbrev here : Frame
  here = vl.here lay bound1 c site

  abbrev Anchor : Type 0
  Anchor = vl.Anchor lay bound1 c site

  abbrev Sees : Anchor → World → World → Type 0
  Sees = vl.Sees lay bound1 c site

  abbrev SeesSpot : Anchor → units.Spot → Spot → Type 0
  SeesSpot = vl.SeesSpot lay bound1 c site

  abbrev Evaluates : Anchor → ℕ → List Entry → World → World → ℕ → Out Content → Type 0
  Evaluates = vl.Evaluates lay bound1 c site

  abbrev Locates : Anchor → ℕ → List Entry → World → World → ℕ → Out units.Spot → Type 0
  Locates = vl.Locates lay bound1 c site

  abbrev Piles : Anchor → ℕ → List Entry → World → World → ℕ → ℕ → Out (List Content) → Type 0
  Piles = vl.Piles lay bound1 c site

  abbrev Hands : Anchor → ℕ → List Entry → World → World → ℕ → ℕ → Out (List units.Spot) → Type 0
  Hands = vl.Hands lay bound1 c site

  -- a function is called
  called_by : (an : Anchor) (x : Text) (o : Option ℕ) → lay.linked.find x ≡ o → LiesBelow lay site.unit x × HasResult lay x → (n : ℕ) (code : List Instruction) (spots1 : World → Out (List units.Spot)) → lay.spare site.unit ≤ an.first → (pc : ℕ) (stack : List Entry) (w m : World) → Sees an w m → w.left < an.few → HasAt c.code pc (called_code lay site.unit x o n code) → (HasAt c.code pc code → Hands an pc stack w m (pc + length code) n (spots1 w)) → Evaluates an pc stack w m (pc + length (called_code lay site.unit x o n code)) (called setting frame x o spots1 w)
  called_by an x None is fits n code spots1 room pc stack w m seen lt has run_spots = record { by = λ k go. goes_wrong c _ m w _ refl }
  called_by an x (Some b) is fits n code spots1 room pc stack w m seen lt has run_spots =
      let kind = kind_of (lay.linked.context site.unit) x in
      let own = own_code lay b x in
      let tail = own ∷ i.Forget ∷ i.Call (lay.entry b) n ∷ own ∷ i.Load kind ∷ [] in
      let p1 = pc + length code in
      let has1 = has_back c.code pc code tail has in
      let end : p1 + 1 + 1 + 1 + 1 + 1 ≡ pc + length (code ++ tail) = omega (arith, length-append code tail) in
      let call = site.calls x b is in
      let below : top lay b ≤ lay.spare site.unit = fits.0 b is in
      let p : units.Spot = Held b x 0 in
      let e : Spot = own_spot lay.linked b x 0 in
      record {
        by = λ k go. bound c _ m (spots1 w) _ k ((run_spots (has_front c.code pc code tail has)).by _ (λ ps es w1 m1 len see1 seen1 lt1.
            let an1 = vl.lowered lay bound1 c site an (lay.spare site.unit) site.above room w1 m1 seen1 in
            let here1 : Sees an1 w1 m1 = vl.seen_here lay bound1 c site an.first an.hold w1 m1 seen1 (lay.spare site.unit) in
            let sp : SeesSpot an1 p e = (refl, call.laid.has x (fits.1 b is), call.laid, fits.1 b is) in
            let stack1 = spotted es stack in
            let called1 : units.Frame = record { unit = b; actuals = ps; place = nowhere } in
            let more : Unit {0} → World → Out Content = λ _ w2. ev.load setting frame kind p w2 in
            let goes : Unit {0} → World → Out Content = λ _ w2. bind (site.run called1 (stand (lay.lines b) no_loops) w2) more in
            does_one c (at p1 stack1 here site.callers) m1 own _ has1.0 (does_one c (at (p1 + 1) (At e ∷ stack1) here site.callers) m1 i.Forget _ has1.1.0 (vl.store_meets lay bound1 c site an1 p e sp Nothing w1 m1 here1 (λ st3 w3. Gives (at (p1 + 1 + 1) stack1 here site.callers) (holding st3 w3)) (λ z w2. finish (goes z w2) k) (λ w2 st2 seen2 le.
            let m2 = holding st2 m1 in
            let kept2 = spots_low lay.linked bound1 (lay.spare site.unit) (top lay b) m1.state.store m2.state.store below seen2.kept ps es see1 in
            does_as c (at (p1 + 1 + 1) stack1 here site.callers) m2 (i.Call (lay.entry b) n) _ _ has1.1.1.0 (take_all_spots m2 es stack n _ len) (bound c _ m2 (site.run called1 (stand (lay.lines b) no_loops) w2) more k (call.by an.few an.within ps es (p1 + 1 + 1 + 1) stack w2 m2 _ (vl.seen_here lay bound1 c site an1.first an1.hold w2 m2 seen2 (top lay b)) kept2 (omega arith) (λ w3 m3 seen3 lt3.
            let seen4 : Sees an1 w3 m3 = vl.raised lay bound1 c site an1 (top lay b) w2 m2 below seen2 w3 m3 seen3 in
            does_one c (at (p1 + 1 + 1 + 1) stack here site.callers) m3 own _ has1.1.1.1.0 (vl.load_run lay bound1 c site an1 kind p e sp (p1 + 1 + 1 + 1 + 1) stack w3 m3 k seen4 has1.1.1.1.1.0 (λ z. moved c _ _ (Val z ∷ stack) here site.callers m3 _ end (go z w3 m3 (vl.raised lay bound1 c site an (lay.spare site.unit) w1 m1 room seen1 w3 m3 seen4) lt3)))))))))));
      }

  at_least : (b : Bool) (n : ℕ) → n ≤ actual_room b n
  at_least true n = omega arith
  at_least false n = omega arith

  -- one actual, and then the others
  hand_by : (an : Anchor) (b : Bool) (nr n : ℕ) (cp cv cr : List Instruction) (place1 : World → Out units.Spot) (val : World → Out Content) (more : World → Out (List units.Spot)) → lay.spare site.unit + actual_room b nr ≤ an.first → (pc : ℕ) (stack : List Entry) (w m : World) → Sees an w m → w.left < an.few → HasAt c.code pc (actual_code b (lay.spare site.unit + nr) cp cv ++ cr) → (HasAt c.code pc cp → Locates an pc stack w m (pc + length cp) (place1 w)) → (HasAt c.code pc cv → Evaluates an pc stack w m (pc + length cv) (val w)) → ((an2 : Anchor) → lay.spare site.unit + nr ≤ an2.first → (at1 : ℕ) (stack1 : List Entry) (w1 m1 : World) → Sees an2 w1 m1 → w1.left < an2.few → HasAt c.code at1 cr → Hands an2 at1 stack1 w1 m1 (at1 + length cr) n (more w1)) → Hands an pc stack w m (pc + length (actual_code b (lay.spare site.unit + nr) cp cv ++ cr)) (suc n) (bind (ev.actual_of b place1 val w) (λ p w1. bind (more w1) (λ ps w2. Gives (p ∷ ps) w2)))
  hand_by an true nr n cp cv cr place1 val more room pc stack w m seen lt has run_place run_val run_rest =
      let has1 = has_back c.code pc cp cr has in
      let end : pc + length cp + length cr ≡ pc + length (cp ++ cr) = omega (arith, length-append cp cr) in
      record {
        by = λ k go. bound c _ m (place1 w) _ k ((run_place (has_front c.code pc cp cr has)).by _ (λ p e w1 m1 sp seen1 lt1. bound c _ m1 (more w1) _ k ((run_rest an room (pc + length cp) (At e ∷ stack) w1 m1 seen1 lt1 has1).by _ (λ ps es w2 m2 len see2 seen2 lt2.
            let sp2 = spot_low lay.linked bound1 an.first (lay.spare site.unit) an.hold m2.state.store (omega arith) seen2.kept p e sp in
            moved c _ _ (spotted es (At e ∷ stack)) here site.callers m2 _ end (go (p ∷ ps) (e ∷ es) w2 m2 (ap suc len) (sp2, see2) seen2 lt2)))));
      }
  hand_by an false nr n cp cv cr place1 val more room pc stack w m seen lt has run_place run_val run_rest =
      let q = lay.spare site.unit + nr in
      let cl = i.Lend q ∷ [] in
      let above = site.above in
      let has1 = has_back c.code pc (cv ++ cl) cr has in
      let has2 = has_front c.code pc (cv ++ cl) cr has in
      let has3 = has_back c.code pc cv cl has2 in
      let p1 = pc + length cv + 1 in
      let mid : pc + length (cv ++ cl) ≡ p1 = omega (arith, length-append cv cl) in
      let end : p1 + length cr ≡ pc + length ((cv ++ cl) ++ cr) = omega (arith, length-append (cv ++ cl) cr, length-append cv cl) in
      record {
        by = λ k go. bound c _ m (bind (val w) (λ x w1. Gives (Lent x) w1)) _ k (bound c _ m (val w) _ _ ((run_val (has_front c.code pc cv cl has2)).by _ (λ x w1 m1 seen1 lt1.
            let m2 = holding (put_in q x m1.state.store) m1 in
            let seen2 : Sees an w1 m2 = put_in_kept lay.linked bound1 an.first an.hold w1 m1 seen1 q (omega arith) (omega arith) x in
            let an2 = vl.lowered lay bound1 c site an q (omega arith) (omega arith) w1 m2 seen2 in
            let e = lent_spot q in
            does_one c (at (pc + length cv) (Val x ∷ stack) here site.callers) m1 (i.Lend q) _ has3.0 (bound c _ m2 (more w1) _ k ((run_rest an2 (omega arith) p1 (At e ∷ stack) w1 m2 (vl.seen_here lay bound1 c site an.first an.hold w1 m2 seen2 q) lt1 (has_at c.code _ p1 cr mid has1)).by _ (λ ps es w3 m3 len see3 seen3 lt3.
            let keeps : m3.state.store q ≡ x = seen3.kept q (omega arith) ∙ put_here q x m1.state.store in
            moved c _ _ (spotted es (At e ∷ stack)) here site.callers m3 _ end (go (Lent x ∷ ps) (e ∷ es) w3 m3 (ap suc len) ((q, refl, omega arith, keeps), see3) (vl.raised lay bound1 c site an q w1 m2 (omega arith) seen2 w3 m3 seen3) lt3)))))));
      }

  applied_run : (an : Anchor) (x : Text) (so : Sort) (n : ℕ) (code codes : List Instruction) (vals : World → Out (List Content)) (spots1 : World → Out (List units.Spot)) → Fits lay site.unit x so n → (rooms hands : ℕ) → lay.spare site.unit + applied_room so rooms hands ≤ an.first → (pc : ℕ) (stack : List Entry) (w m : World) → Sees an w m → w.left < an.few → HasAt c.code pc (applied_code lay site.unit x so n code codes) → (lay.spare site.unit + rooms ≤ an.first → (at1 : ℕ) (stack1 : List Entry) (w1 m1 : World) → Sees an w1 m1 → w1.left < an.few → HasAt c.code at1 code → Piles an at1 stack1 w1 m1 (at1 + length code) n (vals w1)) → (lay.spare site.unit + hands ≤ an.first → HasAt c.code pc codes → Hands an pc stack w m (pc + length codes) n (spots1 w)) → Evaluates an pc stack w m (pc + length (applied_code lay site.unit x so n code codes)) (referred setting frame x so vals spots1 w)
  applied_run an x (AnArray ns) n code codes vals spots1 fits rooms hands room pc stack w m seen lt has run_vals run_spots =
      let el = element_code lay site.unit x ns code in
      let inner = has_front c.code pc el (i.Load (kind_of (lay.linked.context site.unit) x) ∷ []) has in
      let last = has_back c.code pc el (i.Load (kind_of (lay.linked.context site.unit) x) ∷ []) has in
      let subs = has_front c.code (pc + 1) code (pars_code lay site.unit ns ++ i.Element (length ns) ∷ []) inner.1 in
      let end : pc + length el + 1 ≡ pc + length (applied_code lay site.unit x (AnArray ns) n code codes) = omega (arith, length-append el (i.Load (kind_of (lay.linked.context site.unit) x) ∷ [])) in
      let loc = vl.element_run lay bound1 c site an x ns vals code pc stack w m seen lt inner (λ stack1 w1 m1 seen1 lt1. subst (λ q. Piles an (pc + 1) stack1 w1 m1 (pc + 1 + length code) q (vals w1)) fits (run_vals room (pc + 1) stack1 w1 m1 seen1 lt1 subs)) in
      record { by = λ k go. bound c _ m (element setting frame x ns vals w) _ k (loc.by _ (λ p e w1 m1 sp seen1 lt1. vl.load_run lay bound1 c site an (kind_of (lay.linked.context site.unit) x) p e sp (pc + length el) stack w1 m1 k seen1 last.0 (λ v. moved c _ _ (Val v ∷ stack) here site.callers m1 _ end (go v w1 m1 seen1 lt1)))) }
  applied_run an x (AnIntrinsic fn) n code codes vals spots1 fits rooms hands room pc stack w m seen lt has run_vals run_spots =
      let last = has_back c.code pc code (i.Known (function_number fn) n ∷ []) has in
      let end : pc + length code + 1 ≡ pc + length (applied_code lay site.unit x (AnIntrinsic fn) n code codes) = omega (arith, length-append code (i.Known (function_number fn) n ∷ [])) in
      record { by = λ k go. bound c _ m (vals w) _ k ((run_vals room pc stack w m seen lt (has_front c.code pc code _ has)).by _ (λ vs w1 m1 len seen1 lt1. vl.known_run lay bound1 c site an fn vs n (pc + length code) stack w1 m1 k len seen1 last.0 (λ v. moved c _ _ (Val v ∷ stack) here site.callers m1 _ end (go v w1 m1 seen1 lt1)))) }
  applied_run an x AFunction n code codes vals spots1 fits rooms hands room pc stack w m seen lt has run_vals run_spots =
      called_by an x (lay.linked.find x) refl fits n codes spots1 (omega arith) pc stack w m seen lt has (run_spots room)

  place_by_run : (an : Anchor) (x : Text) (so : Sort) (n : ℕ) (code : List Instruction) (vals : World → Out (List Content)) → Fits lay site.unit x so n → (rooms hands : ℕ) → lay.spare site.unit + applied_room so rooms hands ≤ an.first → (pc : ℕ) (stack : List Entry) (w m : World) → Sees an w m → w.left < an.few → HasAt c.code pc (ex.place_by lay site.unit x so code) → (lay.spare site.unit + rooms ≤ an.first → (at1 : ℕ) (stack1 : List Entry) (w1 m1 : World) → Sees an w1 m1 → w1.left < an.few → HasAt c.code at1 code → Piles an at1 stack1 w1 m1 (at1 + length code) n (vals w1)) → Locates an pc stack w m (pc + length (ex.place_by lay site.unit x so code)) (place_by setting frame x so vals w)
  place_by_run an x (AnArray ns) n code vals fits rooms hands room pc stack w m seen lt has run_vals =
      vl.element_run lay bound1 c site an x ns vals code pc stack w m seen lt has (λ stack1 w1 m1 seen1 lt1. subst (λ q. Piles an (pc + 1) stack1 w1 m1 (pc + 1 + length code) q (vals w1)) fits (run_vals room (pc + 1) stack1 w1 m1 seen1 lt1 (has_front c.code (pc + 1) code (pars_code lay site.unit ns ++ i.Element (length ns) ∷ []) has.1)))
  place_by_run an x (AnIntrinsic fn) n code vals fits rooms hands room pc stack w m seen lt has run_vals = record { by = λ k go. goes_wrong c _ m w _ refl }
  place_by_run an x AFunction n code vals fits rooms hands room pc stack w m seen lt has run_vals = record { by = λ k go. goes_wrong c _ m w _ refl }

  -- ---- expressions ----

  mutual
    pub value_run : (an : Anchor) (e : Formula) → Counted lay site.unit e → lay.spare site.unit + room_of (lay.linked.context site.unit) e ≤ an.first → (pc : ℕ) (stack : List Entry) (w m : World) → Sees an w m → w.left < an.few → HasAt c.code pc (value_code lay site.unit e) → Evaluates an pc stack w m (pc + length (value_code lay site.unit e)) (value_of setting frame e w)
    value_run an (Int z) fits room pc stack w m seen lt has = record { by = λ k go. does_one c (at pc stack here site.callers) m _ _ has.0 (go (Whole z) w m seen lt) }
    value_run an (f66.Truth b) fits room pc stack w m seen lt has = record { by = λ k go. does_one c (at pc stack here site.callers) m _ _ has.0 (go (Truth b) w m seen lt) }
    value_run an (Letter a) fits room pc stack w m seen lt has = record { by = λ k go. does_one c (at pc stack here site.callers) m _ _ has.0 (go (Whole (pos a)) w m seen lt) }
    value_run an (Ref x) fits room pc stack w m seen lt has = vl.variable_run lay bound1 c site an x pc stack w m seen lt has
    value_run an (Item x es) fits room pc stack w m seen lt has =
        let cx = lay.linked.context site.unit in
        applied_run an x (sort_of cx x) (count es) (values_code lay site.unit es) (actuals_code lay site.unit es) (values_of setting frame es) (spots_of setting frame es) fits.0 (rooms_of cx es) (rooms_to_hand cx es) room pc stack w m seen lt has (λ room1 at1 stack1 w1 m1 seen1 lt1 has1. values_run an es fits.1 room1 at1 stack1 w1 m1 seen1 lt1 has1) (λ room1 has1. actuals_run an es fits.1 room1 pc stack w m seen lt has1)
    value_run an (Group a) fits room pc stack w m seen lt has = value_run an a fits room pc stack w m seen lt has
    value_run an (Plus a) fits room pc stack w m seen lt has =
        record { by = λ k go. bound c _ m (value_of setting frame a w) _ k ((value_run an a fits room pc stack w m seen lt has).by _ (λ v w1 m1 seen1 lt1. vl.plus_end lay bound1 c site an v _ w1 m1 k (go v w1 m1 seen1 lt1))) }
    value_run an (Minus a) fits room pc stack w m seen lt has = vl.sign_run lay bound1 c site an opposite i.Minus (value_code lay site.unit a) pc stack w m _ (λ p m1 v. refl) has (value_run an a fits room pc stack w m seen lt (has_front c.code pc (value_code lay site.unit a) _ has))
    value_run an (Not a) fits room pc stack w m seen lt has = vl.sign_run lay bound1 c site an denied i.Not (value_code lay site.unit a) pc stack w m _ (λ p m1 v. refl) has (value_run an a fits room pc stack w m seen lt (has_front c.code pc (value_code lay site.unit a) _ has))
    value_run an (Pair op a b) fits room pc stack w m seen lt has =
        vl.two_run lay bound1 c site an op (value_code lay site.unit a) (value_code lay site.unit b) pc stack w m _ (value_of setting frame b) has (value_run an a fits.0 (omega arith) pc stack w m seen lt (has_front c.code pc (value_code lay site.unit a) _ has)) (λ v w1 m1 seen1 lt1. value_run an b fits.1 (omega arith) (pc + length (value_code lay site.unit a)) (Val v ∷ stack) w1 m1 seen1 lt1 (has_front c.code _ (value_code lay site.unit b) _ (has_back c.code pc (value_code lay site.unit a) _ has)))

    pub values_run : (an : Anchor) (es : Formulas) → CountedAll lay site.unit es → lay.spare site.unit + rooms_of (lay.linked.context site.unit) es ≤ an.first → (pc : ℕ) (stack : List Entry) (w m : World) → Sees an w m → w.left < an.few → HasAt c.code pc (values_code lay site.unit es) → Piles an pc stack w m (pc + length (values_code lay site.unit es)) (count es) (values_of setting frame es w)
    values_run an NoFormula fits room pc stack w m seen lt has = vl.none_pile lay bound1 c site an pc _ stack w m seen lt (omega arith)
    values_run an (AndFormula e es) fits room pc stack w m seen lt has =
        let mid = pc + length (value_code lay site.unit e) in
        let end : mid + length (values_code lay site.unit es) ≡ pc + length (value_code lay site.unit e ++ values_code lay site.unit es) = omega (arith, length-append (value_code lay site.unit e) (values_code lay site.unit es)) in
        vl.then_pile lay bound1 c site an pc mid _ (count es) stack w m _ (values_of setting frame es) (value_run an e fits.0 (omega arith) pc stack w m seen lt (has_front c.code pc (value_code lay site.unit e) _ has)) (λ v w1 m1 seen1 lt1. subst (λ t. Piles an mid (Val v ∷ stack) w1 m1 t (count es) (values_of setting frame es w1)) end (values_run an es fits.1 (omega arith) mid (Val v ∷ stack) w1 m1 seen1 lt1 (has_back c.code pc (value_code lay site.unit e) _ has)))

    pub place_run : (an : Anchor) (e : Formula) → Counted lay site.unit e → lay.spare site.unit + room_of (lay.linked.context site.unit) e ≤ an.first → (pc : ℕ) (stack : List Entry) (w m : World) → Sees an w m → w.left < an.few → HasAt c.code pc (place_code lay site.unit e) → Locates an pc stack w m (pc + length (place_code lay site.unit e)) (locate setting frame e w)
    place_run an (Ref x) fits room pc stack w m seen lt has = record { by = λ k go. vl.base_run lay bound1 c site an x pc stack w m k seen has.0 (λ p e sp. go p e w m sp seen lt) }
    place_run an (Item x es) fits room pc stack w m seen lt has =
        place_by_run an x (sort_of (lay.linked.context site.unit) x) (count es) (values_code lay site.unit es) (values_of setting frame es) fits.0 (rooms_of (lay.linked.context site.unit) es) (rooms_to_hand (lay.linked.context site.unit) es) room pc stack w m seen lt has (λ room1 at1 stack1 w1 m1 seen1 lt1 has1. values_run an es fits.1 room1 at1 stack1 w1 m1 seen1 lt1 has1)
    place_run an (Int z) fits room pc stack w m seen lt has = record { by = λ k go. goes_wrong c _ m w _ refl }
    place_run an (f66.Truth b) fits room pc stack w m seen lt has = record { by = λ k go. goes_wrong c _ m w _ refl }
    place_run an (Letter a) fits room pc stack w m seen lt has = record { by = λ k go. goes_wrong c _ m w _ refl }
    place_run an (Group a) fits room pc stack w m seen lt has = record { by = λ k go. goes_wrong c _ m w _ refl }
    place_run an (Plus a) fits room pc stack w m seen lt has = record { by = λ k go. goes_wrong c _ m w _ refl }
    place_run an (Minus a) fits room pc stack w m seen lt has = record { by = λ k go. goes_wrong c _ m w _ refl }
    place_run an (Not a) fits room pc stack w m seen lt has = record { by = λ k go. goes_wrong c _ m w _ refl }
    place_run an (Pair op a b) fits room pc stack w m seen lt has = record { by = λ k go. goes_wrong c _ m w _ refl }

    pub actuals_run : (an : Anchor) (es : Formulas) → CountedAll lay site.unit es → lay.spare site.unit + rooms_to_hand (lay.linked.context site.unit) es ≤ an.first → (pc : ℕ) (stack : List Entry) (w m : World) → Sees an w m → w.left < an.few → HasAt c.code pc (actuals_code lay site.unit es) → Hands an pc stack w m (pc + length (actuals_code lay site.unit es)) (count es) (spots_of setting frame es w)
    actuals_run an NoFormula fits room pc stack w m seen lt has =
        let end : pc ≡ pc + 0 = omega arith in
        record { by = λ k go. moved c _ _ stack here site.callers m _ end (go [] [] w m refl tt seen lt) }
    actuals_run an (AndFormula e es) fits room pc stack w m seen lt has =
        let cx = lay.linked.context site.unit in
        let nr = room_of cx e + rooms_to_hand cx es in
        let b = ev.names_place cx e in
        let least = at_least b nr in
        hand_by an b nr (count es) (place_code lay site.unit e) (value_code lay site.unit e) (actuals_code lay site.unit es) (locate setting frame e) (value_of setting frame e) (spots_of setting frame es) room pc stack w m seen lt has (λ has1. place_run an e fits.0 (omega arith) pc stack w m seen lt has1) (λ has1. value_run an e fits.0 (omega arith) pc stack w m seen lt has1) (λ an2 room2 at1 stack1 w1 m1 seen1 lt1 has1. actuals_run an2 es fits.1 (omega arith) at1 stack1 w1 m1 seen1 lt1 has1)
