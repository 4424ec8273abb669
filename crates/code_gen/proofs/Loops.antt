-- A DO or an implied DO begins, and makes a turn.
use Rattle.std.proofs.Common.{◌≡◌, cond, ℕ, ◌+◌, ◌<◌, ◌≤◌, Bool, true, false, List, [], ◌∷◌, ◌++◌, length, sym, ◌∙◌, subst, arith}
use Rattle.std.specs.Prelude.{ℤ, ◌+ℤ◌, int_le}
use Rattle.ground.specs.declared.value.Kind.TheVariants.{Integer}
use Rattle.ground.specs.Content.{Content, Nothing, Whole, Truth}
use Rattle.f66_tree.specs.Syntax.{Text, Par}
use Rattle.f66_tree.specs.World.{Store, put_in, holding, World, Out, Gives, bind, settle, Shown}
use Rattle.f66_tree.specs.Units as units
use Rattle.f66_tree.specs.Units.{Held, Lent, Linkage, Setting, is_main, format_of, dummies_of, position, sizes_of, kind_of, places_of}
use Rattle.f66_tree.specs.Evaluation as ev
use Rattle.f66_tree.specs.Evaluation.{Sort, AnArray, AnIntrinsic, AFunction, sort_of, Intrinsic, Iabs, Mod, Isign, Idim, Max0, Min0, intrinsic, operate, truth_in, opposite, denied, same_whole, asked, held, base, variable_in, par_in, pars_in, distance, element, referred, called, place_by, place_of, subscripts_of, value_of, values_of, spots_of, locate, asks, by_sign, by_operator}
use Rattle.f66_tree.specs.Statements.{LoopParameters, fit_loop_in, loop_start, loop_turn, turn_of}
use Rattle.stack_code.specs.Instructions as i
use Rattle.stack_code.specs.Instructions.{Instruction}
use Rattle.stack_code.specs.StackMachine as sm
use Rattle.stack_code.specs.StackMachine.{Spot, Entry, Val, At, Frame, Caller, Core, Program, act, load, shift, dummy, take_values, known}
use Rattle.code_gen.specs.Layout.{Layout}
use Rattle.code_gen.specs.Expressions.{base_code, par_code}
use Rattle.code_gen.specs.Statements as st
use Rattle.code_gen.specs.Statements.{entries_room}
use Rattle.code_gen.proofs.Steps.{HasAt, has_front, has_back, finish, at, Comes, Meets, does_one, bind_finish, bound, moved}
use Rattle.code_gen.proofs.Sights.{Seen, seen_shown, held_seen, settled, settled_as, put_here, put_other}
use Rattle.code_gen.proofs.LoopSteps.{IsStep, fits_step}
use Rattle.code_gen.proofs.Values as vl
use Rattle.code_gen.proofs.Values.{Calls, Site, piled, take_all, spotted, take_all_spots}

pub meets_bound : {A B : Type 0} (c : Program) (r : Out Core) (q : Out A) (f : A → World → Out B) (k : B → World → Shown) → Meets c r (finish q (λ x w. finish (f x w) k)) → Meets c r (finish (bind q f) k)
meets_bound c r q f k h = subst (Meets c r) (bind_finish q f k) h

-- ---- the units of a DO hold its limit and its step ----

pub keeps_loop : (limit step : ℕ) → (limit ≡ step → ⊥) → (lp : LoopParameters) → IsStep lp → (old : Store) → sm.loop_in limit step (sm.keep_loop limit step lp old) ≡ lp
keeps_loop limit step ne lp fit old =
    let a = put_other step limit (Whole lp.step) (put_in limit (Whole lp.limit) old) ne ∙ put_here limit (Whole lp.limit) old in
    let b = put_here step (Whole lp.step) (put_in limit (Whole lp.limit) old) in
    let s = (λ r. sm.step_in (b r)) ∙ fit in
    λ r. record { limit = sm.limit_in (a r); step = s r }

pub other_unit : (limit step : ℕ) (lp : LoopParameters) (old : Store) (q : ℕ) → (q ≡ limit → ⊥) → (q ≡ step → ⊥) → sm.keep_loop limit step lp old q ≡ old q
other_unit limit step lp old q n1 n2 = put_other step q (Whole lp.step) (put_in limit (Whole lp.limit) old) n2 ∙ put_other limit q (Whole lp.limit) old n1

pub seen_loop : (l : Linkage) (bound first : ℕ) (hold : Store) (limit step : ℕ) → bound ≤ limit → bound ≤ step → limit < first → step < first → (lp : LoopParameters) (w : World) (st1 : Store) (m : World) → Seen l bound first hold w (holding st1 m) → Seen l bound first hold w (holding (sm.keep_loop limit step lp st1) m)
seen_loop l bound first hold limit step a b a1 b1 lp w st1 m h =
    record { store = λ q lt. other_unit limit step lp st1 q (λ e. omega arith) (λ e. omega arith) ∙ h.store q lt; tape = h.tape; left = h.left; count = h.count; kept = λ q le. other_unit limit step lp st1 q (λ e. omega arith) (λ e. omega arith) ∙ h.kept q le }

module _ (lay : Layout) (bound1 : ℕ) (c : Program) (site : Site lay bound1 c) where
  abbrev setting : Setting
  setting = vl.setting lay bound1 c site

  abbrev frame : units.Frame
  frame = vl.frame lay bound1 c site

  abbrev here : Frame
  here = vl.here lay bound1 c site

  abbrev Anchor : Type 0
  Anchor = vl.Anchor lay bound1 c site

  abbrev Sees : Anchor → World → World → Type 0
  Sees = vl.Sees lay bound1 c site

  abbrev SeesSpot : Anchor → units.Spot → Spot → Type 0
  SeesSpot = vl.SeesSpot lay bound1 c site

  module _ (an : Anchor) (stack : List Entry) (limit step : ℕ) where
    pub start_run : (x : Text) (a b d : Par) (next pc : ℕ) (w m : World) → Sees an w m → w.left < an.few → HasAt c.code pc (st.start_code lay site.unit x a b d limit step) → pc + st.start_size lay site.unit a b d ≡ next → (k : LoopParameters → World → Shown) → ((lp : LoopParameters) (w' : World) (st' : Store) (m' : World) → IsStep lp → Sees an w' (holding st' m') → w'.left < an.few → Comes c (at next stack here site.callers) (holding (sm.keep_loop limit step lp st') m') (k lp w')) → Comes c (at pc stack here site.callers) m (finish (loop_start setting frame x a b d w) k)
    start_run x a b d next pc w m seen lt has end k go =
        let ca = par_code lay site.unit a in
        let cb = par_code lay site.unit b in
        let cd = par_code lay site.unit d in
        let last = i.LoopStart limit step ∷ [] in
        let h1 = has_back c.code (pc + 1) ca (cb ++ (cd ++ last)) has.1 in
        let h2 = has_back c.code (pc + 1 + length ca) cb (cd ++ last) h1 in
        let h3 = has_back c.code (pc + 1 + length ca + length cb) cd last h2 in
        let p4 = pc + 1 + length ca + length cb + length cd in
        let e : p4 + 1 ≡ next = omega arith in
        bound c _ m (settle site.place (base setting frame x) w) _ k (vl.base_run lay bound1 c site an x pc stack w m _ seen has.0 (λ p s sp. bound c _ m (par_in setting frame a w) _ k ((vl.par_run lay bound1 c site an a (pc + 1) (At s ∷ stack) w m seen lt (has_front c.code _ ca _ has.1)).by _ (λ va w1 m1 seen1 lt1. bound c _ m1 (par_in setting frame b w1) _ k ((vl.par_run lay bound1 c site an b (pc + 1 + length ca) (Val va ∷ At s ∷ stack) w1 m1 seen1 lt1 (has_front c.code _ cb _ h1)).by _ (λ vb w2 m2 seen2 lt2. bound c _ m2 (par_in setting frame d w2) _ k ((vl.par_run lay bound1 c site an d (pc + 1 + length ca + length cb) (Val vb ∷ Val va ∷ At s ∷ stack) w2 m2 seen2 lt2 (has_front c.code _ cd _ h2)).by _ (λ vd w3 m3 seen3 lt3. bound c _ m3 (settle site.place (fit_loop_in va vb vd) w3) _ k (does_one c (at p4 (Val vd ∷ Val vb ∷ Val va ∷ At s ∷ stack) here site.callers) m3 _ _ h3.0 (settled_as lay.linked bound1 an.first an.hold c site.place w3 m3 seen3 (fit_loop_in va vb vd) _ _ (λ lp is. meets_bound c _ (ev.store_at setting frame p va w3) _ k (vl.store_meets lay bound1 c site an p s sp va w3 m3 seen3 _ _ (λ w4 st4 seen4 le. moved c _ _ stack here site.callers _ _ e (go lp w4 st4 m3 (fits_step va vb vd lp is) seen4 (omega arith)))))))))))))))

    loop_kept : an.first ≤ limit → an.first ≤ step → (w m : World) → Sees an w m → sm.loop_in limit step m.state.store ≡ sm.loop_in limit step an.hold
    loop_kept le1 le2 w m seen =
        let a = seen.kept limit le1 in
        let b = seen.kept step le2 in
        λ j. record { limit = sm.limit_in (a j); step = sm.step_in (b j) }

    turn_by : (v : Bool) (z : ℤ) (p : units.Spot) (s : Spot) → SeesSpot an p s → (to pc : ℕ) (w m : World) → Sees an w m → w.left < an.few → (k : Bool → World → Shown) → ((w' m' : World) → Sees an w' m' → w'.left < an.few → Comes c (at to stack here site.callers) m' (k true w')) → ((w' m' : World) → Sees an w' m' → w'.left < an.few → Comes c (at (pc + 1) stack here site.callers) m' (k false w')) → Meets c (cond v (bind (settle site.place (sm.store s (Whole z) m.state.store) m) (λ st' w1. Gives (at to stack here site.callers) (holding st' w1))) (bind (settle site.place (sm.store s Nothing m.state.store) m) (λ st' w1. Gives (at (pc + 1) stack here site.callers) (holding st' w1)))) (finish (cond v (bind (ev.store_at setting frame p (Whole z) w) (λ _ w1. Gives true w1)) (bind (ev.store_at setting frame p Nothing w) (λ _ w1. Gives false w1))) k)
    turn_by true z p s sp to pc w m seen lt k ok off = meets_bound c _ (ev.store_at setting frame p (Whole z) w) _ k (vl.store_meets lay bound1 c site an p s sp (Whole z) w m seen _ _ (λ w1 st1 seen1 le. ok w1 _ seen1 (omega arith)))
    turn_by false z p s sp to pc w m seen lt k ok off = meets_bound c _ (ev.store_at setting frame p Nothing w) _ k (vl.store_meets lay bound1 c site an p s sp Nothing w m seen _ _ (λ w1 st1 seen1 le. off w1 _ seen1 (omega arith)))

    turn_end : (v : Content) (lp : LoopParameters) (p : units.Spot) (s : Spot) → SeesSpot an p s → (to pc : ℕ) (w m : World) → Sees an w m → w.left < an.few → (k : Bool → World → Shown) → ((w' m' : World) → Sees an w' m' → w'.left < an.few → Comes c (at to stack here site.callers) m' (k true w')) → ((w' m' : World) → Sees an w' m' → w'.left < an.few → Comes c (at (pc + 1) stack here site.callers) m' (k false w')) → Meets c (sm.loop_turn (at pc (At s ∷ stack) here site.callers) to s stack m lp v) (finish (turn_of setting frame p lp v w) k)
    turn_end (Whole z) lp p s sp to pc w m seen lt k ok off = turn_by (int_le (z +ℤ lp.step) lp.limit) (z +ℤ lp.step) p s sp to pc w m seen lt k ok off
    turn_end (Truth b) lp p s sp to pc w m seen lt k ok off = seen_shown lay.linked bound1 an.first an.hold w m seen _
    turn_end Nothing lp p s sp to pc w m seen lt k ok off = seen_shown lay.linked bound1 an.first an.hold w m seen _

    -- a turn of a DO
    pub turn_run : an.first ≤ limit → an.first ≤ step → (x : Text) (to pc : ℕ) (more : List Instruction) (lp : LoopParameters) (w m : World) → Sees an w m → w.left < an.few → sm.loop_in limit step an.hold ≡ lp → HasAt c.code pc (base_code lay site.unit x ∷ i.LoopTurn limit step to ∷ more) → (k : Bool → World → Shown) → ((w' m' : World) → Sees an w' m' → w'.left < an.few → Comes c (at to stack here site.callers) m' (k true w')) → ((w' m' : World) → Sees an w' m' → w'.left < an.few → Comes c (at (pc + 1 + 1) stack here site.callers) m' (k false w')) → Comes c (at pc stack here site.callers) m (finish (loop_turn setting frame x lp w) k)
    turn_run le1 le2 x to pc more lp w m seen lt is has k ok off =
        bound c _ m (settle site.place (base setting frame x) w) _ k (vl.base_run lay bound1 c site an x pc stack w m _ seen has.0 (λ p s sp. bound c _ m (ev.load setting frame Integer p w) _ k (does_one c (at (pc + 1) (At s ∷ stack) here site.callers) m _ _ has.1.0 (subst (λ v. Meets c (bind (settle site.place (asked Integer v) m) (λ x1 w1. sm.loop_turn (at (pc + 1) (At s ∷ stack) here site.callers) to s stack w1 (sm.loop_in limit step w1.state.store) x1)) (finish (ev.load setting frame Integer p w) (λ v2 w2. finish (turn_of setting frame p lp v2 w2) k))) (sym (held_seen lay.linked bound1 an.first an.hold p s w m sp seen)) (settled lay.linked bound1 an.first an.hold c site.place w m seen (asked Integer (held lay.linked p w.state.store)) _ _ (λ v. subst (λ lp1. Meets c (sm.loop_turn (at (pc + 1) (At s ∷ stack) here site.callers) to s stack m lp1 v) (finish (turn_of setting frame p lp v w) k)) (sym (loop_kept le1 le2 w m seen ∙ is)) (turn_end v lp p s sp to (pc + 1) w m seen lt k ok off)))))))
