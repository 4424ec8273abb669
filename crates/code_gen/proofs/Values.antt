-- The machine comes to the value of an expression, to those of several, and to the place that an expression names.
use Rattle.std.proofs.Common.{◌≡◌, cond, ℕ, zero, suc, ◌+◌, ◌<◌, ◌≤◌, nat_lt, Bool, true, false, List, [], ◌∷◌, ◌++◌, length, Option, Some, None, refl, sym, ap, ◌∙◌, subst, arith, length-append, slice_get}
use Rattle.std.proofs.lemmas.List.{append-nil}
use Rattle.std.proofs.lemmas.Bool.{ltb-true}
use Rattle.ground.specs.declared.place.Place.{Place}
use Rattle.ground.specs.declared.value.Kind.{Kind}
use Rattle.ground.specs.declared.trap.Trap.TheVariants.{Subscript}
use Rattle.ground.specs.Content.{Content, Nothing, Whole, Truth}
use Rattle.f66_tree.specs.declared.expression.Operator.{Operator}
use Rattle.f66_tree.specs.Syntax.{Text, Par, Constant, Named}
use Rattle.f66_tree.specs.World.{Store, put_in, holding, World, Out, Gives, bind, Try, Yields, Traps, Fails, then_try, settle, Shown}
use Rattle.f66_tree.specs.Units as units
use Rattle.f66_tree.specs.Units.{Held, Lent, Linkage, Setting, is_main, format_of, dummies_of, position, sizes_of, kind_of, places_of}
use Rattle.f66_tree.specs.Evaluation as ev
use Rattle.f66_tree.specs.Evaluation.{Sort, AnArray, AnIntrinsic, AFunction, sort_of, Intrinsic, Iabs, Mod, Isign, Idim, Max0, Min0, intrinsic, operate, truth_in, opposite, denied, same_whole, asked, held, base, variable_in, par_in, pars_in, distance, element, referred, called, place_by, place_of, subscripts_of, value_of, values_of, spots_of, locate, asks, by_sign, by_operator}
use Rattle.f66_tree.specs.Execution.{Stand, stand, target, nowhere, no_loops}
use Rattle.stack_code.specs.Instructions as i
use Rattle.stack_code.specs.Instructions.{Instruction}
use Rattle.stack_code.specs.StackMachine as sm
use Rattle.stack_code.specs.StackMachine.{Spot, Entry, Val, At, Frame, Caller, Core, Program, act, load, shift, dummy, take_values, known}
use Rattle.code_gen.specs.Layout.{Layout, size_in}
use Rattle.code_gen.specs.Expressions.{base_by, base_code, variable_code, par_code, pars_code, operator_by, operator_code, is_relation, function_number, element_code}
use Rattle.code_gen.specs.Coded.{IsLaid, IsOwn, top}
use Rattle.code_gen.proofs.Steps.{HasAt, has_front, has_back, finish, at, Comes, Meets, does_one, does_as, bound, moved, goes_wrong}
use Rattle.code_gen.proofs.Sights.{own_spot, lent_spot, Seen, SpotSeen, SpotsSeen, seen_shown, held_seen, settled, dummy_meets, seen_put, spots_low}

-- the values on the stack, the last on top
abbrev pub piled : List Content → List Entry → List Entry
piled [] stack = stack
piled (v ∷ vs) stack = piled vs (Val v ∷ stack)

take_piled : (w : World) (vs : List Content) (stack : List Entry) (got : List Content) (n k : ℕ) (f : List Content → List Entry → Out Core) → length vs + k ≡ n → take_values w n (piled vs stack) got f ≡ take_values w k stack (vs ++ got) f
take_piled w [] stack got n k f e = let e' : n ≡ k = omega arith in ap (λ m. take_values w m stack got f) e'
take_piled w (v ∷ vs) stack got n k f e = take_piled w vs (Val v ∷ stack) got n (suc k) f (omega arith)

pub take_all : (w : World) (vs : List Content) (stack : List Entry) (n : ℕ) (f : List Content → List Entry → Out Core) → length vs ≡ n → take_values w n (piled vs stack) [] f ≡ f vs stack
take_all w vs stack n f e = take_piled w vs stack [] n 0 f (omega arith) ∙ ap (λ l. f l stack) (append-nil vs)

pub known_number : (g : Intrinsic) → known (function_number g) ≡ Some g
known_number Iabs = refl
known_number Mod = refl
known_number Isign = refl
known_number Idim = refl
known_number Max0 = refl
known_number Min0 = refl

-- the spots on the stack, the last on top
abbrev pub spotted : List Spot → List Entry → List Entry
spotted [] stack = stack
spotted (p ∷ ps) stack = spotted ps (At p ∷ stack)

take_spotted : (w : World) (ps : List Spot) (stack : List Entry) (got : List Spot) (n k : ℕ) (f : List Spot → List Entry → Out Core) → length ps + k ≡ n → sm.take_spots w n (spotted ps stack) got f ≡ sm.take_spots w k stack (ps ++ got) f
take_spotted w [] stack got n k f e = let e' : n ≡ k = omega arith in ap (λ m. sm.take_spots w m stack got f) e'
take_spotted w (p ∷ ps) stack got n k f e = take_spotted w ps (At p ∷ stack) got n (suc k) f (omega arith)

pub take_all_spots : (w : World) (ps : List Spot) (stack : List Entry) (n : ℕ) (f : List Spot → List Entry → Out Core) → length ps ≡ n → sm.take_spots w n (spotted ps stack) [] f ≡ f ps stack
take_all_spots w ps stack n f e = take_spotted w ps stack [] n 0 f (omega arith) ∙ ap (λ l. f l stack) (append-nil ps)

-- A call of a unit: from its entry the machine does what the unit's run does, and comes back behind the call. It touches no unit
-- past those that the called unit keeps something in.
pub record Calls (lay : Layout) (bound1 : ℕ) (c : Program) (most : ℕ) (run : units.Frame → Stand → World → Out (Unit {0})) (here : Frame) (callers : List Caller) (v : ℕ) : Type 0 where
  pub laid : IsLaid lay.linked v bound1
  pub by : (few : ℕ) → few ≤ most → (ps : List units.Spot) (es : List Spot) (back : ℕ) (stack : List Entry) (w m : World) (k : Unit {0} → World → Shown) → Seen lay.linked bound1 (top lay v) m.state.store w m → SpotsSeen lay.linked bound1 (top lay v) m.state.store ps es → w.left < few → ((w' m' : World) → Seen lay.linked bound1 (top lay v) m.state.store w' m' → w'.left < few → Comes c (at back stack here callers) m' (k tt w')) → Comes c (at (lay.entry v) stack (record { place = here.place; spots = es }) (record { back = back; frame = here } ∷ callers)) m (finish (run (record { unit = v; actuals = ps; place = nowhere }) (stand (lay.lines v) no_loops) w) k)

-- where a statement is executed: in which unit, with what calls do, and how many statements may still begin
pub record Site (lay : Layout) (bound1 : ℕ) (c : Program) : Type 0 where
  pub most : ℕ
  pub run : units.Frame → Stand → World → Out (Unit {0})
  pub callers : List Caller
  pub unit : ℕ
  pub laid : IsLaid lay.linked unit bound1
  pub above : bound1 ≤ lay.spare unit
  pub place : Place
  pub actuals : List units.Spot
  pub spots : List Spot
  pub calls : (x : Text) (v : ℕ) → lay.linked.find x ≡ Some v → Calls lay bound1 c most run (record { place = place; spots = spots }) callers v

module _ (lay : Layout) (bound1 : ℕ) (c : Program) (site : Site lay bound1 c) where
  abbrev pub setting : Setting
  setting = target lay.linked lay.lines site.most site.run

  abbrev pub frame : units.Frame
  frame = record { unit = site.unit; actuals = site.actuals; place = site.place }

  abbrev pub here : Frame
  here = record { place = site.place; spots = site.spots }

  -- units from a first one on hold what they held in a store, and fewer statements than so many may begin
  pub record Anchor : Type 0 where
    pub first : ℕ
    pub hold : Store
    pub low : bound1 ≤ first
    pub see : SpotsSeen lay.linked bound1 first hold site.actuals site.spots
    pub few : ℕ
    pub within : few ≤ site.most

  abbrev pub Sees : Anchor → World → World → Type 0
  Sees an w m = Seen lay.linked bound1 an.first an.hold w m

  abbrev pub SeesSpot : Anchor → units.Spot → Spot → Type 0
  SeesSpot an p e = SpotSeen lay.linked bound1 an.first an.hold p e

  -- from here the machine comes to a value on the stack, or to an end, as r says
  pub record Evaluates (an : Anchor) (pc : ℕ) (stack : List Entry) (w m : World) (to : ℕ) (r : Out Content) : Type 0 where
    pub by : (k : Content → World → Shown) → ((v : Content) (w' m' : World) → Sees an w' m' → w'.left < an.few → Comes c (at to (Val v ∷ stack) here site.callers) m' (k v w')) → Comes c (at pc stack here site.callers) m (finish r k)

  -- the same for a spot
  pub record Locates (an : Anchor) (pc : ℕ) (stack : List Entry) (w m : World) (to : ℕ) (r : Out units.Spot) : Type 0 where
    pub by : (k : units.Spot → World → Shown) → ((p : units.Spot) (e : Spot) (w' m' : World) → SeesSpot an p e → Sees an w' m' → w'.left < an.few → Comes c (at to (At e ∷ stack) here site.callers) m' (k p w')) → Comes c (at pc stack here site.callers) m (finish r k)

  -- the same for n values
  pub record Piles (an : Anchor) (pc : ℕ) (stack : List Entry) (w m : World) (to n : ℕ) (r : Out (List Content)) : Type 0 where
    pub by : (k : List Content → World → Shown) → ((vs : List Content) (w' m' : World) → length vs ≡ n → Sees an w' m' → w'.left < an.few → Comes c (at to (piled vs stack) here site.callers) m' (k vs w')) → Comes c (at pc stack here site.callers) m (finish r k)

  -- the same for n actuals, whose values stand in the spare units of the unit
  pub record Hands (an : Anchor) (pc : ℕ) (stack : List Entry) (w m : World) (to n : ℕ) (r : Out (List units.Spot)) : Type 0 where
    pub by : (k : List units.Spot → World → Shown) → ((ps : List units.Spot) (es : List Spot) (w' m' : World) → length es ≡ n → SpotsSeen lay.linked bound1 (lay.spare site.unit) m'.state.store ps es → Sees an w' m' → w'.left < an.few → Comes c (at to (spotted es stack) here site.callers) m' (k ps w')) → Comes c (at pc stack here site.callers) m (finish r k)

  -- an anchor at a lower unit, in the store as it is now
  abbrev pub lowered : (an : Anchor) (q : ℕ) → bound1 ≤ q → q ≤ an.first → (w m : World) → Sees an w m → Anchor
  lowered an q above below w m seen =
      record { first = q; hold = m.state.store; low = above; see = spots_low lay.linked bound1 an.first q an.hold m.state.store below seen.kept site.actuals site.spots an.see; few = an.few; within = an.within }

  -- where fewer statements may begin
  abbrev pub narrowed : Anchor → (few : ℕ) → few ≤ site.most → Anchor
  narrowed an few within = record { first = an.first; hold = an.hold; low = an.low; see = an.see; few = few; within = within }

  pub seen_here : (first : ℕ) (hold : Store) (w m : World) → Seen lay.linked bound1 first hold w m → (q : ℕ) → Seen lay.linked bound1 q m.state.store w m
  seen_here first hold w m seen q = record { store = seen.store; tape = seen.tape; left = seen.left; count = seen.count; kept = λ r le. refl }

  -- what holds from a lower one on holds from the higher one on
  pub raised : (an : Anchor) (q : ℕ) (w m : World) → q ≤ an.first → Sees an w m → (w' m' : World) → Seen lay.linked bound1 q m.state.store w' m' → Sees an w' m'
  raised an q w m below seen w' m' h = record { store = h.store; tape = h.tape; left = h.left; count = h.count; kept = λ r le. h.kept r (omega arith) ∙ seen.kept r le }

  module _ (an : Anchor) where
    -- the places of a name
    pub base_by_run : (x : Text) (o : Option ℕ) → position x (dummies_of (lay.linked.context site.unit).header) ≡ o → (pc : ℕ) (stack : List Entry) (w m : World) (k : units.Spot → World → Shown) → Sees an w m → slice_get c.code pc ≡ Some (base_by lay site.unit x o) → ((p : units.Spot) (e : Spot) → SeesSpot an p e → Comes c (at (pc + 1) (At e ∷ stack) here site.callers) m (k p w)) → Comes c (at pc stack here site.callers) m (finish (settle site.place (ev.base_by o site.unit site.actuals x) w) k)
    base_by_run x None is pc stack w m k seen has go = does_one c (at pc stack here site.callers) m _ _ has (go (Held site.unit x 0) (own_spot lay.linked site.unit x 0) (refl, site.laid.has x is, site.laid, is))
    base_by_run x (Some n) is pc stack w m k seen has go = does_one c (at pc stack here site.callers) m _ _ has (dummy_meets lay.linked bound1 an.first an.hold c site.place w m seen n site.actuals site.spots an.see _ k go)

    pub base_run : (x : Text) (pc : ℕ) (stack : List Entry) (w m : World) (k : units.Spot → World → Shown) → Sees an w m → slice_get c.code pc ≡ Some (base_code lay site.unit x) → ((p : units.Spot) (e : Spot) → SeesSpot an p e → Comes c (at (pc + 1) (At e ∷ stack) here site.callers) m (k p w)) → Comes c (at pc stack here site.callers) m (finish (settle site.place (base setting frame x) w) k)
    base_run x = base_by_run x (position x (dummies_of (lay.linked.context site.unit).header)) refl

    -- what a spot holds
    pub load_run : (kind : Kind) (p : units.Spot) (e : Spot) → SeesSpot an p e → (pc : ℕ) (stack : List Entry) (w m : World) (k : Content → World → Shown) → Sees an w m → slice_get c.code pc ≡ Some (i.Load kind) → ((v : Content) → Comes c (at (pc + 1) (Val v ∷ stack) here site.callers) m (k v w)) → Comes c (at pc (At e ∷ stack) here site.callers) m (finish (ev.load setting frame kind p w) k)
    load_run kind p e sp pc stack w m k seen has go =
        does_one c (at pc (At e ∷ stack) here site.callers) m (i.Load kind) _ has (subst (λ v. Meets c (bind (settle site.place (asked kind v) m) (λ x w1. Gives (at (pc + 1) (Val x ∷ stack) here site.callers) w1)) (finish (ev.load setting frame kind p w) k)) (sym (held_seen lay.linked bound1 an.first an.hold p e w m sp seen)) (settled lay.linked bound1 an.first an.hold c site.place w m seen (asked kind (held lay.linked p w.state.store)) _ k go))

    pub variable_run : (x : Text) (pc : ℕ) (stack : List Entry) (w m : World) → Sees an w m → w.left < an.few → HasAt c.code pc (variable_code lay site.unit x) → Evaluates an pc stack w m (pc + 2) (variable_in setting frame x w)
    variable_run x pc stack w m seen lt has =
        let e : pc + 1 + 1 ≡ pc + 2 = omega arith in
        record { by = λ k go. bound c _ m (settle site.place (base setting frame x) w) _ k (base_run x pc stack w m _ seen has.0 (λ p s sp. load_run (kind_of (lay.linked.context site.unit) x) p s sp (pc + 1) stack w m k seen has.1.0 (λ v. moved c _ _ (Val v ∷ stack) here site.callers m _ e (go v w m seen lt)))) }

    pub par_run : (n : Par) (pc : ℕ) (stack : List Entry) (w m : World) → Sees an w m → w.left < an.few → HasAt c.code pc (par_code lay site.unit n) → Evaluates an pc stack w m (pc + length (par_code lay site.unit n)) (par_in setting frame n w)
    par_run (Constant z) pc stack w m seen lt has = record { by = λ k go. does_one c (at pc stack here site.callers) m _ _ has.0 (go (Whole z) w m seen lt) }
    par_run (Named x) pc stack w m seen lt has = variable_run x pc stack w m seen lt has

    -- several, one after the other
    pub then_pile : (pc mid to n : ℕ) (stack : List Entry) (w m : World) (r : Out Content) (rest : World → Out (List Content)) → Evaluates an pc stack w m mid r → ((v : Content) (w' m' : World) → Sees an w' m' → w'.left < an.few → Piles an mid (Val v ∷ stack) w' m' to n (rest w')) → Piles an pc stack w m to (suc n) (bind r (λ v w1. bind (rest w1) (λ vs w2. Gives (v ∷ vs) w2)))
    then_pile pc mid to n stack w m r rest one more =
        record { by = λ k go. bound c _ m r _ k (one.by _ (λ v w1 m1 seen1 lt1. bound c _ m1 (rest w1) _ k ((more v w1 m1 seen1 lt1).by _ (λ vs w2 m2 len seen2 lt2. go (v ∷ vs) w2 m2 (ap suc len) seen2 lt2)))) }

    pub none_pile : (pc to : ℕ) (stack : List Entry) (w m : World) → Sees an w m → w.left < an.few → pc ≡ to → Piles an pc stack w m to 0 (Gives [] w)
    none_pile pc to stack w m seen lt e = record { by = λ k go. moved c _ _ stack here site.callers m _ e (go [] w m refl seen lt) }

    pub pars_run : (ns : List Par) (pc : ℕ) (stack : List Entry) (w m : World) → Sees an w m → w.left < an.few → HasAt c.code pc (pars_code lay site.unit ns) → Piles an pc stack w m (pc + length (pars_code lay site.unit ns)) (length ns) (pars_in setting frame ns w)
    pars_run [] pc stack w m seen lt has = none_pile pc _ stack w m seen lt (omega arith)
    pars_run (n ∷ ns) pc stack w m seen lt has =
        let e : pc + length (par_code lay site.unit n) + length (pars_code lay site.unit ns) ≡ pc + length (par_code lay site.unit n ++ pars_code lay site.unit ns) = omega (arith, length-append (par_code lay site.unit n) (pars_code lay site.unit ns)) in
        then_pile pc (pc + length (par_code lay site.unit n)) _ (length ns) stack w m _ (pars_in setting frame ns) (par_run n pc stack w m seen lt (has_front c.code pc (par_code lay site.unit n) _ has)) (λ v w1 m1 seen1 lt1. subst (λ t. Piles an (pc + length (par_code lay site.unit n)) (Val v ∷ stack) w1 m1 t (length ns) (pars_in setting frame ns w1)) e (pars_run ns (pc + length (par_code lay site.unit n)) (Val v ∷ stack) w1 m1 seen1 lt1 (has_back c.code pc (par_code lay site.unit n) _ has)))

    -- ---- elements ----

    pub shift_own : (v : ℕ) (x : Text) (o n : ℕ) (b : Bool) → nat_lt (o + n) (size_in (lay.linked.context v) x) ≡ b → IsLaid lay.linked v bound1 → IsOwn lay.linked v x → (w m : World) (f : Spot → World → Out Core) (k : units.Spot → World → Shown) → Sees an w m → ((p : units.Spot) (e : Spot) → SeesSpot an p e → Meets c (f e m) (k p w)) → Meets c (bind (settle site.place (cond b (Yields (own_spot lay.linked v x (o + n))) (Traps Subscript)) m) f) (finish (settle site.place (cond b (Yields (Held v x (o + n))) (Traps Subscript)) w) k)
    shift_own v x o n true is laid1 own w m f k seen go = go (Held v x (o + n)) (own_spot lay.linked v x (o + n)) (refl, ltb-true (o + n) (size_in (lay.linked.context v) x) is, laid1, own)
    shift_own v x o n false is laid1 own w m f k seen go = seen_shown lay.linked bound1 an.first an.hold w m seen _

    pub shift_lent : (q n : ℕ) (a : Content) (b : Bool) → nat_lt (0 + suc n) 1 ≡ b → (w m : World) (f : Spot → World → Out Core) (k : units.Spot → World → Shown) → Sees an w m → Meets c (bind (settle site.place (cond b (Yields (record { first = q; size = 1; position = 0 + suc n; fixed = true })) (Traps Subscript)) m) f) (finish (settle site.place (ev.moved lay.linked (Lent a) (suc n)) w) k)
    shift_lent q n a true is w m f k seen = let lt = ltb-true (0 + suc n) 1 is in absurd (omega arith)
    shift_lent q n a false is w m f k seen = seen_shown lay.linked bound1 an.first an.hold w m seen _

    pub shift_meets : (p : units.Spot) (e : Spot) (n : ℕ) → SeesSpot an p e → (w m : World) (f : Spot → World → Out Core) (k : units.Spot → World → Shown) → Sees an w m → ((p : units.Spot) (e : Spot) → SeesSpot an p e → Meets c (f e m) (k p w)) → Meets c (bind (settle site.place (shift e n) m) f) (finish (settle site.place (ev.moved lay.linked p n) w) k)
    shift_meets (Held v x o) e n sp w m f k seen go =
        subst (λ s. Meets c (bind (settle site.place (shift s n) m) f) (finish (settle site.place (ev.moved lay.linked (Held v x o) n) w) k)) (sym sp.0) (shift_own v x o n (nat_lt (o + n) (size_in (lay.linked.context v) x)) refl sp.2 sp.3 w m f k seen go)
    shift_meets (Lent a) e zero sp w m f k seen go =
        subst (λ s. Meets c (bind (settle site.place (shift s 0) m) f) (finish (settle site.place (ev.moved lay.linked (Lent a) 0) w) k)) (sym sp.1) (go (Lent a) (lent_spot sp.0) (sp.0, refl, sp.2, sp.3))
    shift_meets (Lent a) e (suc n) sp w m f k seen go =
        subst (λ s. Meets c (bind (settle site.place (shift s (suc n)) m) f) (finish (settle site.place (ev.moved lay.linked (Lent a) (suc n)) w) k)) (sym sp.1) (shift_lent sp.0 n a (nat_lt (0 + suc n) 1) refl w m f k seen)

    pub distance_meets : (t : Try ℕ) (p : units.Spot) (e : Spot) → SeesSpot an p e → (w m : World) (f : Spot → World → Out Core) (k : units.Spot → World → Shown) → Sees an w m → ((p : units.Spot) (e : Spot) → SeesSpot an p e → Meets c (f e m) (k p w)) → Meets c (bind (settle site.place (then_try t (λ n. shift e n)) m) f) (finish (bind (settle site.place t w) (λ n w1. settle site.place (ev.moved lay.linked p n) w1)) k)
    distance_meets (Yields n) p e sp w m f k seen go = shift_meets p e n sp w m f k seen go
    distance_meets (Traps t) p e sp w m f k seen go = seen_shown lay.linked bound1 an.first an.hold w m seen _
    distance_meets Fails p e sp w m f k seen go = seen_shown lay.linked bound1 an.first an.hold w m seen _

    -- the tests of an element
    pub element_end : (is' ds : List Content) (n pc : ℕ) (stack : List Entry) (p : units.Spot) (e : Spot) (w m : World) (k : units.Spot → World → Shown) → length is' ≡ n → length ds ≡ n → SeesSpot an p e → Sees an w m → slice_get c.code pc ≡ Some (i.Element n) → ((p : units.Spot) (e : Spot) → SeesSpot an p e → Comes c (at (pc + 1) (At e ∷ stack) here site.callers) m (k p w)) → Comes c (at pc (piled ds (piled is' (At e ∷ stack))) here site.callers) m (finish (bind (settle site.place (distance 1 is' ds) w) (λ n w1. settle site.place (ev.moved lay.linked p n) w1)) k)
    element_end is' ds n pc stack p e w m k li ld sp seen has go =
        let s = at pc (piled ds (piled is' (At e ∷ stack))) here site.callers in
        does_as c s m (i.Element n) (bind (settle site.place (then_try (distance 1 is' ds) (λ n. shift e n)) m) (λ q w1. Gives (at (pc + 1) (At q ∷ stack) here site.callers) w1)) _ has (take_all m ds (piled is' (At e ∷ stack)) n _ ld ∙ take_all m is' (At e ∷ stack) n _ li) (distance_meets (distance 1 is' ds) p e sp w m _ k seen go)

    pub element_run : (x : Text) (ns : List Par) (vals : World → Out (List Content)) (code : List Instruction) (pc : ℕ) (stack : List Entry) (w m : World) → Sees an w m → w.left < an.few → HasAt c.code pc (element_code lay site.unit x ns code) → ((stack1 : List Entry) (w1 m1 : World) → Sees an w1 m1 → w1.left < an.few → Piles an (pc + 1) stack1 w1 m1 (pc + 1 + length code) (length ns) (vals w1)) → Locates an pc stack w m (pc + length (element_code lay site.unit x ns code)) (element setting frame x ns vals w)
    element_run x ns vals code pc stack w m seen lt has run_vals =
        let tail = pars_code lay site.unit ns ++ i.Element (length ns) ∷ [] in
        let mid = pc + 1 + length code in
        let has_pars = has_back c.code (pc + 1) code tail has.1 in
        let has_end = has_back c.code mid (pars_code lay site.unit ns) (i.Element (length ns) ∷ []) has_pars in
        let end : mid + length (pars_code lay site.unit ns) + 1 ≡ pc + length (element_code lay site.unit x ns code) = omega (arith, length-append code tail, length-append (pars_code lay site.unit ns) (i.Element (length ns) ∷ [])) in
        record { by = λ k go. bound c _ m (settle site.place (base setting frame x) w) _ k (base_run x pc stack w m _ seen has.0 (λ p e sp. bound c _ m (vals w) _ k ((run_vals (At e ∷ stack) w m seen lt).by _ (λ is' w1 m1 li seen1 lt1. bound c _ m1 (pars_in setting frame ns w1) _ k ((pars_run ns mid (piled is' (At e ∷ stack)) w1 m1 seen1 lt1 (has_front c.code mid (pars_code lay site.unit ns) _ has_pars)).by _ (λ ds w2 m2 ld seen2 lt2. element_end is' ds (length ns) (mid + length (pars_code lay site.unit ns)) stack p e w2 m2 k li ld sp seen2 has_end.0 (λ p1 e1 sp1. moved c _ _ (At e1 ∷ stack) here site.callers m2 _ end (go p1 e1 w2 m2 sp1 seen2 lt2)))))))) }

    -- ---- names with arguments ----

    pub known_run : (fn : Intrinsic) (vs : List Content) (n pc : ℕ) (stack : List Entry) (w m : World) (k : Content → World → Shown) → length vs ≡ n → Sees an w m → slice_get c.code pc ≡ Some (i.Known (function_number fn) n) → ((v : Content) → Comes c (at (pc + 1) (Val v ∷ stack) here site.callers) m (k v w)) → Comes c (at pc (piled vs stack) here site.callers) m (finish (settle site.place (intrinsic fn vs) w) k)
    known_run fn vs n pc stack w m k len seen has go =
        let s = at pc (piled vs stack) here site.callers in
        let acts = take_all m vs stack n (λ vs1 rest. bind (settle site.place (sm.intrinsic_by (known (function_number fn)) vs1) m) (λ v w1. Gives (at (pc + 1) (Val v ∷ rest) here site.callers) w1)) len ∙ ap (λ o. bind (settle site.place (sm.intrinsic_by o vs) m) (λ v w1. Gives (at (pc + 1) (Val v ∷ stack) here site.callers) w1)) (known_number fn) in
        does_as c s m (i.Known (function_number fn) n) (bind (settle site.place (intrinsic fn vs) m) (λ v w1. Gives (at (pc + 1) (Val v ∷ stack) here site.callers) w1)) _ has acts (settled lay.linked bound1 an.first an.hold c site.place w m seen (intrinsic fn vs) _ k go)

    -- ---- operators ----

    pub op_acts : (b : Bool) (op : Operator) (pc : ℕ) (stack : List Entry) (m : World) (v y : Content) → act c.plans (Some (operator_by b op)) (at pc (Val y ∷ Val v ∷ stack) here site.callers) m ≡ bind (settle site.place (operate op v y) m) (λ r w1. Gives (at (pc + 1) (Val r ∷ stack) here site.callers) w1)
    op_acts true op pc stack m v y = refl
    op_acts false op pc stack m v y = refl

    pub two_run : (op : Operator) (ca cb : List Instruction) (pc : ℕ) (stack : List Entry) (w m : World) (ra : Out Content) (rb : World → Out Content) → HasAt c.code pc (ca ++ (cb ++ operator_code op ∷ [])) → Evaluates an pc stack w m (pc + length ca) ra → ((v : Content) (w1 m1 : World) → Sees an w1 m1 → w1.left < an.few → Evaluates an (pc + length ca) (Val v ∷ stack) w1 m1 (pc + length ca + length cb) (rb w1)) → Evaluates an pc stack w m (pc + length (ca ++ (cb ++ operator_code op ∷ []))) (by_operator setting frame op ra rb)
    two_run op ca cb pc stack w m ra rb has ya yb =
        let last = has_back c.code (pc + length ca) cb (operator_code op ∷ []) (has_back c.code pc ca _ has) in
        let p2 = pc + length ca + length cb in
        let end : p2 + 1 ≡ pc + length (ca ++ (cb ++ operator_code op ∷ [])) = omega (arith, length-append ca (cb ++ operator_code op ∷ []), length-append cb (operator_code op ∷ [])) in
        record { by = λ k go. bound c _ m ra _ k (ya.by _ (λ v w1 m1 seen1 lt1. bound c _ m1 (rb w1) _ k ((yb v w1 m1 seen1 lt1).by _ (λ y w2 m2 seen2 lt2. does_as c (at p2 (Val y ∷ Val v ∷ stack) here site.callers) m2 (operator_code op) _ _ last.0 (op_acts (is_relation op) op p2 stack m2 v y) (settled lay.linked bound1 an.first an.hold c site.place w2 m2 seen2 (operate op v y) _ k (λ r. moved c _ _ (Val r ∷ stack) here site.callers m2 _ end (go r w2 m2 seen2 lt2))))))) }

    pub sign_run : (op : Content → Try Content) (last : Instruction) (ca : List Instruction) (pc : ℕ) (stack : List Entry) (w m : World) (ra : Out Content) → ((p : ℕ) (m1 : World) (v : Content) → act c.plans (Some last) (at p (Val v ∷ stack) here site.callers) m1 ≡ bind (settle site.place (op v) m1) (λ r w1. Gives (at (p + 1) (Val r ∷ stack) here site.callers) w1)) → HasAt c.code pc (ca ++ last ∷ []) → Evaluates an pc stack w m (pc + length ca) ra → Evaluates an pc stack w m (pc + length (ca ++ last ∷ [])) (by_sign setting frame op ra)
    sign_run op last ca pc stack w m ra acts has ya =
        let end : pc + length ca + 1 ≡ pc + length (ca ++ last ∷ []) = omega (arith, length-append ca (last ∷ [])) in
        record { by = λ k go. bound c _ m ra _ k (ya.by _ (λ v w1 m1 seen1 lt1. does_as c (at (pc + length ca) (Val v ∷ stack) here site.callers) m1 last _ _ (has_back c.code pc ca (last ∷ []) has).0 (acts (pc + length ca) m1 v) (settled lay.linked bound1 an.first an.hold c site.place w1 m1 seen1 (op v) _ k (λ r. moved c _ _ (Val r ∷ stack) here site.callers m1 _ end (go r w1 m1 seen1 lt1))))) }

    pub plus_end : (v : Content) (s : Core) (w m : World) (k : Content → World → Shown) → Comes c s m (k v w) → Comes c s m (finish (settle site.place (same_whole v) w) k)
    plus_end (Whole z) s w m k h = h
    plus_end (Truth b) s w m k h = goes_wrong c s m w _ refl
    plus_end Nothing s w m k h = goes_wrong c s m w _ refl

    -- a content is stored
    pub store_meets : (p : units.Spot) (e : Spot) → SeesSpot an p e → (v : Content) (w m : World) → Sees an w m → (f : Store → World → Out Core) (k : Unit {0} → World → Shown) → ((w1 : World) (st : Store) → Sees an w1 (holding st m) → w1.left ≡ w.left → Meets c (f st m) (k tt w1)) → Meets c (bind (settle site.place (sm.store e v m.state.store) m) f) (finish (ev.store_at setting frame p v w) k)
    store_meets (Held r x o) e sp v w m seen f k go =
        let number : lay.linked.number r x 0 + o ≡ lay.linked.number r x o = sym (sp.2.runs x o sp.3 sp.1) in
        let st = put_in (lay.linked.number r x 0 + o) v m.state.store in
        let seen1 = seen_put lay.linked bound1 an.first an.hold an.low w m seen (lay.linked.number r x o) (sp.2.below x o sp.3 sp.1) v in
        let seen2 = subst (λ q. Sees an (holding (put_in (lay.linked.number r x o) v w.state.store) w) (holding (put_in q v m.state.store) m)) (sym number) seen1 in
        subst (λ s. Meets c (bind (settle site.place (sm.store s v m.state.store) m) f) (finish (ev.store_at setting frame (Held r x o) v w) k)) (sym sp.0) (go (holding (put_in (lay.linked.number r x o) v w.state.store) w) st seen2 refl)
    store_meets (Lent a) e sp v w m seen f k go =
        subst (λ s. Meets c (bind (settle site.place (sm.store s v m.state.store) m) f) (finish (ev.store_at setting frame (Lent a) v w) k)) (sym sp.1) (seen_shown lay.linked bound1 an.first an.hold w m seen _)
