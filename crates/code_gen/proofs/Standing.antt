-- Where the code of statements stands: each rest of a unit's statements at its distance from the unit's end.
use Rattle.std.proofs.Common.{◌≡◌, cond, ℕ, suc, ◌+◌, ◌≤◌, nat_eq, Bool, true, false, List, [], ◌∷◌, ◌++◌, length, Option, Some, None, refl, sym, subst, arith, slice_get}
use Rattle.ground.specs.declared.place.Place.{Place}
use Rattle.f66_tree.specs.Syntax.{Act, Loop, Line}
use Rattle.f66_tree.specs.Units.{is_note}
use Rattle.f66_tree.specs.Execution.{runnable, has_label, from_label, Closer, closer_of, closers, closers_at}
use Rattle.stack_code.specs.Instructions as i
use Rattle.stack_code.specs.Instructions.{Instruction}
use Rattle.code_gen.specs.Layout.{Layout}
use Rattle.code_gen.specs.Statements.{act_size, act_code, ends_by, enders, turns_size, turns_code, turns_place, line_size, body_size, body_code, stop, place_of}
use Rattle.code_gen.specs.Coded.{Coded, CodedAll, MayStand, act_room, HasRoom}
use Rattle.code_gen.proofs.Steps.{HasAt, has_front, has_back, has_at}
use Rattle.code_gen.proofs.Lengths.{act_length, turns_length}

abbrev pub line_code : Layout → ℕ → Line → List Line → List Instruction
line_code y u s rest = i.Begin s.place ∷ (act_code y u (length rest) (turns_place y u s rest) s.place s.act ++ (turns_code y u (enders y u s) ++ body_code y u rest))

module _ (code : List Instruction) (y : Layout) (u : ℕ) where
  pub record StandsAt (pc : ℕ) (rest : List Line) : Type 0 where
    pub has : HasAt code pc (body_code y u rest)
    pub ends : pc + body_size y u rest ≡ stop y u
    pub coded : CodedAll y u rest
    pub room : HasRoom y u rest
    pub long : length rest ≤ length (y.lines u)

  pub stands_place : (pc : ℕ) (rest : List Line) → StandsAt pc rest → place_of y u rest ≡ pc
  stands_place pc rest h = let e = h.ends in omega arith

  -- the spare units of a statement lie below those of the DO statements
  abbrev pub Fit : Act → Type 0
  Fit a = y.spare u + act_room (y.linked.context u) a ≤ y.loops u

  -- a statement that is executed
  pub record StandsLine (pc : ℕ) (s : Line) (rest : List Line) : Type 0 where
    pub begins : slice_get code pc ≡ Some (i.Begin s.place)
    pub coded : Coded y u s.act
    pub room : Fit s.act
    pub long : suc (length rest) ≤ length (y.lines u)
    pub acts : HasAt code (pc + 1) (act_code y u (length rest) (turns_place y u s rest) s.place s.act)
    pub next : pc + 1 + act_size y u s.act ≡ turns_place y u s rest
    pub turns : HasAt code (turns_place y u s rest) (turns_code y u (enders y u s))
    pub then : StandsAt (turns_place y u s rest + turns_size (enders y u s)) rest

  abbrev pub StandsBy : Bool → ℕ → Line → List Line → Type 0
  StandsBy true pc s rest = StandsAt pc rest
  StandsBy false pc s rest = StandsLine pc s rest

  line_of : (pc : ℕ) (s : Line) (rest : List Line) → HasAt code pc (i.Begin s.place ∷ (act_code y u (length rest) (turns_place y u s rest) s.place s.act ++ (turns_code y u (enders y u s) ++ body_code y u rest))) → pc + (line_size y u s + body_size y u rest) ≡ stop y u → CodedAll y u (s ∷ rest) → HasRoom y u (s ∷ rest) → suc (length rest) ≤ length (y.lines u) → StandsLine pc s rest
  line_of pc s rest has end coded room long =
      let a = act_code y u (length rest) (turns_place y u s rest) s.place s.act in
      let t = turns_code y u (enders y u s) in
      let la : length a ≡ act_size y u s.act = act_length y u (length rest) (turns_place y u s rest) s.place s.act in
      let lt : length t ≡ turns_size (enders y u s) = turns_length y u (enders y u s) in
      let n : pc + 1 + act_size y u s.act ≡ turns_place y u s rest = omega arith in
      let n1 : pc + 1 + length a ≡ turns_place y u s rest = omega arith in
      let h1 = has_at code _ _ (t ++ body_code y u rest) n1 (has_back code (pc + 1) a (t ++ body_code y u rest) has.1) in
      let n2 : turns_place y u s rest + length t ≡ turns_place y u s rest + turns_size (enders y u s) = omega arith in
      record {
        begins = has.0;
        coded = coded.0;
        room = room.0;
        long = long;
        acts = has_front code (pc + 1) a _ has.1;
        next = n;
        turns = has_front code _ t _ h1;
        then = record { has = has_at code _ _ (body_code y u rest) n2 (has_back code _ t (body_code y u rest) h1); ends = omega arith; coded = coded.1; room = room.1; long = omega arith };
      }

  stands_by : (b : Bool) (pc : ℕ) (s : Line) (rest : List Line) → is_note s.act ≡ b → StandsAt pc (s ∷ rest) → StandsBy b pc s rest
  stands_by true pc s rest is h =
      record { has = subst (λ v. HasAt code pc (cond v (body_code y u rest) (line_code y u s rest))) is h.has; ends = subst (λ v. pc + cond v (body_size y u rest) (line_size y u s + body_size y u rest) ≡ stop y u) is h.ends; coded = h.coded.1; room = h.room.1; long = let le = h.long in omega arith }
  stands_by false pc s rest is h =
      line_of pc s rest (subst (λ v. HasAt code pc (cond v (body_code y u rest) (line_code y u s rest))) is h.has) (subst (λ v. pc + cond v (body_size y u rest) (line_size y u s + body_size y u rest) ≡ stop y u) is h.ends) h.coded h.room h.long

  pub stands_line : (pc : ℕ) (s : Line) (rest : List Line) → is_note s.act ≡ false → StandsAt pc (s ∷ rest) → StandsLine pc s rest
  stands_line pc s rest is h = stands_by false pc s rest is h

  -- some rest stands somewhere
  abbrev pub Somewhere : List Line → Type 0
  Somewhere rest = (pc : ℕ) × StandsAt pc rest

  rest_by : (b : Bool) (pc : ℕ) (s : Line) (rest : List Line) → StandsBy b pc s rest → Somewhere rest
  rest_by true pc s rest h = (pc, h)
  rest_by false pc s rest h = (_, h.then)

  pub stands_rest : (pc : ℕ) (s : Line) (rest : List Line) → StandsAt pc (s ∷ rest) → Somewhere rest
  stands_rest pc s rest h = rest_by (is_note s.act) pc s rest (stands_by (is_note s.act) pc s rest refl h)

  -- from the next statement that is executed
  runnable_by : (b : Bool) (pc : ℕ) (s : Line) (rest : List Line) → is_note s.act ≡ b → StandsAt pc (s ∷ rest) → StandsAt pc (runnable rest) → StandsAt pc (cond b (runnable rest) (s ∷ rest))
  runnable_by true pc s rest is h more = more
  runnable_by false pc s rest is h more = h

  runnable_note : (b : Bool) (pc : ℕ) (s : Line) (rest : List Line) → is_note s.act ≡ b → StandsAt pc (s ∷ rest) → (StandsAt pc rest → StandsAt pc (runnable rest)) → StandsAt pc (cond b (runnable rest) (s ∷ rest))
  runnable_note true pc s rest is h more = more (stands_by true pc s rest is h)
  runnable_note false pc s rest is h more = h

  pub stands_runnable : (pc : ℕ) (rest : List Line) → StandsAt pc rest → StandsAt pc (runnable rest)
  stands_runnable pc [] h = h
  stands_runnable pc (s ∷ rest) h = runnable_note (is_note s.act) pc s rest refl h (stands_runnable pc rest)

  -- from a label on
  from_by : (b : Bool) (l : ℕ) (s : Line) (rest : List Line) → Somewhere (s ∷ rest) → Somewhere (from_label l rest) → Somewhere (cond b (s ∷ rest) (from_label l rest))
  from_by true l s rest h more = h
  from_by false l s rest h more = more

  pub stands_from : (l pc : ℕ) (rest : List Line) → StandsAt pc rest → Somewhere (from_label l rest)
  stands_from l pc [] h = (pc, h)
  stands_from l pc (s ∷ rest) h =
      let r = stands_rest pc s rest h in
      from_by (has_label l s.label) l s rest (pc, h) (stands_from l r.0 rest r.1)

  -- behind each DO that ends at a label
  abbrev pub InnersStand : List Closer → Type 0
  InnersStand [] = Unit {0}
  InnersStand (k ∷ ks) = Somewhere k.inner × InnersStand ks

  inners_append : (ks js : List Closer) → InnersStand ks → InnersStand js → InnersStand (ks ++ js)
  inners_append [] js h i1 = i1
  inners_append (k ∷ ks) js h i1 = (h.0, inners_append ks js h.1 i1)

  inners_if : (b : Bool) (k : Closer) (found : List Closer) → Somewhere k.inner → InnersStand found → InnersStand (cond b (found ++ k ∷ []) found)
  inners_if true k found h all = inners_append found (k ∷ []) all (h, tt)
  inners_if false k found h all = all

  inners_of : (l : ℕ) (a : Act) (rest : List Line) (found : List Closer) → Somewhere rest → InnersStand found → InnersStand (closer_of l a rest found)
  inners_of l (Loop m x a b d) rest found h all = inners_if (nat_eq m l) (record { variable = x; inner = rest }) found h all
  inners_of l _ rest found h all = all

  pub stands_closers : (l pc : ℕ) (rest : List Line) → StandsAt pc rest → InnersStand (closers l rest)
  stands_closers l pc [] h = tt
  stands_closers l pc (s ∷ rest) h =
      let r = stands_rest pc s rest h in
      inners_of l s.act rest (closers l rest) r (stands_closers l r.0 rest r.1)

  pub stands_closers_at : (o : Option ℕ) (pc : ℕ) (rest : List Line) → StandsAt pc rest → InnersStand (closers_at o rest)
  stands_closers_at None pc rest h = tt
  stands_closers_at (Some l) pc rest h = stands_closers l pc rest h

  has_join : (pc : ℕ) (a b : List Instruction) → HasAt code pc a → HasAt code (pc + length a) b → HasAt code pc (a ++ b)
  has_join pc [] b h h1 = has_at code _ pc b (omega arith) h1
  has_join pc (x ∷ a) b h h1 = (h.0, has_join (pc + 1) a b h.1 (has_at code _ _ b (omega arith) h1))

  -- a line stands where its parts do
  pub line_stands : (pc next : ℕ) (s : Line) (rest : List Line) → is_note s.act ≡ false → Coded y u s.act → Fit s.act → suc (length rest) ≤ length (y.lines u) → slice_get code pc ≡ Some (i.Begin s.place) → HasAt code (pc + 1) (act_code y u (length rest) next s.place s.act) → pc + 1 + act_size y u s.act ≡ next → HasAt code next (turns_code y u (enders y u s)) → StandsAt (next + turns_size (enders y u s)) rest → StandsAt pc (s ∷ rest)
  line_stands pc next s rest note coded room long begins acts end turns more =
      let a = act_code y u (length rest) (turns_place y u s rest) s.place s.act in
      let t = turns_code y u (enders y u s) in
      let e = more.ends in
      let here : next ≡ turns_place y u s rest = omega arith in
      let la : length a ≡ act_size y u s.act = act_length y u (length rest) (turns_place y u s rest) s.place s.act in
      let lt : length t ≡ turns_size (enders y u s) = turns_length y u (enders y u s) in
      let acts1 = subst (λ n. HasAt code (pc + 1) (act_code y u (length rest) n s.place s.act)) here acts in
      let tail = has_join next t (body_code y u rest) turns (has_at code _ _ (body_code y u rest) (omega arith) more.has) in
      let all = has_join (pc + 1) a (t ++ body_code y u rest) acts1 (has_at code _ _ (t ++ body_code y u rest) (omega arith) tail) in
      record {
        has = subst (λ v. HasAt code pc (cond v (body_code y u rest) (line_code y u s rest))) (sym note) (begins, all);
        ends = subst (λ v. pc + cond v (body_size y u rest) (line_size y u s + body_size y u rest) ≡ stop y u) (sym note) (omega arith);
        coded = (coded, more.coded);
        room = (room, more.room);
        long = long;
      }

  -- the statement of a logical IF, as a line
  may_be : (a : Act) → MayStand a → (is_note a ≡ false) × ((ks : List Closer) → ends_by a ks ≡ ks)
  may_be (Loop m x a b d) h = absurd h
  may_be _ h = (h, λ ks. refl)

  pub inner_stands : (pc next : ℕ) (label : Option ℕ) (place : Place) (a : Act) (rest : List Line) → MayStand a → Coded y u a → Fit a → suc (length rest) ≤ length (y.lines u) → HasAt code pc (i.Begin place ∷ act_code y u (length rest) next place a) → pc + 1 + act_size y u a ≡ next → HasAt code next (turns_code y u (closers_at label (y.lines u))) → StandsAt (next + turns_size (closers_at label (y.lines u))) rest → StandsAt pc (record { label = label; place = place; act = a } ∷ rest)
  inner_stands pc next label place a rest may coded room long has end turns more =
      let m = may_be a may in
      let e = m.1 (closers_at label (y.lines u)) in
      line_stands pc next (record { label = label; place = place; act = a }) rest m.0 coded room long has.0 has.1 end (subst (λ ks. HasAt code next (turns_code y u ks)) (sym e) turns) (subst (λ ks. StandsAt (next + turns_size ks) rest) (sym e) more)
