-- The same of statements that have begun, with what comes after them. The two sides run two lists of statements that differ
-- in places alone: so the same statements are behind a label, and the same DO loops end at it, on both sides.
use Rattle.std.proofs.Common.{◌≡◌, ℕ, suc, Bool, true, false, true≢false, List, [], ◌∷◌, ◌++◌, length, Option, Some, None, refl, sym, ap, ◌∙◌, subst}
use Rattle.std.specs.Prelude.{if◌then◌else◌, nat_eq, ⊤}
use Rattle.ground.specs.declared.place.Place.{Place}
use Rattle.f66_tree.specs.Syntax.{Text, Act, Assign, Goto, Computed, Sign, When, Loop, Invoke, Continue, Stop, Return, Read, Write, Format, Typed, Dimension, Common, Equivalence, Preset, Line}
use Rattle.f66_tree.specs.World.{World, Out, bind}
use Rattle.f66_tree.specs.Units.{is_note, Setting}
use Rattle.f66_tree.specs.Uses.{Using, NamesOfActBy, NamesOfLinesBy}
use Rattle.f66_tree.specs.Statements.{Exit, Normal, To, Back, LoopParameters, loop_turn, item_turns, does}
use Rattle.f66_tree.specs.Execution.{runnable, has_label, from_label, Progress, begun, stand, Closer, closer_of, closers, closers_at, Onward, close, leads, perform}
use Rattle.f66_tree.proofs.Related.{Sides, using, side1, side2, Frames, one, two, Good, Holds, thens, choice, asks_hold, start_holds, turn_holds, does_holds}

-- statements that differ in places alone
abbrev pub LikeLines : (Place → Place → Type 0) → List Line → List Line → Type 0
LikeLines At [] [] = ⊤
LikeLines At [] (b ∷ bs) = ⊥
LikeLines At (a ∷ as') [] = ⊥
LikeLines At (a ∷ as') (b ∷ bs) = (a.label ≡ b.label) × (a.act ≡ b.act) × At a.place b.place × LikeLines At as' bs

pub like_itself : (At : Place → Place → Type 0) → ((p : Place) → At p p) → (as' : List Line) → LikeLines At as' as'
like_itself At same [] = tt
like_itself At same (a ∷ as') = (refl, refl, same a.place, like_itself At same as')

-- statements that differ in nothing
pub like_same : (as' bs : List Line) → LikeLines (λ p q. p ≡ q) as' bs → as' ≡ bs
like_same [] [] h = refl
like_same [] (b ∷ bs) h = absurd h
like_same (a ∷ as') [] h = absurd h
like_same (a ∷ as') (b ∷ bs) h = ap (λ v. v ∷ as') (line_same a b h.0 h.2 h.1) ∙ ap (λ v. b ∷ v) (like_same as' bs h.3)
  where
    line_same : (a b : Line) → a.label ≡ b.label → a.place ≡ b.place → a.act ≡ b.act → a ≡ b
    line_same a b e p q =
        ap (λ v. record { label = v; place = a.place; act = a.act }) e ∙ ap (λ v. record { label = b.label; place = v; act = a.act }) p ∙ ap (λ v. record { label = b.label; place = b.place; act = v }) q

like_length : (At : Place → Place → Type 0) (as' bs : List Line) → LikeLines At as' bs → length as' ≡ length bs
like_length At [] [] h = refl
like_length At [] (b ∷ bs) h = absurd h
like_length At (a ∷ as') [] h = absurd h
like_length At (a ∷ as') (b ∷ bs) h = ap suc (like_length At as' bs h.3)

pub like_runnable : (At : Place → Place → Type 0) (as' bs : List Line) → LikeLines At as' bs → LikeLines At (runnable as') (runnable bs)
like_runnable At [] [] h = tt
like_runnable At [] (b ∷ bs) h = absurd h
like_runnable At (a ∷ as') [] h = absurd h
like_runnable At (a ∷ as') (b ∷ bs) h = by_note (is_note a.act) (is_note b.act) (ap is_note h.1) (like_runnable At as' bs h.3)
  where
    by_note : (x y : Bool) → x ≡ y → LikeLines At (runnable as') (runnable bs) → LikeLines At (if x then runnable as' else (a ∷ as')) (if y then runnable bs else (b ∷ bs))
    by_note true true e k = k
    by_note true false e k = absurd (true≢false e)
    by_note false true e k = absurd (true≢false (sym e))
    by_note false false e k = h

like_from : (At : Place → Place → Type 0) (m : ℕ) (as' bs : List Line) → LikeLines At as' bs → LikeLines At (from_label m as') (from_label m bs)
like_from At m [] [] h = tt
like_from At m [] (b ∷ bs) h = absurd h
like_from At m (a ∷ as') [] h = absurd h
like_from At m (a ∷ as') (b ∷ bs) h = by_label (has_label m a.label) (has_label m b.label) (ap (has_label m) h.0) (like_from At m as' bs h.3)
  where
    by_label : (x y : Bool) → x ≡ y → LikeLines At (from_label m as') (from_label m bs) → LikeLines At (if x then (a ∷ as') else from_label m as') (if y then (b ∷ bs) else from_label m bs)
    by_label true true e k = h
    by_label true false e k = absurd (true≢false e)
    by_label false true e k = absurd (true≢false (sym e))
    by_label false false e k = k

-- the names of what is behind
pub names_runnable : (K : Using) (as' : List Line) → NamesOfLinesBy K as' → NamesOfLinesBy K (runnable as')
names_runnable K [] h = tt
names_runnable K (a ∷ as') h = by_note (is_note a.act) (names_runnable K as' h.1)
  where
    by_note : (x : Bool) → NamesOfLinesBy K (runnable as') → NamesOfLinesBy K (if x then runnable as' else (a ∷ as'))
    by_note true k = k
    by_note false k = h

names_from : (K : Using) (m : ℕ) (as' : List Line) → NamesOfLinesBy K as' → NamesOfLinesBy K (from_label m as')
names_from K m [] h = tt
names_from K m (a ∷ as') h = by_label (has_label m a.label) (names_from K m as' h.1)
  where
    by_label : (x : Bool) → NamesOfLinesBy K (from_label m as') → NamesOfLinesBy K (if x then (a ∷ as') else from_label m as')
    by_label true k = h
    by_label false k = k

-- the DO loops that end at a label, on both sides
abbrev LikeCloser : (Place → Place → Type 0) → Using → Closer → Closer → Type 0
LikeCloser At K a b = (a.variable ≡ b.variable) × LikeLines At a.inner b.inner × K.alone a.variable × NamesOfLinesBy K a.inner

abbrev LikeClosers : (Place → Place → Type 0) → Using → List Closer → List Closer → Type 0
LikeClosers At K [] [] = ⊤
LikeClosers At K [] (b ∷ bs) = ⊥
LikeClosers At K (a ∷ as') [] = ⊥
LikeClosers At K (a ∷ as') (b ∷ bs) = LikeCloser At K a b × LikeClosers At K as' bs

like_append : (At : Place → Place → Type 0) (K : Using) (as' bs cs ds : List Closer) → LikeClosers At K as' bs → LikeClosers At K cs ds → LikeClosers At K (as' ++ cs) (bs ++ ds)
like_append At K [] [] cs ds h k = k
like_append At K [] (b ∷ bs) cs ds h k = absurd h
like_append At K (a ∷ as') [] cs ds h k = absurd h
like_append At K (a ∷ as') (b ∷ bs) cs ds h k = (h.0, like_append At K as' bs cs ds h.1 k)

like_closer : (At : Place → Place → Type 0) (K : Using) (m : ℕ) (a : Act) (as' bs : List Line) (cs ds : List Closer) → NamesOfActBy K a → NamesOfLinesBy K as' → LikeLines At as' bs → LikeClosers At K cs ds → LikeClosers At K (closer_of m a as' cs) (closer_of m a bs ds)
like_closer At K m (Loop l x p q r) as' bs cs ds ua us h k = by_label (nat_eq l m)
  where
    by_label : (v : Bool) → LikeClosers At K (if v then (cs ++ record { variable = x; inner = as' } ∷ []) else cs) (if v then (ds ++ record { variable = x; inner = bs } ∷ []) else ds)
    by_label true = like_append At K cs ds _ _ k ((refl, h, ua.0, us), tt)
    by_label false = k
like_closer At K m _ as' bs cs ds ua us h k = k

like_closers : (At : Place → Place → Type 0) (K : Using) (m : ℕ) (as' bs : List Line) → NamesOfLinesBy K as' → LikeLines At as' bs → LikeClosers At K (closers m as') (closers m bs)
like_closers At K m [] [] us h = tt
like_closers At K m [] (b ∷ bs) us h = absurd h
like_closers At K m (a ∷ as') [] us h = absurd h
like_closers At K m (a ∷ as') (b ∷ bs) us h =
    subst (λ x. LikeClosers At K (closer_of m a.act as' (closers m as')) (closer_of m x bs (closers m bs))) h.1
    (like_closer At K m a.act as' bs (closers m as') (closers m bs) us.0 us.1 h.3 (like_closers At K m as' bs us.1 h.3))

like_closers_at : (At : Place → Place → Type 0) (K : Using) (o : Option ℕ) (as' bs : List Line) → NamesOfLinesBy K as' → LikeLines At as' bs → LikeClosers At K (closers_at o as') (closers_at o bs)
like_closers_at At K None as' bs us h = tt
like_closers_at At K (Some m) as' bs us h = like_closers At K m as' bs us h

module _ (I : Type 0) (d : Sides I) (R W : (A : Type 0) → (I → World → Out A) → (World → Out A) → Type 0) (r : Holds I d R W)
    (many : (f : Frames) → Good d f → (x : Text) → d.K f.unit x → (k : LoopParameters) (m1 : I → World → Out ⊤) (m2 : World → Out ⊤) → R ⊤ m1 m2 → R ⊤ (λ i. item_turns (d.most1 i) (side1 d i) (one f) x k (m1 i)) (item_turns d.most2 (side2 d) (two f) x k m2))
    (f : Frames) (g : Good d f) (code1 code2 : List Line) (like : LikeLines d.At code1 code2) (used : NamesOfLinesBy (using d f.unit) code1) (go1 : I → Onward) (go2 : Onward)
    (goes : (rest1 rest2 : List Line) → LikeLines d.At rest1 rest2 → NamesOfLinesBy (using d f.unit) rest1 → (pr : Progress) → R ⊤ (λ i. go1 i (stand rest1 pr)) (go2 (stand rest2 pr))) where
  abbrev s1 : I → Setting
  s1 i = side1 d i

  abbrev s2 : Setting
  s2 = side2 d

  close_holds : (ks1 ks2 : List Closer) → LikeClosers d.At (using d f.unit) ks1 ks2 → (rest1 rest2 : List Line) → LikeLines d.At rest1 rest2 → NamesOfLinesBy (using d f.unit) rest1 → (pr : Progress) → R ⊤ (λ i. close (s1 i) (one f) ks1 rest1 (go1 i) pr) (close s2 (two f) ks2 rest2 go2 pr)
  close_holds [] [] h rest1 rest2 lr ur pr = goes rest1 rest2 lr ur pr
  close_holds [] (b ∷ bs) h rest1 rest2 lr ur pr = absurd h
  close_holds (a ∷ as') [] h rest1 rest2 lr ur pr = absurd h
  close_holds (a ∷ as') (b ∷ bs) h rest1 rest2 lr ur pr =
      let turn : R Bool (λ i. loop_turn (s1 i) (one f) a.variable (pr (length a.inner))) (loop_turn s2 (two f) b.variable (pr (length b.inner))) =
      subst (λ x. R Bool (λ i. loop_turn (s1 i) (one f) a.variable (pr (length a.inner))) (loop_turn s2 (two f) x (pr (length b.inner)))) h.0.0
      (subst (λ q. R Bool (λ i. loop_turn (s1 i) (one f) a.variable (pr (length a.inner))) (loop_turn s2 (two f) a.variable (pr q))) (like_length d.At a.inner b.inner h.0.1)
      (turn_holds I d R W r f g a.variable h.0.2 (pr (length a.inner)))) in
      thens I d R W r turn (λ goes_on. choice I d R W r goes_on (goes a.inner b.inner h.0.1 h.0.3 pr) (close_holds as' bs h.1 rest1 rest2 lr ur pr))

  leads_holds : (o : Option ℕ) (rest1 rest2 : List Line) → LikeLines d.At rest1 rest2 → NamesOfLinesBy (using d f.unit) rest1 → (pr : Progress) (y : Exit) → R ⊤ (λ i. leads (s1 i) (one f) code1 o rest1 (go1 i) pr y) (leads s2 (two f) code2 o rest2 go2 pr y)
  leads_holds o rest1 rest2 lr ur pr Normal = close_holds (closers_at o code1) (closers_at o code2) (like_closers_at d.At (using d f.unit) o code1 code2 used like) rest1 rest2 lr ur pr
  leads_holds o rest1 rest2 lr ur pr (To m) = goes (from_label m code1) (from_label m code2) (like_from d.At m code1 code2 like) (names_from (using d f.unit) m code1 used) pr
  leads_holds o rest1 rest2 lr ur pr Back = r.parts.gives tt

  module _ (o : Option ℕ) (rest1 rest2 : List Line) (lr : LikeLines d.At rest1 rest2) (ur : NamesOfLinesBy (using d f.unit) rest1) (pr : Progress) where
    plain_performs : (a : Act) → NamesOfActBy (using d f.unit) a → W ⊤ (λ i w. bind (does (s1 i) (one f) a w) (λ y w1. leads (s1 i) (one f) code1 o rest1 (go1 i) pr y w1)) (λ w. bind (does s2 (two f) a w) (λ y w1. leads s2 (two f) code2 o rest2 go2 pr y w1))
    plain_performs a ua = r.within_then (does_holds I d R W r many f g a ua) (λ y. leads_holds o rest1 rest2 lr ur pr y)

    pub performs : (a : Act) → NamesOfActBy (using d f.unit) a → W ⊤ (λ i. perform (s1 i) (one f) code1 o a rest1 (go1 i) pr) (perform s2 (two f) code2 o a rest2 go2 pr)
    performs (When e a) ua =
        r.within (thens I d R W r (asks_hold I d R W r f g e ua.0) (λ holds. choice I d R W r holds
        (goes (record { label = o; place = f.here; act = a } ∷ rest1) (record { label = o; place = f.there; act = a } ∷ rest2) (refl, refl, g.places, lr) (ua.1, ur) pr)
        (leads_holds o rest1 rest2 lr ur pr Normal)))
    performs (Loop m x a b c) ua =
        r.within (thens I d R W r (start_holds I d R W r f g x a b c ua.0 ua.1 ua.2 ua.3)
        (λ k. subst (λ n. R ⊤ (λ i. go1 i (stand rest1 (begun (length rest1) k pr))) (go2 (stand rest2 (begun n k pr)))) (like_length d.At rest1 rest2 lr) (goes rest1 rest2 lr ur (begun (length rest1) k pr))))
    performs (Assign x e) ua = plain_performs (Assign x e) ua
    performs (Goto m) ua = plain_performs (Goto m) ua
    performs (Computed ls x) ua = plain_performs (Computed ls x) ua
    performs (Sign e n m k) ua = plain_performs (Sign e n m k) ua
    performs (Invoke x es) ua = plain_performs (Invoke x es) ua
    performs Continue ua = plain_performs Continue ua
    performs (Stop n) ua = plain_performs (Stop n) ua
    performs Return ua = plain_performs Return ua
    performs (Read u m es) ua = plain_performs (Read u m es) ua
    performs (Write u m es) ua = plain_performs (Write u m es) ua
    performs (Format fs) ua = plain_performs (Format fs) ua
    performs (Typed t ds) ua = plain_performs (Typed t ds) ua
    performs (Dimension ds) ua = plain_performs (Dimension ds) ua
    performs (Common areas) ua = plain_performs (Common areas) ua
    performs (Equivalence es) ua = plain_performs (Equivalence es) ua
    performs (Preset ps) ua = plain_performs (Preset ps) ua
