-- Two runs of the same statements over two linkages that differ in the numbers of places: part by part they do the same, from
-- stores that hold the same at each real place.
use Rattle.std.proofs.Common.{◌≡◌, ℕ, zero, suc, Bool, true, false, List, [], ◌∷◌, Option, Some, None, refl, sym, ap, ◌∙◌, subst}
use Rattle.std.specs.Prelude.{◌↔◌, nat_eq, nat_lt, ◌+◌, if◌then◌else◌, ⊤}
use Rattle.std.specs.Cmp.{both_ways}
use Rattle.std.proofs.lemmas.Bool.{eqb-true, eq-eqb}
use Rattle.ground.specs.declared.place.Place.{Place}
use Rattle.ground.specs.declared.trap.Trap.TheVariants.{Subscript}
use Rattle.ground.specs.declared.value.Kind.{Kind}
use Rattle.ground.specs.Content.{Content}
use Rattle.f66_tree.specs.Syntax.{Text}
use Rattle.f66_tree.specs.World.{Store, put_in, Tape, World, End, Out, Gives, Halts, bind, Try, Yields, Traps, Fails, IfYields, Move, Moves, Breaks, Misses, settle, moving, choose, holding, taping}
use Rattle.f66_tree.specs.Units.{Context, dummies_of, position, sizes_of, places_of, Spot, Held, Lent, Linkage}
use Rattle.f66_tree.specs.Uses.{Using, NamesOfPars}
use Rattle.f66_tree.specs.Evaluation.{Sort, AnArray, AnIntrinsic, AFunction, sort_of, given, base_by, held, asked, stored, moved}
use Rattle.f66_tree.specs.Statements.{taped, taken_content}

-- of a name with a list: an array is used as a name by itself is, and of a function Value holds
abbrev pub Applied : Type 0 → Type 0 → Sort → Type 0
Applied Alone Value (AnArray ns) = Alone
Applied Alone Value (AnIntrinsic g) = ⊤
Applied Alone Value AFunction = Value

-- Two linkages of the same units, those with the numbers that InRun says, whose real places have the same numbers exactly where
-- they have so by the other. A name that is used in a unit is a dummy or has a place there; one with a list is an array or
-- intrinsic, or calls a function, whose value has a place in its unit.
pub record Twins : Type 1 where
  pub InRun : ℕ → Type 0
  pub Real : ℕ → Text → ℕ → Type 0
  pub used : ℕ → Using
  pub one : Linkage
  pub two : Linkage
  pub contexts : (u : ℕ) → InRun u → one.context u ≡ two.context u
  pub finds : (x : Text) → one.find x ≡ two.find x
  pub called : (x : Text) (v : ℕ) → two.find x ≡ Some v → InRun v
  pub within : (u : ℕ) (x : Text) (o : ℕ) → Real u x o → InRun u
  pub further : (u : ℕ) (x : Text) (o n : ℕ) → Real u x o → nat_lt n (places_of (sizes_of x (two.context u).notes)) ≡ true → Real u x n
  pub stands : (u : ℕ) (x : Text) → InRun u → (used u).alone x → position x (dummies_of (two.context u).header) ≡ None → Real u x 0
  pub listed : (u : ℕ) (x : Text) → InRun u → (used u).listed x → Applied ((used u).alone x) ((v : ℕ) → two.find x ≡ Some v → Real v x 0) (sort_of (two.context u) x)
  pub dimensions : (u : ℕ) (x : Text) → InRun u → NamesOfPars (used u).alone (sizes_of x (two.context u).notes)
  pub numbers : (u : ℕ) (x : Text) (o v : ℕ) (y : Text) (p : ℕ) → Real u x o → Real v y p → (one.number u x o ≡ one.number v y p) ↔ (two.number u x o ≡ two.number v y p)

abbrev pub IsReal : Twins → Spot → Type 0
IsReal t (Held u x o) = t.Real u x o
IsReal t (Lent c) = ⊤

abbrev pub AllReal : Twins → List Spot → Type 0
AllReal t [] = ⊤
AllReal t (p ∷ ps) = IsReal t p × AllReal t ps

-- the stores hold the same at each real place
abbrev pub Agree : Twins → Store → Store → Type 0
Agree t s1 s2 = (u : ℕ) (x : Text) (o : ℕ) → t.Real u x o → s1 (t.one.number u x o) ≡ s2 (t.two.number u x o)

-- the same result, of which P holds, or the same end; from worlds that differ in the store alone
abbrev pub Mates : Twins → {A : Type 0} → (A → Type 0) → Out A → Out A → Type 0
Mates t P (Gives a w) o = P a × ((st : Store) × Agree t w.state.store st × (o ≡ Gives a (holding st w)))
Mates t P (Halts e w) o = (st : Store) × (o ≡ Halts e (holding st w))

-- two parts of a run that do the same
pub record Pairs (t : Twins) (A : Type 0) (P : A → Type 0) (m1 m2 : World → Out A) : Type 0 where
  pub run : (w : World) (st : Store) → Agree t w.state.store st → Mates t P (m1 w) (m2 (holding st w))

abbrev pub Any : {A : Type 0} → A → Type 0
Any a = ⊤

module _ (t : Twins) where
  bind_mates : {A B : Type 0} (P : A → Type 0) (Q : B → Type 0) (o1 o2 : Out A) (g1 g2 : A → World → Out B) → Mates t P o1 o2 → ((a : A) → P a → Pairs t B Q (g1 a) (g2 a)) → Mates t Q (bind o1 g1) (bind o2 g2)
  bind_mates P Q (Gives a w) o2 g1 g2 h k = subst (λ o. Mates t Q (g1 a w) (bind o g2)) (sym h.1.2) ((k a h.0).run w h.1.0 h.1.1)
  bind_mates P Q (Halts e w) o2 g1 g2 h k = (h.0, ap (λ o. bind o g2) h.1)

  pub binds : {A B : Type 0} {P : A → Type 0} {Q : B → Type 0} {m1 m2 : World → Out A} {g1 g2 : A → World → Out B} → Pairs t A P m1 m2 → ((a : A) → P a → Pairs t B Q (g1 a) (g2 a)) → Pairs t B Q (λ w. bind (m1 w) g1) (λ w. bind (m2 w) g2)
  binds {P} {Q} {m1} {m2} {g1} {g2} h k = record { run = λ w st agree. bind_mates P Q (m1 w) (m2 (holding st w)) g1 g2 (h.run w st agree) k }

  pub thens : {A B : Type 0} {Q : B → Type 0} {m1 m2 : World → Out A} {g1 g2 : A → World → Out B} → Pairs t A Any m1 m2 → ((a : A) → Pairs t B Q (g1 a) (g2 a)) → Pairs t B Q (λ w. bind (m1 w) g1) (λ w. bind (m2 w) g2)
  thens h k = binds {P = Any} h (λ a _. k a)

  pub gives : {A : Type 0} (P : A → Type 0) (a : A) → P a → Pairs t A P (λ w. Gives a w) (λ w. Gives a w)
  gives P a h = record { run = λ w st agree. (h, (st, agree, refl)) }

  pub halts : {A : Type 0} (P : A → Type 0) (e : End) → Pairs t A P (λ w. Halts e w) (λ w. Halts e w)
  halts P e = record { run = λ w st agree. (st, refl) }

  pub choice : {A : Type 0} {P : A → Type 0} {m1 m2 n1 n2 : World → Out A} → (b : Bool) → Pairs t A P m1 m2 → Pairs t A P n1 n2 → Pairs t A P (λ w. choose b (m1 w) (n1 w)) (λ w. choose b (m2 w) (n2 w))
  choice true h k = h
  choice false h k = k

  pub choice_if : {A : Type 0} {P : A → Type 0} {m1 m2 n1 n2 : World → Out A} → (b : Bool) → Pairs t A P m1 m2 → Pairs t A P n1 n2 → Pairs t A P (λ w. if b then m1 w else n1 w) (λ w. if b then m2 w else n2 w)
  choice_if true h k = h
  choice_if false h k = k

  -- an operation
  pub settles : {A : Type 0} (P : A → Type 0) (p : Place) (o : Try A) → IfYields P o → Pairs t A P (settle p o) (settle p o)
  settles P p (Yields a) h = record { run = λ w st agree. (h, (st, agree, refl)) }
  settles P p (Traps e) h = record { run = λ w st agree. (st, refl) }
  settles P p Fails h = record { run = λ w st agree. (st, refl) }

  if_any : {A : Type 0} (o : Try A) → IfYields Any o
  if_any (Yields a) = tt
  if_any (Traps e) = tt
  if_any Fails = tt

  pub settles_any : {A : Type 0} (p : Place) (o : Try A) → Pairs t A Any (settle p o) (settle p o)
  settles_any p o = settles Any p o (if_any o)

  -- ---- names and spots ----

  -- what a unit says of its names
  pub seen : (u : ℕ) → t.InRun u → (Q : Context → Type 0) → Q (t.two.context u) → Q (t.one.context u)
  seen u inside Q h = subst Q (sym (t.contexts u inside)) h

  given_real : (i : ℕ) (ps : List Spot) → AllReal t ps → IfYields (IsReal t) (given i ps)
  given_real i [] h = tt
  given_real zero (p ∷ ps) h = h.0
  given_real (suc i) (p ∷ ps) h = given_real i ps h.1

  pub base_real : (u : ℕ) (ps : List Spot) (x : Text) → t.InRun u → (t.used u).alone x → AllReal t ps → IfYields (IsReal t) (base_by (position x (dummies_of (t.two.context u).header)) u ps x)
  base_real u ps x inside used h = by_position (position x (dummies_of (t.two.context u).header)) (t.stands u x inside used)
    where
      by_position : (o : Option ℕ) → (o ≡ None → t.Real u x 0) → IfYields (IsReal t) (base_by o u ps x)
      by_position None real = real refl
      by_position (Some i) real = given_real i ps h

  -- an element of what is real is real, and is the same one
  pub moves_on : (p : Place) (q : Spot) (n : ℕ) → IsReal t q → Pairs t Spot (IsReal t) (settle p (moved t.one q n)) (settle p (moved t.two q n))
  moves_on p (Held u x o) n real =
      seen u (t.within u x o real) (λ c. Pairs t Spot (IsReal t) (settle p (if nat_lt (o + n) (places_of (sizes_of x c.notes)) then Yields (Held u x (o + n)) else Traps Subscript)) (settle p (moved t.two (Held u x o) n)))
      (settles (IsReal t) p (moved t.two (Held u x o) n) (inside (nat_lt (o + n) (places_of (sizes_of x (t.two.context u).notes))) (t.further u x o (o + n) real)))
    where
      inside : (b : Bool) → (b ≡ true → t.Real u x (o + n)) → IfYields (IsReal t) (if b then Yields (Held u x (o + n)) else Traps Subscript)
      inside true h = h refl
      inside false h = tt
  moves_on p (Lent c) zero real = settles (IsReal t) p (Yields (Lent c)) tt
  moves_on p (Lent c) (suc n) real = settles (IsReal t) p (Traps Subscript) tt

  -- ---- stores ----

  same_test : (a b c d : ℕ) → (a ≡ b) ↔ (c ≡ d) → nat_eq a b ≡ nat_eq c d
  same_test a b c d h = both_ways (nat_eq a b) (nat_eq c d) (λ e. eq-eqb c d (h.0 (eqb-true a b e))) (λ e. eq-eqb a b (h.1 (eqb-true c d e)))

  pub agree_put : (v : ℕ) (y : Text) (p : ℕ) (c : Content) (s1 s2 : Store) → t.Real v y p → Agree t s1 s2 → Agree t (put_in (t.one.number v y p) c s1) (put_in (t.two.number v y p) c s2)
  agree_put v y p c s1 s2 real agree u x o h =
      ap (λ b. if b then c else s1 (t.one.number u x o)) (same_test (t.one.number u x o) (t.one.number v y p) (t.two.number u x o) (t.two.number v y p) (t.numbers u x o v y p h real))
      ∙ ap (λ k. if nat_eq (t.two.number u x o) (t.two.number v y p) then c else k) (agree u x o h)

  held_same : (q : Spot) (s1 s2 : Store) → IsReal t q → Agree t s1 s2 → held t.one q s1 ≡ held t.two q s2
  held_same (Held u x o) s1 s2 real agree = agree u x o real
  held_same (Lent c) s1 s2 real agree = refl

  pub loads : (p : Place) (k : Kind) (q : Spot) → IsReal t q → Pairs t Content Any (λ w. settle p (asked k (held t.one q w.state.store)) w) (λ w. settle p (asked k (held t.two q w.state.store)) w)
  loads p k q real = record {
    run = λ w st agree.
        subst (λ c. Mates t Any (settle p (asked k c) w) (settle p (asked k (held t.two q st)) (holding st w))) (sym (held_same q w.state.store st real agree)) ((settles_any p (asked k (held t.two q st))).run w st agree);
  }

  pub stores : (p : Place) (q : Spot) (c : Content) → IsReal t q →
      Pairs t ⊤ Any (λ w. bind (settle p (stored t.one q c w.state.store) w) (λ st w1. Gives tt (holding st w1))) (λ w. bind (settle p (stored t.two q c w.state.store) w) (λ st w1. Gives tt (holding st w1)))
  stores p (Held u x o) c real = record { run = λ w st agree. (tt {0}, (put_in (t.two.number u x o) c st, agree_put u x o c w.state.store st real agree, refl)) }
  stores p (Lent v) c real = record { run = λ w st agree. (st, refl) }

  -- ---- records ----

  pub tapes : (p : Place) (h : Tape → Move) → Pairs t ⊤ Any (taped p h) (taped p h)
  tapes p h = record { run = λ w st agree. by_move (h w.state.tape) w st agree }
    where
      by_move : (m : Move) (w : World) (st : Store) → Agree t w.state.store st → Mates t Any (moving p m w) (moving p m (holding st w))
      by_move (Moves a) w st agree = (tt {0}, (st, agree, refl))
      by_move (Breaks e a) w st agree = (st, refl)
      by_move Misses w st agree = (st, refl)

  pub takes : (p : Place) (h : Tape → Try (Content × Tape)) → Pairs t Content Any (taken_content p h) (taken_content p h)
  takes p h = record { run = λ w st agree. by_try (h w.state.tape) w st agree }
    where
      by_try : (o : Try (Content × Tape)) (w : World) (st : Store) → Agree t w.state.store st → Mates t {A = Content} Any (bind (settle p o w) (λ r w1. Gives r.0 (taping r.1 w1))) (bind (settle p o (holding st w)) (λ r w1. Gives r.0 (taping r.1 w1)))
      by_try (Yields r) w st agree = (tt {0}, (st, agree, refl))
      by_try (Traps e) w st agree = (st, refl)
      by_try Fails w st agree = (st, refl)
