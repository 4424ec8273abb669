-- A `write` follows.
use Rattle.std.proofs.Common.{◌≡◌, ℕ, ◌+◌, ◌<◌, List, [], ◌∷◌, Option, None, Some, refl, sym, ap, ◌∙◌, subst, arith}
use Rattle.std.specs.Prelude.{⊤, nat_eq, ℤ, pos}
use Rattle.std.specs.Str.{bytes_eq}
use Rattle.ground.specs.declared.place.Place.{Place}
use Rattle.ground.specs.declared.value.Kind.{Kind}
use Rattle.ground.specs.declared.value.Kind.TheVariants.{Integer, Logical}
use Rattle.ground.specs.Content.{Content, Whole}
use Rattle.f66_tree.specs.declared.editing.Way.TheVariants.{Writing}
use Rattle.f66_tree.specs.Syntax as f66
use Rattle.f66_tree.specs.Syntax.{Text, Formula, Entries, NoEntry, AndEntry, One}
use Rattle.f66_tree.specs.World.{Store, Tape, World, counted, taping, Out, Gives, bind, Yields, Move, Moves, Breaks, Misses, settle, moving}
use Rattle.f66_tree.specs.Records.{opened, due, put, closed}
use Rattle.f66_tree.specs.Units.{kind_of, sizes_of, Held, Setting}
use Rattle.f66_tree.specs.Evaluation.{asked, load, par_in, value_of}
use Rattle.f66_tree.specs.Statements.{Exit, Normal, taped, on_unit, one_or_row, item, items}
use Rattle.efl_program.specs.Typed.{WriteItem, Value, Skip, Chars, Edit, Expr, Int, Truth, At, Call, Known, Group, Plus, Minus, Not, Up, Down, Pair, Assign, Write}
use Rattle.efl_program.specs.Setting as world
use Rattle.efl_program.specs.Meaning as meaning
use Rattle.efl_program.specs.Meaning.{Went as EflWent, put_all, kind_by}
use Rattle.efl_program.specs.Values as values
use Rattle.routes.specs.Routes.{Transfer, Routes, NoRoute, AndRoute, only}
use Rattle.efl_routes.specs.Expressions.{made, type_of, sets, formula, routes}
use Rattle.efl_routes.specs.Statements.{Around, made_items, made_if_any, par_of, unit_par, first_if_any, FitIfAny, entries, item_routes, ItemsFit}
use Rattle.efl_routes.proofs.Procedures.{Agreed}
use Rattle.efl_routes.proofs.Expressions.{expression_right}
use Rattle.efl_routes.proofs.Lowers.{temp_gets}
use Rattle.routes.specs.Running.{Course, Went, Flow, course_of, after}
use Rattle.efl_routes.proofs.Like.{Post, Like, like_settle}
use Rattle.efl_routes.proofs.Near.{Sides, Target, there, here, run, spare, Near, Same, Says, same_self, same_on, same_less, says_still, says_more, near_less, near_counted, near_begun, near_within}
use Rattle.efl_routes.proofs.Flows.{Left}
use Rattle.efl_routes.proofs.Lists as lists
use Rattle.efl_routes.proofs.Steps.{bind_assoc, Of, temp_base}

module _ (g : Sides) where
  abbrev T : Setting
  T = Target g

  -- a step of editing that goes on in the same way
  taped_then : {B : Type 0} (p : Place) (h : Tape → Move) (u : World) (F G : World → Out B) → ((t : Tape) → F (taping t u) ≡ G (taping t u)) → bind (taped p h u) (λ _ w. F w) ≡ bind (taped p h u) (λ _ w. G w)
  taped_then p h u F G is = by_move (h u.state.tape)
    where
      by_move : (m : Move) → bind (moving p m u) (λ _ w. F w) ≡ bind (moving p m u) (λ _ w. G w)
      by_move (Moves t) = is t
      by_move (Breaks e t) = refl
      by_move Misses = refl

  -- the same step of editing on both sides
  pub like_taped : {A : Type 0} (P : Post A Course) (p : Place) (h : Tape → Move) (z : ℕ) (u u1 : World) (K : World → Out A) (J : World → Out Course) → Near g z u u1 → ((t : Tape) → Near g z (taping t u) (taping t u1) → Like P (K (taping t u)) (J (taping t u1))) →
      Like P (bind (taped p h u) (λ _ x. K x)) (bind (taped p h u1) (λ _ x. J x))
  like_taped P p h z u u1 K J near k = subst (λ q. Like P (bind (taped p h u) (λ _ x. K x)) (bind (moving p (h q) u1) (λ _ x. J x))) (sym near.tape) (by_move (h u.state.tape))
    where
      by_move : (m : Move) → Like P (bind (moving p m u) (λ _ x. K x)) (bind (moving p m u1) (λ _ x. J x))
      by_move (Moves t) = k t (record { tape = refl; cells = near.cells; count = near.count })
      by_move (Breaks e t) = record { by = (taping t u1, refl, record { tape = refl; count = (near_within g near).count }) }
      by_move Misses = record { by = (u1, refl, near_within g near) }

  -- a temporary as an item
  item_step : (p : Place) (k : Kind) (n m : ℕ) (v : Content) (st : Store) (u : World) → n < g.room → Says g m (f66.Ref (g.temp k n)) v st → Same g m st u.state.store → item T (there g p) Writing (f66.Ref (g.temp k n)) u ≡ bind (taped p (due k) u) (λ _ w. taped p (put v) w)
  item_step p k n m v st u fits says same =
      let t = g.temp k n in
      let q = Held g.to.unit t 0 in
      ap (λ o. bind (settle p o u) (λ q1 w. one_or_row T (there g p) Writing (kind_of (g.linked.context g.to.unit) t) (sizes_of t (g.linked.context g.to.unit).notes) q1 w)) (temp_base g p k n fits)
      ∙ ap (λ j. one_or_row T (there g p) Writing j (sizes_of t (g.linked.context g.to.unit).notes) q u) (g.temp_kind k n fits)
      ∙ ap (λ s. one_or_row T (there g p) Writing k s q u) (g.temp_plain k n fits)
      ∙ taped_then p (due k) u (λ w. bind (settle p (asked k (w.state.store (spare g k n))) w) (λ c w1. taped p (put c) w1)) (λ w. taped p (put v) w) (λ s. ap (λ o. bind o (λ d w1. taped p (put d) w1)) (loaded s))
    where
      loaded : (s : Tape) → settle p (asked k (u.state.store (spare g k n))) (taping s u) ≡ Gives v (taping s u)
      loaded s =
          sym (ap (λ o. bind (settle p o (taping s u)) (λ q w. load T (there g p) (kind_of (g.linked.context g.to.unit) (g.temp k n)) q w)) (temp_base g p k n fits)
          ∙ ap (λ j. settle p (asked j (u.state.store (spare g k n))) (taping s u)) (g.temp_kind k n fits))
          ∙ says.by p (taping s u) same

  -- values in temporaries, one for each entry
  abbrev pub Stored : ℕ → List (Kind × Content) → Entries → Store → Type 0
  Stored m [] NoEntry st = ⊤
  Stored m (x ∷ xs) (AndEntry (One e) es) st = ((p : Place) (u : World) → Same g m st u.state.store → item T (there g p) Writing e u ≡ bind (taped p (due x.0) u) (λ _ w. taped p (put x.1) w)) × Stored m xs es st
  Stored m _ _ st = ⊥

  stored_before : (m : ℕ) (xs : List (Kind × Content)) (es : Entries) (a b : Store) → Same g m a b → Stored m xs es a → Stored m xs es b
  stored_before m [] NoEntry a b s h = tt
  stored_before m (x ∷ xs) (AndEntry (One e) es) a b s h = (λ p u s1. h.0 p u (same_on g s s1), stored_before m xs es a b s h.1)
  stored_before m [] (AndEntry e es) a b s h = absurd h
  stored_before m (x ∷ xs) NoEntry a b s h = absurd h
  stored_before m (x ∷ xs) (AndEntry (f66.Many ns y i j k) es) a b s h = absurd h

  -- the contents of all entries go to the record
  put_like : {A : Type 0} (P : Post A Course) (p : Place) (m z : ℕ) (st : Store) (xs : List (Kind × Content)) (es : Entries) (u u1 : World) (K : World → Out A) (J : World → Out Course) → Stored m xs es st → Near g z u u1 → Same g m st u1.state.store →
      ((x x1 : World) → Near g z x x1 → x1.state.store ≡ u1.state.store → Like P (K x) (J x1)) → Like P (bind (put_all p xs u) (λ _ x. K x)) (bind (items T (there g p) Writing es u1) (λ _ x. J x))
  put_like P p m z st [] NoEntry u u1 K J h near same k = k u u1 near refl
  put_like P p m z st (x ∷ xs) (AndEntry (One e) es) u u1 K J h near same k =
      let two : World → Out ⊤ = λ w. bind (taped p (put x.1) w) (λ _ w2. put_all p xs w2) in
      let one1 : World → Out ⊤ = λ w. taped p (put x.1) w in
      let rest1 : ⊤ → World → Out ⊤ = λ _ w. items T (there g p) Writing es w in
      subst (λ q. Like P q (bind (items T (there g p) Writing (AndEntry (One e) es) u1) (λ _ y. J y))) (sym (bind_assoc (taped p (due x.0) u) (λ _ w. two w) (λ _ y. K y)))
      (subst (λ q. Like P (bind (taped p (due x.0) u) (λ _ w. bind (two w) (λ _ y. K y))) q)
      (sym (ap (λ o. bind (bind o rest1) (λ _ y. J y)) (h.0 p u1 same) ∙ ap (λ o. bind o (λ _ y. J y)) (bind_assoc (taped p (due x.0) u1) (λ _ w. one1 w) rest1) ∙ bind_assoc (taped p (due x.0) u1) (λ _ w. bind (one1 w) rest1) (λ _ y. J y)))
      (like_taped P p (due x.0) z u u1 (λ w. bind (two w) (λ _ y. K y)) (λ w. bind (bind (one1 w) rest1) (λ _ y. J y)) near (λ t near1.
      subst (λ q. Like P q (bind (bind (one1 (taping t u1)) rest1) (λ _ y. J y))) (sym (bind_assoc (taped p (put x.1) (taping t u)) (λ _ w. put_all p xs w) (λ _ y. K y)))
      (subst (λ q. Like P (bind (taped p (put x.1) (taping t u)) (λ _ w. bind (put_all p xs w) (λ _ y. K y))) q) (sym (bind_assoc (taped p (put x.1) (taping t u1)) rest1 (λ _ y. J y)))
      (like_taped P p (put x.1) z (taping t u) (taping t u1) (λ w. bind (put_all p xs w) (λ _ y. K y)) (λ w. bind (items T (there g p) Writing es w) (λ _ y. J y)) near1 (λ t2 near2. put_like P p m z st xs es (taping t2 (taping t u)) (taping t2 (taping t u1)) K J h.1 near2 same k))))))
  put_like P p m z st [] (AndEntry e es) u u1 K J h near same k = absurd h
  put_like P p m z st (x ∷ xs) NoEntry u u1 K J h near same k = absurd h
  put_like P p m z st (x ∷ xs) (AndEntry (f66.Many ns y i j l) es) u u1 K J h near same k = absurd h

  -- values were found, and are in the entries
  pub record AfterItems (n m z : ℕ) (es : Entries) (st : Store) (vs : List (Kind × Content)) (w w1 : World) : Type 0 where
    pub near : Near g z w w1
    pub same : Same g n st w1.state.store
    pub stored : Stored m vs es w1.state.store

module _ (g : Sides) (c : Agreed g) (label : Text → ℕ) (own : Text) (gives : Type 0) (same_label : (m l : Text) → nat_eq (label m) (label l) ≡ bytes_eq m l) where
  abbrev S : world.Setting
  S = g.source

  abbrev Entries_of : List WriteItem → ℕ → Entries
  Entries_of xs n = entries g.home g.temp g.callee label own xs n

  abbrev Go : Place → List WriteItem → ℕ → Routes → Routes
  Go p xs n rest = item_routes g.home g.temp g.callee label own p xs n rest

  abbrev ItemsRight : List WriteItem → Type 1
  ItemsRight xs =
      (p : Place) (n : ℕ) → ItemsFit g.M c.F c.C g.room gives xs n → (A : Type 0) (P : Post A Course) (z : ℕ) (w w1 : World) (K : List (Kind × Content) → World → Out A) (rest : Routes) → Near g z w w1 →
      ((vs : List (Kind × Content)) (u u1 : World) → AfterItems g n (n + made_items xs) z (Entries_of xs n) w1.state.store vs u u1 → Like P (K vs u) (run g rest u1)) → Like P (bind (meaning.values_in S g.from p xs w) K) (run g (Go p xs n rest) w1)

  value_right : (e : Expr) (d : Edit) (xs : List WriteItem) → ItemsRight xs → ItemsRight (Value e d ∷ xs)
  value_right e d xs rs p n ok A P z w w1 K rest near h =
      let k = kind_by d in
      let t = n + made e in
      let x = f66.Ref (g.temp k t) in
      let f = formula g.home g.temp g.callee e n in
      let ww = counted (counted w) in
      let n1 = n + (made e + 1) in
      let m = n + (made e + 1 + made_items xs) in
      let add : Content → World → Out (List (Kind × Content)) = λ v u. bind (meaning.values_in S g.from p xs u) (λ vs u1. Gives ((kind_by d, v) ∷ vs) u1) in
      let more = AndRoute (sets p x f) (Go p xs n1 rest) in
      let spent : Near g (1 + z) ww w1 = near_less g (omega arith) (near_counted g (near_counted g near)) in
      let is_t : t + 1 ≡ n1 = omega arith in
      let is_m : n1 + made_items xs ≡ m = omega arith in
      subst (λ q. Like P q (run g (routes g.home g.temp g.callee p e n more) w1)) (sym (bind_assoc (values.value_of S (here g p) e ww) add K))
      (expression_right g c e ok.1 p n (omega (ok.2, arith)) A P (1 + z) ww w1 (λ v u. bind (add v u) K) more spent (λ v u u1 f1.
      temp_gets g P p z n t k (Yields v) f u u1 w1.state.store (λ v1 u2. bind (add v1 u2) K) (Go p xs n1 rest) (omega arith) (omega (ok.2, arith)) (f1.says.by p (counted u1) (same_self g (n + made e) u1.state.store)) (subst (λ i. Of i v) ok.0 f1.of) f1.near f1.same (λ v1 u2 u3 f2.
      subst (λ q. Like P q (run g (Go p xs n1 rest) u3)) (sym (bind_assoc (meaning.values_in S g.from p xs u2) (λ vs u4. Gives ((kind_by d, v1) ∷ vs) u4) K))
      (rs p n1 ok.3 A P z u2 u3 (λ vs u4. K ((kind_by d, v1) ∷ vs) u4) rest f2.near (λ vs u4 u5 f3. h ((kind_by d, v1) ∷ vs) u4 u5 (record {
        near = f3.near;
        same = same_on g f2.same (same_less g (omega arith) f3.same);
        stored = (λ q y s. item_step g q k t m v1 u5.state.store y (omega (ok.2, arith)) (says_more g (omega arith) (says_still g (omega arith) f3.same f2.says)) s, subst (λ i. Stored g i vs (Entries_of xs n1) u5.state.store) is_m f3.stored);
      }))))))

  items_right : (xs : List WriteItem) → ItemsRight xs
  items_right [] = λ p n ok A P z w w1 K rest near h. h [] w w1 (record { near = near; same = same_self g n w1.state.store; stored = tt })
  items_right (Value e d ∷ xs) = value_right e d xs (items_right xs)
  items_right (Skip i ∷ xs) = λ p n ok A P z w w1 K rest near h. items_right xs p n ok A P z (counted w) w1 K rest (near_less g (omega arith) (near_counted g near)) h
  items_right (Chars t ∷ xs) = λ p n ok A P z w w1 K rest near h. items_right xs p n ok A P z (counted w) w1 K rest (near_less g (omega arith) (near_counted g near)) h

  -- ---- the unit ----

  clash : Logical ≡ Integer → ⊥
  clash e = subst IsLogical e tt
    where
      IsLogical : Kind → Type 0
      IsLogical Integer = ⊥
      IsLogical Logical = ⊤

  -- the formula of an integer is one that names a unit
  unit_value : (p : Place) (e : Expr) (n : ℕ) (w : World) → type_of e ≡ Integer → par_in (Target g) (there g p) (par_of g.home g.temp g.callee label own (formula g.home g.temp g.callee e n)) w ≡ value_of (Target g) (there g p) (formula g.home g.temp g.callee e n) w
  unit_value p (Int z) n w is = refl
  unit_value p (Truth b) n w is = absurd (clash is)
  unit_value p (At x) n w is = refl
  unit_value p (Call v k es) n w is = refl
  unit_value p (Known i es) n w is = refl
  unit_value p (Group a) n w is = unit_value p a n w is
  unit_value p (Plus a) n w is = refl
  unit_value p (Minus a) n w is = refl
  unit_value p (Not a) n w is = refl
  unit_value p (Up x) n w is = refl
  unit_value p (Down x) n w is = refl
  unit_value p (Pair op a b) n w is = refl
  unit_value p (Assign None x e) n w is = unit_value p e n w is
  unit_value p (Assign (Some op) x e) n w is = refl

  -- the unit was found
  pub record AfterUnit (n m z : ℕ) (d : ℤ) (o : Option Expr) (st : Store) (v : Content) (w w1 : World) : Type 0 where
    pub near : Near g z w w1
    pub same : Same g n st w1.state.store
    pub says : (p : Place) (u : World) → Same g m w1.state.store u.state.store → par_in (Target g) (there g p) (unit_par g.home g.temp g.callee label own d o n) u ≡ Gives v u

  pub unit_right : {A : Type 0} (P : Post A Course) (p : Place) (d : ℤ) (o : Option Expr) (n z : ℕ) (w w1 : World) (K : Content → World → Out A) (rest : Routes) → FitIfAny g.M c.F c.C g.room gives o n → Near g z w w1 →
      ((v : Content) (u u1 : World) → AfterUnit n (n + made_if_any o) z d o w1.state.store v u u1 → Like P (K v u) (run g rest u1)) → Like P (bind (meaning.unit_of S g.from p d o w) K) (run g (first_if_any g.home g.temp g.callee label own p o n rest) w1)
  unit_right P p d None n z w w1 K rest ok near h = h (Whole d) w w1 (record { near = near; same = same_self g n w1.state.store; says = λ q u s. refl })
  unit_right {A} P p d (Some e) n z w w1 K rest ok near h =
      expression_right g c e ok.1.0 p n ok.1.1 A P z w w1 K rest near (λ v u u1 f. h v u u1 (record { near = f.near; same = f.same; says = λ q x s. unit_value q e n x ok.0 ∙ f.says.by q x s }))

  -- ---- the record ----

  abbrev Par_of : Option Expr → ℕ → f66.Par
  Par_of o n = unit_par g.home g.temp g.callee label own (pos 6) o n

  abbrev leave : Exit → World → Flow
  leave y w = Gives (course_of y) w

  abbrev on : Exit → World → Flow
  on y w = after (λ x. run g NoRoute x) (course_of y) w

  -- the parts of a WRITE behind the test of its unit
  abbrev end_it : ⊤ → World → Out Exit
  end_it _ w = Gives Normal w

  abbrev close_it : Place → ⊤ → World → Out Exit
  close_it p _ w = bind (taped p closed w) end_it

  abbrev put_it : Place → Entries → ⊤ → World → Out Exit
  put_it p es _ w = bind (items (Target g) (there g p) Writing es w) (close_it p)

  abbrev open_it : Place → List WriteItem → Entries → ⊤ → World → Out Exit
  open_it p xs es _ w = bind (taped p (opened Writing (meaning.written_by xs)) w) (put_it p es)

  -- the test of the unit, and one record
  record_like : (rs : List Around) (n m z : ℕ) (st : Store) (p : Place) (xs : List WriteItem) (v : Content) (par : f66.Par) (vs : List (Kind × Content)) (es : Entries) (u u1 : World) → Near g (1 + z) u u1 → Same g n st u1.state.store → Stored g m vs es u1.state.store → par_in (Target g) (there g p) par (counted u1) ≡ Gives v (counted u1) →
      Like (Left g label rs n z st)
      (bind (settle p (on_unit Writing v) u) (λ _ w3. bind (taped p (opened Writing (meaning.written_by xs)) w3) (λ _ w4. bind (put_all p vs w4) (λ _ w5. bind (taped p closed w5) (λ _ w6. Gives EflWent w6)))))
      (run g (only (Transfer p Writing par (meaning.written_by xs) es)) u1)
  record_like rs n m z st p xs v par vs es u u1 near same stored is =
      let P = Left g label rs n z st in
      let x1 = counted u1 in
      let once : Near g z u x1 = near_begun g near in
      let last : World → meaning.Flow = λ w. bind (taped p closed w) (λ _ w6. Gives EflWent w6) in
      let middle : World → meaning.Flow = λ w. bind (put_all p vs w) (λ _ w5. last w5) in
      let begin : World → meaning.Flow = λ w. bind (taped p (opened Writing (meaning.written_by xs)) w) (λ _ w4. middle w4) in
      let test = settle p (on_unit Writing v) x1 in
      subst (λ q. Like P (bind (settle p (on_unit Writing v) u) (λ _ w3. begin w3)) q)
      (sym (ap (λ o. bind (bind (bind o (λ y w. bind (settle p (on_unit Writing y) w) (open_it p xs es))) leave) (after (λ x. run g NoRoute x))) is ∙ bind_assoc (bind test (open_it p xs es)) leave (after (λ x. run g NoRoute x)) ∙ bind_assoc test (open_it p xs es) on))
      (like_settle p (on_unit Writing v) u x1 (λ _ w3. begin w3) (λ a w. bind (open_it p xs es a w) on) (near_within g once) (λ a _.
      subst (λ q. Like P (begin u) q) (sym (bind_assoc (taped p (opened Writing (meaning.written_by xs)) x1) (put_it p es) on))
      (like_taped g P p (opened Writing (meaning.written_by xs)) z u x1 middle (λ w. bind (put_it p es tt w) on) once (λ t near1.
      subst (λ q. Like P (middle (taping t u)) q) (sym (bind_assoc (items (Target g) (there g p) Writing es (taping t x1)) (close_it p) on))
      (put_like g P p m z u1.state.store vs es (taping t u) (taping t x1) last (λ w. bind (close_it p tt w) on) stored near1 (same_self g m u1.state.store) (λ y y1 near2 keeps.
      subst (λ q. Like P (last y) q) (sym (bind_assoc (taped p closed y1) end_it on))
      (like_taped g P p closed z y y1 (λ w. Gives EflWent w) (λ w. bind (end_it tt w) on) near2 (λ t2 near3. record { by = (Went, taping t2 y1, refl, (refl, near3, subst (λ s. Same g n st s) (sym keeps) same)) }))))))))

  pub writes_follow : (p : Place) (o : Option Expr) (xs : List WriteItem) → lists.Follows g c label own gives same_label (Write p o xs)
  writes_follow p o xs rs n ok z st w w1 near same =
      let n1 = n + made_if_any o in
      let es = Entries_of xs n1 in
      let more = only (Transfer p Writing (Par_of o n) (meaning.written_by xs) es) in
      let P = Left g label rs n z st in
      unit_right P p (pos 6) o n (1 + z) (counted w) w1 (λ v u. bind (meaning.values_in S g.from p xs u) (λ vs u1. bind (settle p (on_unit Writing v) u1) (λ _ w3. bind (taped p (opened Writing (meaning.written_by xs)) w3) (λ _ w4. bind (put_all p vs w4) (λ _ w5. bind (taped p closed w5) (λ _ w6. Gives EflWent w6))))))
      (Go p xs n1 more) ok.0 (near_less g (omega arith) (near_counted g near)) (λ v u u1 f.
      items_right xs p n1 ok.1 meaning.Course P (1 + z) u u1 (λ vs u2. bind (settle p (on_unit Writing v) u2) (λ _ w3. bind (taped p (opened Writing (meaning.written_by xs)) w3) (λ _ w4. bind (put_all p vs w4) (λ _ w5. bind (taped p closed w5) (λ _ w6. Gives EflWent w6))))) more f.near (λ vs u2 u3 f1.
      record_like rs n (n1 + made_items xs) z st p xs v (Par_of o n) vs es u2 u3 f1.near (same_on g same (same_on g f.same (same_less g (omega arith) f1.same))) f1.stored (f.says p (counted u3) f1.same)))
