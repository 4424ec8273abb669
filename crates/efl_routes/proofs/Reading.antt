-- A `read` follows: its contents come into temporaries, and are stored in its variables when the record is done.
use Rattle.std.proofs.Common.{◌≡◌, ℕ, ◌+◌, ◌≤◌, ◌<◌, List, [], ◌∷◌, Option, refl, sym, ap, ◌∙◌, subst, arith}
use Rattle.std.specs.Prelude.{⊤, nat_eq, pos}
use Rattle.std.specs.Str.{bytes_eq}
use Rattle.ground.specs.declared.place.Place.{Place}
use Rattle.ground.specs.declared.value.Kind.{Kind}
use Rattle.ground.specs.declared.value.Kind.TheVariants.{Integer, Logical}
use Rattle.ground.specs.Content.{Content, Nothing, Whole, Truth}
use Rattle.f66_tree.specs.declared.editing.Way.TheVariants.{Reading}
use Rattle.f66_tree.specs.Syntax as f66
use Rattle.f66_tree.specs.Syntax.{Text, Entries}
use Rattle.f66_tree.specs.World.{Store, Tape, World, counted, taping, Out, Gives, bind, Try, Yields, Traps, Fails, Move, Moves, Breaks, Misses, settle, moving}
use Rattle.f66_tree.specs.Records.{opened, due, take, closed}
use Rattle.f66_tree.specs.Units.{kind_of, sizes_of, Spot, Held, Setting}
use Rattle.f66_tree.specs.Evaluation.{asked, base, load, store_at, par_in, value_of}
use Rattle.f66_tree.specs.Statements.{Exit, Normal, taped, taken_content, on_unit, one_or_row, item, items}
use Rattle.f66_tree.proofs.Stores.{read_same}
use Rattle.f66_tree.proofs.EditLemmas.{MovesRightly, Awaits, due_rightly, take_rightly}
use Rattle.f66_tree.proofs.Tries.{IsOfKind, TriesRightly}
use Rattle.efl_program.specs.Typed.{Expr, Site, ReadItem, Take, Pass, Read}
use Rattle.efl_program.specs.Setting as world
use Rattle.efl_program.specs.Meaning as meaning
use Rattle.efl_program.specs.Meaning.{Went as EflWent, take_all, kind_by}
use Rattle.efl_program.specs.Values as values
use Rattle.routes.specs.Routes.{Transfer, Routes, AndRoute}
use Rattle.routes.specs.Running.{Course, Went, Flow, course_of, after}
use Rattle.efl_routes.specs.Expressions.{sets, site_formula, ScalarSite}
use Rattle.efl_routes.specs.Statements.{Around, made_if_any, unit_par, read_entries, store_routes, TakenFit}
use Rattle.efl_routes.specs.LoweredProgram.{SameSpot}
use Rattle.efl_routes.proofs.Like.{Post, Like, like_settle}
use Rattle.efl_routes.proofs.Near.{Sides, Target, there, here, run, spare, Near, Same, same_self, same_on, same_less, same_filled, near_less, near_counted, near_begun, near_within, near_filled}
use Rattle.efl_routes.proofs.Procedures.{Agreed}
use Rattle.efl_routes.proofs.Calls.{scalar_site}
use Rattle.efl_routes.proofs.Lowers.{site_found}
use Rattle.efl_routes.proofs.Changes.{store_right}
use Rattle.efl_routes.proofs.Flows.{Left}
use Rattle.efl_routes.proofs.Lists as lists
use Rattle.efl_routes.proofs.Steps.{bind_assoc, Of, temp_base, filled, sets_at}
use Rattle.efl_routes.proofs.Writing.{like_taped, unit_right}

kind_of_content : (k : Kind) (c : Content) → IsOfKind k c → Of k c
kind_of_content Integer (Whole z) h = refl
kind_of_content Logical (Truth b) h = refl
kind_of_content Integer Nothing h = absurd h
kind_of_content Integer (Truth b) h = absurd h
kind_of_content Logical Nothing h = absurd h
kind_of_content Logical (Whole z) h = absurd h

-- how many contents are taken
abbrev pub takes : List ReadItem → ℕ
takes [] = 0
takes (Take x d ∷ xs) = 1 + takes xs
takes (Pass i ∷ xs) = takes xs

module _ (g : Sides) where
  abbrev T : Setting
  T = Target g

  abbrev S : world.Setting
  S = g.source

  -- where a scalar variable is on both sides
  record Lands (x : Site) : Type 1 where
    source : world.Spot
    target : Spot
    name : Text
    same : SameSpot g.cell g.Real S.linked g.linked source target
    names : site_formula g.home g.temp g.callee x ≡ f66.Ref name
    based : (p : Place) → base T (there g p) name ≡ Yields target
    found : {A : Type 0} (p : Place) (w : World) (go : world.Spot → World → Out A) → bind (values.reach S (here g p) x w) (λ r w1. bind (values.placed S (here g p) r w1) go) ≡ go source (counted w)

  lands : (x : Site) → ScalarSite g.M x → Lands x
  lands x is = scalar_site g.M Lands x is (λ v k m.
      let a = g.bases v k m in
      record { source = a.source; target = a.target; name = g.home v; same = a.same; names = refl; based = λ p. a.is1; found = λ p w go. site_found g p v k m w go })

  -- a content is taken in the same way, and is of the type that the edit was found for
  like_taken : {A : Type 0} (P : Post A Course) (p : Place) (k : Kind) (z : ℕ) (u u1 : World) (K : Content → World → Out A) (J : Content → World → Out Course) → Awaits k u.state.tape.hand.mark → Near g z u u1 →
      ((c : Content) (t : Tape) → Of k c → Near g z (taping t u) (taping t u1) → Like P (K c (taping t u)) (J c (taping t u1))) → Like P (bind (taken_content p take u) K) (bind (taken_content p take u1) J)
  like_taken P p k z u u1 K J awaits near h =
      subst (λ q. Like P (bind (taken_content p take u) K) (bind (bind (settle p (take q) u1) (λ x w1. Gives x.0 (taping x.1 w1))) J)) (sym near.tape) (by_try (take u.state.tape) (take_rightly k u.state.tape awaits))
    where
      by_try : (o : Try (Content × Tape)) → TriesRightly (λ (x : Content × Tape). IsOfKind k x.0) o → Like P (bind (bind (settle p o u) (λ x w1. Gives x.0 (taping x.1 w1))) K) (bind (bind (settle p o u1) (λ x w1. Gives x.0 (taping x.1 w1))) J)
      by_try (Yields x) is = h x.0 x.1 (kind_of_content k x.0 is) (record { tape = refl; cells = near.cells; count = near.count })
      by_try (Traps t) is = record { by = (u1, refl, near_within g near) }
      by_try Fails is = record { by = (u1, refl, near_within g near) }

  -- an edit is found in the same way
  like_due : {A : Type 0} (P : Post A Course) (p : Place) (k : Kind) (z : ℕ) (u u1 : World) (K : World → Out A) (J : World → Out Course) → Near g z u u1 →
      ((t : Tape) → Awaits k t.hand.mark → Near g z (taping t u) (taping t u1) → Like P (K (taping t u)) (J (taping t u1))) → Like P (bind (taped p (due k) u) (λ _ x. K x)) (bind (taped p (due k) u1) (λ _ x. J x))
  like_due P p k z u u1 K J near h = subst (λ q. Like P (bind (taped p (due k) u) (λ _ x. K x)) (bind (moving p (due k q) u1) (λ _ x. J x))) (sym near.tape) (by_move (due k u.state.tape) (due_rightly k u.state.tape))
    where
      by_move : (m : Move) → MovesRightly (λ t. Awaits k t.hand.mark) m → Like P (bind (moving p m u) (λ _ x. K x)) (bind (moving p m u1) (λ _ x. J x))
      by_move (Moves t) is = h t is (record { tape = refl; cells = near.cells; count = near.count })
      by_move (Breaks e t) is = record { by = (taping t u1, refl, record { tape = refl; count = (near_within g near).count }) }
      by_move Misses is = record { by = (u1, refl, near_within g near) }

  -- a temporary as an item: it gets the content
  item_step : (p : Place) (k : Kind) (n : ℕ) (u : World) → n < g.room → item T (there g p) Reading (f66.Ref (g.temp k n)) u ≡ bind (taped p (due k) u) (λ _ w. bind (taken_content p take w) (λ c w1. Gives tt (filled g k n c w1)))
  item_step p k n u fits =
      let t = g.temp k n in
      let q = Held g.to.unit t 0 in
      ap (λ o. bind (settle p o u) (λ q1 w. one_or_row T (there g p) Reading (kind_of (g.linked.context g.to.unit) t) (sizes_of t (g.linked.context g.to.unit).notes) q1 w)) (temp_base g p k n fits)
      ∙ ap (λ j. one_or_row T (there g p) Reading j (sizes_of t (g.linked.context g.to.unit).notes) q u) (g.temp_kind k n fits)
      ∙ ap (λ s. one_or_row T (there g p) Reading k s q u) (g.temp_plain k n fits)

module _ (g : Sides) (c : Agreed g) (label : Text → ℕ) (own : Text) (gives : Type 0) (same_label : (m l : Text) → nat_eq (label m) (label l) ≡ bytes_eq m l) where
  abbrev Fits : List ReadItem → ℕ → Type 0
  Fits xs n = TakenFit g.M c.F c.C g.room gives xs n

  abbrev Entries_of : List ReadItem → ℕ → Entries
  Entries_of xs n = read_entries g.home g.temp g.callee label own xs n

  abbrev Stores : Place → List ReadItem → ℕ → Routes
  Stores p xs n = store_routes g.home g.temp g.callee label own p xs n

  -- the places of the items
  abbrev spots : (xs : List ReadItem) (n : ℕ) → Fits xs n → List (Kind × world.Spot)
  spots [] n ok = []
  spots (Take x d ∷ xs) n ok = (kind_by d, (lands g x ok.0).source) ∷ spots xs (n + 1) ok.3
  spots (Pass i ∷ xs) n ok = spots xs n ok

  -- they are found first, and nothing is done for that in the target
  spots_found : {A B : Type 0} (P : Post A B) (p : Place) (xs : List ReadItem) (n : ℕ) (ok : Fits xs n) (z : ℕ) (w w1 : World) (K : List (Kind × world.Spot) → World → Out A) (t : Out B) → Near g z w w1 → ((u : World) → Near g (z + takes xs) u w1 → Like P (K (spots xs n ok) u) t) → Like P (bind (meaning.spots_in g.source g.from p xs w) K) t
  spots_found P p [] n ok z w w1 K t near h = h w (near_less g (omega arith) near)
  spots_found P p (Pass i ∷ xs) n ok z w w1 K t near h = spots_found P p xs n ok z (counted w) w1 K t (near_less g (omega arith) (near_counted g near)) h
  spots_found {A} P p (Take x d ∷ xs) n ok z w w1 K t near h =
      let a = lands g x ok.0 in
      let ww = counted (counted w) in
      let add : world.Spot → World → Out (List (Kind × world.Spot)) = λ q u. bind (meaning.spots_in g.source g.from p xs u) (λ qs u1. Gives ((kind_by d, q) ∷ qs) u1) in
      let more : z + 1 + takes xs ≡ z + (1 + takes xs) = omega arith in
      let source : bind (bind (values.reach g.source (here g p) x ww) (λ r u. bind (values.placed g.source (here g p) r u) add)) K ≡ bind (meaning.spots_in g.source g.from p xs (counted ww)) (λ qs u. K ((kind_by d, a.source) ∷ qs) u) =
      ap (λ o. bind o K) (a.found p ww add) ∙ bind_assoc (meaning.spots_in g.source g.from p xs (counted ww)) (λ qs u1. Gives ((kind_by d, a.source) ∷ qs) u1) K in
      subst (λ q. Like P q t) (sym source)
      (spots_found P p xs (n + 1) ok.3 (z + 1) (counted ww) w1 (λ qs u. K ((kind_by d, a.source) ∷ qs) u) t (near_less g (omega arith) (near_counted g (near_counted g (near_counted g near)))) (λ u near1. h u (near_less g (omega arith) near1)))

  -- the temporaries hold what was taken, of its type
  abbrev Holding : (xs : List ReadItem) (n : ℕ) → Fits xs n → List (world.Spot × Content) → Store → Type 0
  Holding [] n ok [] st = ⊤
  Holding (Take x d ∷ xs) n ok (e ∷ es) st = (e.0 ≡ (lands g x ok.0).source) × Of (kind_by d) e.1 × (st (spare g (kind_by d) n) ≡ e.1) × Holding xs (n + 1) ok.3 es st
  Holding (Pass i ∷ xs) n ok es st = Holding xs n ok es st
  Holding _ n ok _ st = ⊥

  holding_on : (xs : List ReadItem) (n : ℕ) (ok : Fits xs n) (es : List (world.Spot × Content)) (a b : Store) → ((m : ℕ) → Same g m a b) → Holding xs n ok es a → Holding xs n ok es b
  holding_on [] n ok [] a b s h = tt
  holding_on [] n ok (e ∷ es) a b s h = absurd h
  holding_on (Take x d ∷ xs) n ok [] a b s h = absurd h
  holding_on (Take x d ∷ xs) n ok (e ∷ es) a b s h = (h.0, h.1, (s (n + 1)).by (kind_by d) n (omega arith) (omega (ok.2, arith)) ∙ h.2, holding_on xs (n + 1) ok.3 es a b s h.3)
  holding_on (Pass i ∷ xs) n ok es a b s h = holding_on xs n ok es a b s h

  -- the contents of all items come in
  take_like : {A : Type 0} (P : Post A Course) (p : Place) (xs : List ReadItem) (n : ℕ) (ok : Fits xs n) (z : ℕ) (u u1 : World) (K : List (world.Spot × Content) → World → Out A) (J : World → Out Course) → Near g z u u1 →
      ((es : List (world.Spot × Content)) (x x1 : World) → Near g z x x1 → Same g n u1.state.store x1.state.store → Holding xs n ok es x1.state.store → Like P (K es x) (J x1)) →
      Like P (bind (take_all p (spots xs n ok) u) K) (bind (items (Target g) (there g p) Reading (Entries_of xs n) u1) (λ _ x. J x))
  take_like P p [] n ok z u u1 K J near h = h [] u u1 near (same_self g n u1.state.store) tt
  take_like P p (Pass i ∷ xs) n ok z u u1 K J near h = take_like P p xs n ok z u u1 K J near h
  take_like P p (Take x d ∷ xs) n ok z u u1 K J near h =
      let k = kind_by d in
      let a = (lands g x ok.0).source in
      let rest : World → Out (List (world.Spot × Content)) = λ w. take_all p (spots xs (n + 1) ok.3) w in
      let add : Content → World → Out (List (world.Spot × Content)) = λ v w. bind (rest w) (λ es w1. Gives ((a, v) ∷ es) w1) in
      let two : World → Out (List (world.Spot × Content)) = λ w. bind (taken_content p take w) add in
      let rest1 : World → Out ⊤ = λ w. items (Target g) (there g p) Reading (Entries_of xs (n + 1)) w in
      let one1 : World → Out ⊤ = λ w. bind (taken_content p take w) (λ v w1. Gives tt (filled g k n v w1)) in
      let fits : n < g.room = omega (ok.2, arith) in
      subst (λ q. Like P q (bind (items (Target g) (there g p) Reading (Entries_of (Take x d ∷ xs) n) u1) (λ _ y. J y))) (sym (bind_assoc (taped p (due k) u) (λ _ w. two w) K))
      (subst (λ q. Like P (bind (taped p (due k) u) (λ _ w. bind (two w) K)) q)
      (sym (ap (λ o. bind (bind o (λ _ w. rest1 w)) (λ _ y. J y)) (item_step g p k n u1 fits) ∙ ap (λ o. bind o (λ _ y. J y)) (bind_assoc (taped p (due k) u1) (λ _ w. one1 w) (λ _ w. rest1 w)) ∙ bind_assoc (taped p (due k) u1) (λ _ w. bind (one1 w) (λ _ w1. rest1 w1)) (λ _ y. J y)))
      (like_due g P p k z u u1 (λ w. bind (two w) K) (λ w. bind (bind (one1 w) (λ _ w1. rest1 w1)) (λ _ y. J y)) near (λ t awaits near1.
      let v0 = taping t u in
      let v1 = taping t u1 in
      subst (λ q. Like P q (bind (bind (one1 v1) (λ _ w1. rest1 w1)) (λ _ y. J y))) (sym (bind_assoc (taken_content p take v0) add K))
      (subst (λ q. Like P (bind (taken_content p take v0) (λ v w. bind (add v w) K)) q)
      (sym (ap (λ o. bind o (λ _ y. J y)) (bind_assoc (taken_content p take v1) (λ v w1. Gives tt (filled g k n v w1)) (λ _ w1. rest1 w1)) ∙ bind_assoc (taken_content p take v1) (λ v w1. rest1 (filled g k n v w1)) (λ _ y. J y)))
      (like_taken g P p k z v0 v1 (λ v w. bind (add v w) K) (λ v w. bind (rest1 (filled g k n v w)) (λ _ y. J y)) awaits near1 (λ v t2 of near2.
      let y0 = taping t2 v0 in
      let y1 = filled g k n v (taping t2 v1) in
      subst (λ q. Like P q (bind (rest1 y1) (λ _ y. J y))) (sym (bind_assoc (rest y0) (λ es w1. Gives ((a, v) ∷ es) w1) K))
      (take_like P p xs (n + 1) ok.3 z y0 y1 (λ es w. K ((a, v) ∷ es) w) J (near_filled g k n v fits near2) (λ es x2 x3 near3 same held.
      h ((a, v) ∷ es) x2 x3 near3 (same_on g (same_filled g n k n v u1.state.store (omega arith) fits) (same_less g (omega arith) same))
      (refl, of, same.by k n (omega arith) fits ∙ read_same (spare g k n) v u1.state.store, held)))))))))

  -- what was taken is stored in the variables, in order
  store_like : (P : Post meaning.Course Course) (p : Place) (xs : List ReadItem) (n : ℕ) (ok : Fits xs n) (es : List (world.Spot × Content)) (z : ℕ) (w w1 : World) → Holding xs n ok es w1.state.store → Near g (z + takes xs) w w1 →
      ((u u1 : World) → Near g z u u1 → ((m : ℕ) → Same g m w1.state.store u1.state.store) → P EflWent u Went u1) → Like P (meaning.store_all g.source g.from p es w) (run g (Stores p xs n) w1)
  store_like P p [] n ok [] z w w1 held near h = record { by = (Went, w1, refl, h w w1 (near_less g (omega arith) near) (λ m. same_self g m w1.state.store)) }
  store_like P p [] n ok (e ∷ es) z w w1 held near h = absurd held
  store_like P p (Pass i ∷ xs) n ok es z w w1 held near h = store_like P p xs n ok es z w w1 held near h
  store_like P p (Take x d ∷ xs) n ok [] z w w1 held near h = absurd held
  store_like P p (Take x d ∷ xs) n ok (e ∷ es) z w w1 held near h =
      let k = kind_by d in
      let a = lands g x ok.0 in
      let f = f66.Ref (g.temp k n) in
      let rest = Stores p xs (n + 1) in
      let after_it : World → meaning.Flow = λ u. meaning.store_all g.source g.from p es u in
      let fits : n < g.room = omega (ok.2, arith) in
      let says : value_of (Target g) (there g p) f (counted w1) ≡ Gives e.1 (counted w1) =
      ap (λ o. bind (settle p o (counted w1)) (λ q w2. load (Target g) (there g p) (kind_of (g.linked.context g.to.unit) (g.temp k n)) q w2)) (temp_base g p k n fits)
      ∙ ap (λ j. settle p (asked j (w1.state.store (spare g k n))) (counted w1)) (g.temp_kind k n fits)
      ∙ ap (λ v. settle p (asked k v) (counted w1)) held.2
      ∙ ap (λ o. settle p o (counted w1)) held.1 in
      let target : run g (AndRoute (sets p (site_formula g.home g.temp g.callee x) f) rest) w1 ≡ bind (store_at (Target g) (there g p) a.target e.1 (counted w1)) (λ _ u. run g rest u) =
      ap (λ y. run g (AndRoute (sets p y f) rest) w1) a.names ∙ sets_at g p a.name a.target f rest w1 (a.based p) ∙ ap (λ q. bind q (λ v u. bind (store_at (Target g) (there g p) a.target v u) (λ _ u1. run g rest u1))) says in
      subst (λ q. Like P (meaning.store_all g.source g.from p (e ∷ es) w) q) (sym target)
      (subst (λ q. Like P (bind (world.store_at g.source (here g p) q e.1 w) (λ _ u. after_it u)) (bind (store_at (Target g) (there g p) a.target e.1 (counted w1)) (λ _ u. run g rest u))) (sym held.0)
      (store_right g P p a.source a.target a.same e.1 (z + takes xs) w (counted w1) after_it rest (near_begun g (near_less g (omega arith) near)) (λ u u1 near1 same1.
      store_like P p xs (n + 1) ok.3 es z u u1 (holding_on xs (n + 1) ok.3 es w1.state.store u1.state.store same1 held.3) near1 (λ y y1 near2 same2. h y y1 near2 (λ m. same_on g (same1 m) (same2 m))))))

  -- ---- the record ----

  abbrev leave : Exit → World → Flow
  leave y w = Gives (course_of y) w

  -- the parts of a READ behind the test of its unit
  abbrev end_it : ⊤ → World → Out Exit
  end_it _ w = Gives Normal w

  abbrev close_it : Place → ⊤ → World → Out Exit
  close_it p _ w = bind (taped p closed w) end_it

  abbrev take_it : Place → Entries → ⊤ → World → Out Exit
  take_it p es _ w = bind (items (Target g) (there g p) Reading es w) (close_it p)

  abbrev open_it : Place → List ReadItem → Entries → ⊤ → World → Out Exit
  open_it p xs es _ w = bind (taped p (opened Reading (meaning.read_by xs)) w) (take_it p es)

  -- the test of the unit, one record, and the stores
  record_like : (rs : List Around) (n m z : ℕ) (st : Store) (p : Place) (xs : List ReadItem) (ok : Fits xs m) (v : Content) (par : f66.Par) (u u1 : World) → n ≤ m → Near g (1 + (z + takes xs)) u u1 → Same g n st u1.state.store → par_in (Target g) (there g p) par (counted u1) ≡ Gives v (counted u1) →
      Like (Left g label rs n z st)
      (bind (settle p (on_unit Reading v) u) (λ _ w3. bind (taped p (opened Reading (meaning.read_by xs)) w3) (λ _ w4. bind (take_all p (spots xs m ok) w4) (λ cs w5. bind (taped p closed w5) (λ _ w6. meaning.store_all g.source g.from p cs w6)))))
      (run g (AndRoute (Transfer p Reading par (meaning.read_by xs) (Entries_of xs m)) (Stores p xs m)) u1)
  record_like rs n m z st p xs ok v par u u1 le near same is =
      let P = Left g label rs n z st in
      let es = Entries_of xs m in
      let on : Exit → World → Flow = λ y w. after (λ x. run g (Stores p xs m) x) (course_of y) w in
      let x1 = counted u1 in
      let once : Near g (z + takes xs) u x1 = near_begun g near in
      let last : List (world.Spot × Content) → World → meaning.Flow = λ cs w. bind (taped p closed w) (λ _ w6. meaning.store_all g.source g.from p cs w6) in
      let middle : World → meaning.Flow = λ w. bind (take_all p (spots xs m ok) w) last in
      let begin : World → meaning.Flow = λ w. bind (taped p (opened Reading (meaning.read_by xs)) w) (λ _ w4. middle w4) in
      let test = settle p (on_unit Reading v) x1 in
      subst (λ q. Like P (bind (settle p (on_unit Reading v) u) (λ _ w3. begin w3)) q)
      (sym (ap (λ o. bind (bind (bind o (λ y w. bind (settle p (on_unit Reading y) w) (open_it p xs es))) leave) (after (λ x. run g (Stores p xs m) x))) is ∙ bind_assoc (bind test (open_it p xs es)) leave (after (λ x. run g (Stores p xs m) x)) ∙ bind_assoc test (open_it p xs es) on))
      (like_settle p (on_unit Reading v) u x1 (λ _ w3. begin w3) (λ a w. bind (open_it p xs es a w) on) (near_within g once) (λ a _.
      subst (λ q. Like P (begin u) q) (sym (bind_assoc (taped p (opened Reading (meaning.read_by xs)) x1) (take_it p es) on))
      (like_taped g P p (opened Reading (meaning.read_by xs)) (z + takes xs) u x1 middle (λ w. bind (take_it p es tt w) on) once (λ t near1.
      subst (λ q. Like P (middle (taping t u)) q) (sym (bind_assoc (items (Target g) (there g p) Reading es (taping t x1)) (close_it p) on))
      (take_like P p xs m ok (z + takes xs) (taping t u) (taping t x1) last (λ w. bind (close_it p tt w) on) near1 (λ cs y y1 near2 same2 held.
      subst (λ q. Like P (last cs y) q) (sym (bind_assoc (taped p closed y1) end_it on))
      (like_taped g P p closed (z + takes xs) y y1 (λ w. meaning.store_all g.source g.from p cs w) (λ w. bind (end_it tt w) on) near2 (λ t2 near3.
      store_like P p xs m ok cs z (taping t2 y) (taping t2 y1) held near3 (λ y2 y3 near4 same4. (refl, near4, same_on g same (same_on g (same_less g le same2) (same4 n))))))))))))

  pub reads_follow : (p : Place) (o : Option Expr) (xs : List ReadItem) → lists.Follows g c label own gives same_label (Read p o xs)
  reads_follow p o xs rs n ok z st w w1 near same =
      let m = n + made_if_any o in
      let P = Left g label rs n z st in
      let par = unit_par g.home g.temp g.callee label own (pos 5) o n in
      let more = AndRoute (Transfer p Reading par (meaning.read_by xs) (Entries_of xs m)) (Stores p xs m) in
      unit_right g c label own gives same_label P p (pos 5) o n (1 + z) (counted w) w1 (λ v u. bind (meaning.spots_in g.source g.from p xs u) (λ qs w2. bind (settle p (on_unit Reading v) w2) (λ _ w3. bind (taped p (opened Reading (meaning.read_by xs)) w3) (λ _ w4. bind (take_all p qs w4) (λ cs w5. bind (taped p closed w5) (λ _ w6. meaning.store_all g.source g.from p cs w6))))))
      more ok.0 (near_less g (omega arith) (near_counted g near)) (λ v u u1 f.
      spots_found P p xs m ok.1 (1 + z) u u1 (λ qs w2. bind (settle p (on_unit Reading v) w2) (λ _ w3. bind (taped p (opened Reading (meaning.read_by xs)) w3) (λ _ w4. bind (take_all p qs w4) (λ cs w5. bind (taped p closed w5) (λ _ w6. meaning.store_all g.source g.from p cs w6))))) (run g more u1) f.near (λ u2 near2.
      record_like rs n m z st p xs ok.1 v par u2 u1 (omega arith) (near_less g (omega arith) near2) (same_on g same f.same) (f.says p (counted u1) (same_self g m u1.state.store))))
