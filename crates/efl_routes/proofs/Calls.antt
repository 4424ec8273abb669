-- Arguments are lowered right, and calls of intrinsic functions and of procedures, where what a call does is the same on both sides.
use Rattle.std.proofs.Common.{◌≡◌, ℕ, ◌+◌, ◌≤◌, Bool, true, false, List, [], ◌∷◌, suc, zero, length, take, true≢false, ◌<◌, refl, sym, ap, ◌∙◌, subst, arith, rules}
use Rattle.std.specs.Prelude.{⊤, ℤ, pos, int_lt, if◌then◌else◌}
use Rattle.ground.specs.declared.place.Place.{Place}
use Rattle.ground.specs.declared.value.Kind.{Kind}
use Rattle.ground.specs.declared.value.Kind.TheVariants.{Integer}
use Rattle.ground.specs.Content.{Content, Nothing, Whole, Truth}
use Rattle.ground.specs.Arithmetic.{difference, remainder}
use Rattle.f66_tree.specs.Syntax as f66
use Rattle.f66_tree.specs.Syntax.{Text, Formula, Formulas, NoFormula, AndFormula}
use Rattle.f66_tree.specs.World.{Store, World, counted, Out, Gives, bind, Try, Yields, Traps, Fails, then_try, IfYields, settle}
use Rattle.f66_tree.specs.Units.{Setting}
use Rattle.f66_tree.specs.Evaluation.{Intrinsic, Iabs, Mod, Isign, Idim, Max0, Min0, excess, farthest, intrinsic, whole, AnIntrinsic, sort_of, referred, value_of, values_of, spots_of}
use Rattle.efl_program.specs.Typed.{Scalar, Shape, Array, Expr, Known, Exprs, NoExpr, AndExpr, Site, Variable, Member, Overlay}
use Rattle.efl_program.specs.Setting as efl
use Rattle.efl_program.specs.Values as values
use Rattle.routes.specs.Routes.{Routes, AndRoute}
use Rattle.routes.specs.Running.{Course}
use Rattle.efl_routes.specs.Expressions.{intrinsic_name, count, sets, first, further, gathered, made, made_in, formula, formulas, routes, all_routes, ScalarSite}
use Rattle.efl_routes.proofs.Like.{Post, Like}
use Rattle.efl_routes.proofs.Near.{Sides, Target, there, here, run, Near, Same, Says, same_self, same_on, same_less, says_still, says_more, near_less, near_counted}
use Rattle.efl_routes.proofs.Steps.{bind_assoc, Of, whole_of}
use Rattle.efl_routes.proofs.Lowers.{After, temp_gets, Right}

-- a site that is a scalar variable
pub scalar_site {ℓ} : (M : ℕ → Kind → Type 0) (P : Site → Type ℓ) (x : Site) → ScalarSite M x → ((v : ℕ) (k : Kind) → M v k → P (Variable v (Scalar k) NoExpr)) → P x
scalar_site M P (Variable v (Scalar k) NoExpr) is h = h v k is
scalar_site M P (Variable v (Scalar k) (AndExpr e es)) is h = absurd is
scalar_site M P (Variable v (Shape ss) es) is h = absurd is
scalar_site M P (Variable v (Array bs o) es) is h = absurd is
scalar_site M P (Member x m o es) is h = absurd is
scalar_site M P (Overlay x o) is h = absurd is

farthest_of : (beats : ℤ → ℤ → Bool) (a : ℤ) (vs : List Content) → IfYields (Of Integer) (farthest beats a vs)
farthest_of beats a [] = refl
farthest_of beats a (Nothing ∷ vs) = tt
farthest_of beats a (Truth t ∷ vs) = tt
farthest_of beats a (Whole b ∷ vs) = either (beats b a) (farthest_of beats b vs) (farthest_of beats a vs)
  where
    either : (t : Bool) → IfYields (Of Integer) (farthest beats b vs) → IfYields (Of Integer) (farthest beats a vs) → IfYields (Of Integer) (if t then (farthest beats b vs) else (farthest beats a vs))
    either true h j = h
    either false h j = j

excess_of : (a b : ℤ) → IfYields (Of Integer) (excess a b)
excess_of a b = by_answer (int_lt b a)
  where
    by_answer : (t : Bool) → IfYields (Of Integer) (if t then (whole (difference a b)) else (Yields (Whole (pos 0))))
    by_answer true = whole_of (difference a b)
    by_answer false = refl

-- an intrinsic function gives an integer
intrinsic_of : (i : Intrinsic) (vs : List Content) → IfYields (Of Integer) (intrinsic i vs)
intrinsic_of Iabs (Whole a ∷ []) = refl
intrinsic_of Mod (Whole a ∷ Whole b ∷ []) = whole_of (remainder a b)
intrinsic_of Isign (Whole a ∷ Whole b ∷ []) = refl
intrinsic_of Idim (Whole a ∷ Whole b ∷ []) = excess_of a b
intrinsic_of Max0 (Whole a ∷ vs) = farthest_of (λ b c. int_lt c b) a vs
intrinsic_of Min0 (Whole a ∷ vs) = farthest_of (λ b c. int_lt b c) a vs
intrinsic_of _ _ = tt

-- what an intrinsic function gives of a value, which it gave of some arguments, and of those behind the first m of others
abbrev furthered : Intrinsic → Content → ℕ → List Content → Try Content
furthered i v m [] = Yields v
furthered i v (suc m) (c ∷ vs) = furthered i v m vs
furthered i v zero (c ∷ vs) = intrinsic i (v ∷ c ∷ vs)

-- the greatest or the least of values is that of the first few and of what it is with the others
farthest_by_groups : (i : Intrinsic) (beats : ℤ → ℤ → Bool) → ((a : ℤ) (vs : List Content) → intrinsic i (Whole a ∷ vs) ≡ farthest beats a vs) → (m : ℕ) (a : ℤ) (vs : List Content) → farthest beats a vs ≡ then_try (farthest beats a (take m vs)) (λ v. furthered i v m vs)
farthest_by_groups i beats is zero a [] = refl
farthest_by_groups i beats is (suc m) a [] = refl
farthest_by_groups i beats is zero a (c ∷ vs) = sym (is a (c ∷ vs))
farthest_by_groups i beats is (suc m) a (Nothing ∷ vs) = refl
farthest_by_groups i beats is (suc m) a (Truth t ∷ vs) = refl
farthest_by_groups i beats is (suc m) a (Whole b ∷ vs) = either (beats b a) (farthest_by_groups i beats is m b vs) (farthest_by_groups i beats is m a vs)
  where
    either : (t : Bool) → farthest beats b vs ≡ then_try (farthest beats b (take m vs)) (λ v. furthered i v m vs) → farthest beats a vs ≡ then_try (farthest beats a (take m vs)) (λ v. furthered i v m vs) →
        (if t then (farthest beats b vs) else (farthest beats a vs)) ≡ then_try (if t then (farthest beats b (take m vs)) else (farthest beats a (take m vs))) (λ v. furthered i v m vs)
    either true h j = h
    either false h j = j

-- the others have one argument or two
abbrev takes_few : Intrinsic → Bool
takes_few Max0 = false
takes_few Min0 = false
takes_few i = true

three_fail : (i : Intrinsic) → takes_few i ≡ true → (a b c : Content) (vs : List Content) → intrinsic i (a ∷ b ∷ c ∷ vs) ≡ Fails
three_fail Max0 few a b c vs = absurd (true≢false (sym few))
three_fail Min0 few a b c vs = absurd (true≢false (sym few))
three_fail Iabs few Nothing b c vs = refl
three_fail Iabs few (Truth t) b c vs = refl
three_fail Iabs few (Whole a) b c vs = refl
three_fail i few Nothing b c vs = search rules
three_fail i few (Truth t) b c vs = search rules
three_fail i few (Whole a) Nothing c vs = search rules
three_fail i few (Whole a) (Truth t) c vs = search rules
three_fail i few (Whole a) (Whole b) c vs = search rules

none_behind : {A : Type 0} (o : Try A) → o ≡ then_try o (λ v. Yields v)
none_behind (Yields a) = refl
none_behind (Traps t) = refl
none_behind Fails = refl

groups_of_few : (i : Intrinsic) → takes_few i ≡ true → (vs : List Content) → intrinsic i vs ≡ then_try (intrinsic i (take 60 vs)) (λ v. furthered i v 60 vs)
groups_of_few i few [] = none_behind (intrinsic i [])
groups_of_few i few (a ∷ []) = none_behind (intrinsic i (a ∷ []))
groups_of_few i few (a ∷ b ∷ []) = none_behind (intrinsic i (a ∷ b ∷ []))
groups_of_few i few (a ∷ b ∷ c ∷ vs) = three_fail i few a b c vs ∙ sym (ap (λ o. then_try o (λ v. furthered i v 57 vs)) (three_fail i few a b c (take 57 vs)))

-- so it is of each intrinsic function
by_groups : (i : Intrinsic) (vs : List Content) → intrinsic i vs ≡ then_try (intrinsic i (take 60 vs)) (λ v. furthered i v 60 vs)
by_groups Max0 [] = refl
by_groups Max0 (Whole a ∷ vs) = farthest_by_groups Max0 (λ b c. int_lt c b) (λ b cs. refl) 59 a vs
by_groups Max0 (Nothing ∷ vs) = refl
by_groups Max0 (Truth t ∷ vs) = refl
by_groups Min0 [] = refl
by_groups Min0 (Whole a ∷ vs) = farthest_by_groups Min0 (λ b c. int_lt b c) (λ b cs. refl) 59 a vs
by_groups Min0 (Nothing ∷ vs) = refl
by_groups Min0 (Truth t ∷ vs) = refl
by_groups Iabs vs = groups_of_few Iabs refl vs
by_groups Mod vs = groups_of_few Mod refl vs
by_groups Isign vs = groups_of_few Isign refl vs
by_groups Idim vs = groups_of_few Idim refl vs

settle_then : {A B C : Type 0} (p : Place) (o : Try A) (go : A → Try B) (w : World) (K : B → World → Out C) → bind (settle p (then_try o go) w) K ≡ bind (settle p o w) (λ a u. bind (settle p (go a) u) K)
settle_then p (Yields a) go w K = refl
settle_then p (Traps t) go w K = refl
settle_then p Fails go w K = refl

module _ (g : Sides) where
  abbrev T : Setting
  T = Target g

  abbrev S : efl.Setting
  S = g.source

  -- each formula has its value as long as the first m temporaries hold the same
  abbrev pub AllSay : ℕ → Formulas → List Content → Store → Type 0
  AllSay m NoFormula [] st = ⊤
  AllSay m NoFormula (v ∷ vs) st = ⊥
  AllSay m (AndFormula e es) [] st = ⊥
  AllSay m (AndFormula e es) (v ∷ vs) st = Says g m e v st × AllSay m es vs st

  all_still : (m : ℕ) (es : Formulas) (vs : List Content) (a b : Store) → Same g m a b → AllSay m es vs a → AllSay m es vs b
  all_still m NoFormula [] a b s h = tt
  all_still m NoFormula (v ∷ vs) a b s h = absurd h
  all_still m (AndFormula e es) [] a b s h = absurd h
  all_still m (AndFormula e es) (v ∷ vs) a b s h = (says_still g (omega arith) s h.0, all_still m es vs a b s h.1)

  -- the first few have the first few values
  few_say : (i m : ℕ) (es : Formulas) (vs : List Content) (p : Place) (u : World) → AllSay m es vs u.state.store → values_of T (there g p) (first i es) u ≡ Gives (take i vs) u
  few_say zero m NoFormula [] p u h = refl
  few_say (suc i) m NoFormula [] p u h = refl
  few_say i m NoFormula (v ∷ vs) p u h = absurd h
  few_say i m (AndFormula e es) [] p u h = absurd h
  few_say zero m (AndFormula e es) (v ∷ vs) p u h = refl
  few_say (suc i) m (AndFormula e es) (v ∷ vs) p u h =
      ap (λ q. bind q (λ c u5. bind (values_of T (there g p) (first i es) u5) (λ cs u6. Gives (c ∷ cs) u6))) (h.0.by p u (same_self g m u.state.store))
      ∙ ap (λ q. bind q (λ cs u6. Gives (v ∷ cs) u6)) (few_say i m es vs p u h.1)

  -- values were found, one for each formula
  pub record AfterValues (n m z : ℕ) (es : Formulas) (st : Store) (vs : List Content) (w w1 : World) : Type 0 where
    pub near : Near g z w w1
    pub same : Same g n st w1.state.store
    pub says : AllSay m es vs w1.state.store

  -- each of them is a node, so as many more statements may begin
  abbrev pub ValuesRight : Exprs → Type 1
  ValuesRight es =
      (p : Place) (n : ℕ) → n + made_in es ≤ g.room → (A : Type 0) (P : Post A Course) (z : ℕ) (w w1 : World) (K : List Content → World → Out A) (rest : Routes) → Near g z w w1 →
      ((vs : List Content) (u u1 : World) → AfterValues n (n + made_in es) (z + count es) (formulas g.home g.temp g.callee es n) w1.state.store vs u u1 → Like P (K vs u) (run g rest u1)) →
      Like P (bind (values.values_of S (here g p) es w) K) (run g (all_routes g.home g.temp g.callee p es n rest) w1)

  pub no_values : ValuesRight NoExpr
  no_values p n fits A P z w w1 K rest near h = h [] w w1 (record { near = near_less g (omega arith) near; same = same_self g n w1.state.store; says = tt })

  pub more_values : (e : Expr) (es : Exprs) → Right g e → ValuesRight es → ValuesRight (AndExpr e es)
  more_values e es r rs p n fits A P z w w1 K rest near h =
      let later : Content → World → Out A = λ v u. bind (bind (values.values_of S (here g p) es u) (λ vs u1. Gives (v ∷ vs) u1)) K in
      let here_e = formula g.home g.temp g.callee e n in
      let others = formulas g.home g.temp g.callee es (n + made e) in
      let end : n + made e + made_in es ≡ n + (made e + made_in es) = omega arith in
      let target = run g (routes g.home g.temp g.callee p e n (all_routes g.home g.temp g.callee p es (n + made e) rest)) w1 in
      subst (λ q. Like P q target) (sym (bind_assoc (values.value_of S (here g p) e (counted w)) (λ v u. bind (values.values_of S (here g p) es u) (λ vs u1. Gives (v ∷ vs) u1)) K))
      (r p n (omega (fits, arith)) A P (z + 1) (counted w) w1 later (all_routes g.home g.temp g.callee p es (n + made e) rest) (near_less g (omega arith) (near_counted g near))
      (λ v u u1 f.
      subst (λ q. Like P q (run g (all_routes g.home g.temp g.callee p es (n + made e) rest) u1)) (sym (bind_assoc (values.values_of S (here g p) es u) (λ vs u2. Gives (v ∷ vs) u2) K))
      (rs p (n + made e) (omega (fits, arith)) A P (z + 1) u u1 (λ vs u2. K (v ∷ vs) u2) rest f.near
      (λ vs u2 u3 f1. h (v ∷ vs) u2 u3 (record {
        near = near_less g (omega arith) f1.near;
        same = same_on g f.same (same_less g (omega arith) f1.same);
        says = subst (λ m. AllSay m (AndFormula here_e others) (v ∷ vs) u3.state.store) end (says_more g (omega arith) (says_still g (omega arith) f1.same f.says), f1.says);
      })))))

  -- ---- intrinsic functions ----

  -- one statement: t gets what x gives of these formulas
  item_value : (i : Intrinsic) (x : Text) (es : Formulas) (vs : List Content) (p : Place) (u : World) → sort_of (g.linked.context g.to.unit) x ≡ AnIntrinsic i → values_of T (there g p) es (counted u) ≡ Gives vs (counted u) →
      value_of T (there g p) (f66.Item x es) (counted u) ≡ settle p (intrinsic i vs) (counted u)
  item_value i x es vs p u named is =
      ap (λ o. referred T (there g p) x o (values_of T (there g p) es) (spots_of T (there g p) es) (counted u)) named
      ∙ ap (λ q. bind q (λ cs u2. settle p (intrinsic i cs) u2)) is

  further_right : (i : Intrinsic) (x : Text) → sort_of (g.linked.context g.to.unit) x ≡ AnIntrinsic i → {A : Type 0} (P : Post A Course) (p : Place) (z n t : ℕ) → n ≤ t → t < g.room → (K : Content → World → Out A) (rest : Routes) (st : Store) →
      ((v : Content) (u u1 : World) → After g n (t + 1) z Integer (f66.Ref (g.temp Integer t)) st v u u1 → Like P (K v u) (run g rest u1)) →
      (m : ℕ) (es : Formulas) (vs : List Content) (v : Content) (w w1 : World) → AllSay t es vs w1.state.store → After g n (t + 1) (z + length vs) Integer (f66.Ref (g.temp Integer t)) st v w w1 →
      Like P (bind (settle p (furthered i v m vs) w) K) (run g (further p x (f66.Ref (g.temp Integer t)) m es rest) w1)
  further_right i x named P p z n t le fits K rest st h m NoFormula [] v w w1 say f = h v w w1 (record { near = near_less g (omega arith) f.near; same = f.same; says = f.says; of = f.of })
  further_right i x named P p z n t le fits K rest st h m NoFormula (c ∷ vs) v w w1 say f = absurd say
  further_right i x named P p z n t le fits K rest st h m (AndFormula e es) [] v w w1 say f = absurd say
  further_right i x named P p z n t le fits K rest st h (suc m) (AndFormula e es) (c ∷ vs) v w w1 say f =
      further_right i x named P p z n t le fits K rest st h m es vs v w w1 say.1 (record { near = near_less g (omega arith) f.near; same = f.same; says = f.says; of = f.of })
  further_right i x named {A} P p z n t le fits K rest st h zero (AndFormula e es) (c ∷ vs) v w w1 say f =
      let y = f66.Ref (g.temp Integer t) in
      let e1 = f66.Item x (AndFormula y (AndFormula e (first 58 es))) in
      let target = run g (AndRoute (sets p y e1) (further p x y 58 es rest)) w1 in
      let both : values_of T (there g p) (AndFormula y (AndFormula e (first 58 es))) (counted w1) ≡ Gives (v ∷ c ∷ take 58 vs) (counted w1) =
      ap (λ q. bind q (λ d u5. bind (values_of T (there g p) (AndFormula e (first 58 es)) u5) (λ cs u6. Gives (d ∷ cs) u6))) (f.says.by p (counted w1) (same_self g (t + 1) w1.state.store))
      ∙ ap (λ q. bind q (λ cs u6. Gives (v ∷ cs) u6)) (few_say 59 t (AndFormula e es) (c ∷ vs) p (counted w1) say) in
      subst (λ q. Like P q target) (sym (ap (λ o. bind (settle p o w) K) (by_groups i (v ∷ c ∷ vs)) ∙ settle_then p (intrinsic i (v ∷ c ∷ take 58 vs)) (λ d. furthered i d 58 vs) w K))
      (temp_gets g P p (z + length vs) t t Integer (intrinsic i (v ∷ c ∷ take 58 vs)) e1 w w1 w1.state.store (λ d u. bind (settle p (furthered i d 58 vs) u) K) (further p x y 58 es rest) (omega arith) fits
      (item_value i x (AndFormula y (AndFormula e (first 58 es))) (v ∷ c ∷ take 58 vs) p w1 named both) (intrinsic_of i (v ∷ c ∷ take 58 vs)) (near_less g (omega arith) f.near) (same_self g t w1.state.store)
      (λ d u u1 f1.
      further_right i x named P p z n t le fits K rest st h 58 es vs d u u1 (all_still t es vs w1.state.store u1.state.store f1.same say.1)
      (record { near = f1.near; same = same_on g f.same (same_less g le f1.same); says = f1.says; of = f1.of })))

  all_count : (m : ℕ) (es : Exprs) (n : ℕ) (vs : List Content) (st : Store) → AllSay m (formulas g.home g.temp g.callee es n) vs st → length vs ≡ count es
  all_count m NoExpr n [] st h = refl
  all_count m NoExpr n (v ∷ vs) st h = absurd h
  all_count m (AndExpr e es) n [] st h = absurd h
  all_count m (AndExpr e es) n (v ∷ vs) st h = omega (arith, all_count m es (n + made e) vs st h.1)

  pub known_right : (i : Intrinsic) (es : Exprs) → sort_of (g.linked.context g.to.unit) (intrinsic_name i) ≡ AnIntrinsic i → ValuesRight es → Right g (Known i es)
  known_right i es named r p n fits A P z w w1 K rest near h =
      let t = n + made_in es in
      let fs = formulas g.home g.temp g.callee es n in
      let e = f66.Item (intrinsic_name i) (first 60 fs) in
      let more : t + 1 ≡ n + (made_in es + 1) = omega arith in
      let x = f66.Ref (g.temp Integer t) in
      let go = gathered p (intrinsic_name i) x fs rest in
      let behind : List Content → Content → World → Out A = λ vs d u. bind (settle p (furthered i d 60 vs) u) K in
      subst (λ q. Like P q (run g (all_routes g.home g.temp g.callee p es n go) w1)) (sym (bind_assoc (values.values_of S (here g p) es (counted w)) (λ vs u. settle p (intrinsic i vs) u) K))
      (r p n (omega (fits, arith)) A P (1 + z) (counted w) w1 (λ vs u. bind (settle p (intrinsic i vs) u) K) go (near_less g (omega arith) (near_counted g near))
      (λ vs u u1 f.
      let many : length vs ≡ count es = all_count t es n vs u1.state.store f.says in
      subst (λ q. Like P q (run g go u1)) (sym (ap (λ o. bind (settle p o u) K) (by_groups i vs) ∙ settle_then p (intrinsic i (take 60 vs)) (λ d. furthered i d 60 vs) u K))
      (temp_gets g P p (z + length vs) t t Integer (intrinsic i (take 60 vs)) e u u1 u1.state.store (behind vs) (further p (intrinsic_name i) x 60 fs rest) (omega arith) (omega (fits, arith))
      (item_value i (intrinsic_name i) (first 60 fs) (take 60 vs) p u1 named (few_say 60 t fs vs p (counted u1) f.says)) (intrinsic_of i (take 60 vs)) (near_less g (omega (arith, many)) f.near) (same_self g t u1.state.store)
      (λ d u2 u3 f1.
      further_right i (intrinsic_name i) named P p z n t (omega arith) (omega (fits, arith)) K rest w1.state.store
      (λ v u4 u5 f2. h v u4 u5 (subst (λ m. After g n m z Integer x w1.state.store v u4 u5) more f2))
      60 fs vs d u2 u3 (all_still t fs vs u1.state.store u3.state.store f1.same f.says)
      (record { near = f1.near; same = same_on g f.same (same_less g (omega arith) f1.same); says = f1.says; of = f1.of })))))
