-- What an operator makes of two sides is lowered right, also where it may skip the right side.
use Rattle.std.proofs.Common.{◌≡◌, ℕ, ◌+◌, ◌≤◌, ◌<◌, Bool, true, false, refl, sym, ap, ◌∙◌, subst, arith}
use Rattle.std.specs.Prelude.{⊤}
use Rattle.ground.specs.declared.place.Place.{Place}
use Rattle.ground.specs.declared.trap.Trap.{Trap}
use Rattle.ground.specs.declared.value.Kind.{Kind}
use Rattle.ground.specs.declared.value.Kind.TheVariants.{Logical}
use Rattle.ground.specs.Content.{Content, Nothing, Whole, Truth}
use Rattle.f66_tree.specs.declared.expression.Operator.{Operator}
use Rattle.f66_tree.specs.Syntax as f66
use Rattle.f66_tree.specs.Syntax.{Formula}
use Rattle.f66_tree.specs.World.{World, counted, Out, Gives, Halts, bind, Try, Yields, Traps, Fails, settle, choose}
use Rattle.f66_tree.specs.Units.{Setting}
use Rattle.f66_tree.specs.Evaluation.{operate, denied, truth_in, value_of, asks}
use Rattle.efl_program.specs.Typed.{Op, Plain, AndThen, OrElse}
use Rattle.efl_program.specs.Setting as efl
use Rattle.efl_program.specs.Values.{combine, settles}
use Rattle.routes.specs.Routes.{BreakIf, Ring, Routes, NoRoute, AndRoute, only}
use Rattle.routes.specs.Running.{Course, Went, Leave, Flow, Continuation, then_do, ringed}
use Rattle.efl_routes.specs.Expressions.{sets, given_by, kind_by, combined, decided, FitSides}
use Rattle.efl_routes.proofs.Like.{Post, Like, like_bind}
use Rattle.efl_routes.proofs.Near.{Sides, Target, there, here, run, Near, Same, Says, same_self, same_on, says_still, near_less, near_begun, near_filled, same_filled}
use Rattle.efl_routes.proofs.Steps.{bind_assoc, Of, operate_of, filled, sets_temp, says_temp}
use Rattle.efl_routes.proofs.Lowers.{After, Lowers, temp_gets}

pub no_trap : {A : Type 0} {t : Trap} {a : A} → Traps t ≡ Yields a → ⊥
no_trap {A} e = subst IsTrap e tt
  where
    IsTrap : Try A → Type 0
    IsTrap (Yields a) = ⊥
    IsTrap (Traps t) = ⊤
    IsTrap Fails = ⊤

-- a truth value is one
pub truth_given : (P : Content → Type 0) (v : Content) → Of Logical v → ((t : Bool) → P (Truth t)) → P v
truth_given P (Truth t) e h = h t
truth_given P Nothing e h = absurd (no_trap e)
truth_given P (Whole z) e h = absurd (no_trap e)

abbrev IsSequential : Op → Type 0
IsSequential (Plain o) = ⊥
IsSequential op = ⊤

module _ (g : Sides) where
  abbrev T : Setting
  T = Target g

  abbrev S : efl.Setting
  S = g.source

  pub near_spent : {y z : ℕ} {w w1 : World} → 1 + z ≤ y → Near g y w w1 → Near g z w (counted w1)
  near_spent le h = near_begun g (near_less g le h)

  plain_right : (op : Operator) (p : Place) (v0 : Content) (l : Formula) (n m t : ℕ) (k : Kind) (R : World → Out Content) (go : Routes → Routes) (e : Formula) → n ≤ m → m ≤ t → t < g.room → Lowers g n m k R go e →
      (A : Type 0) (P : Post A Course) (z : ℕ) (w w1 : World) (K : Content → World → Out A) (rest : Routes) → Near g (1 + z) w w1 → Says g n l v0 w1.state.store →
      ((v : Content) (u u1 : World) → After g n (t + 1) z (given_by op) (f66.Ref (g.temp (given_by op) t)) w1.state.store v u u1 → Like P (K v u) (run g rest u1)) →
      Like P (bind (combine S (here g p) (Plain op) v0 R w) K) (run g (combined p (Plain op) l go e (f66.Ref (g.temp (given_by op) t)) rest) w1)
  plain_right op p v0 l n m t k R go e nm mt fits low A P z w w1 K rest near says h =
      let x = f66.Ref (g.temp (given_by op) t) in
      subst (λ q. Like P q (run g (go (AndRoute (sets p x (f66.Pair op l e)) rest)) w1)) (sym (bind_assoc (R w) (λ b u. settle p (operate op v0 b) u) K))
      (low A P (1 + z) w w1 (λ b u. bind (settle p (operate op v0 b) u) K) (AndRoute (sets p x (f66.Pair op l e)) rest) near (λ b u u1 f.
      let still : n ≤ n = omega arith in
      let left = (says_still g still f.same says).by p (counted u1) (same_self g n u1.state.store) in
      let right = f.says.by p (counted u1) (same_self g m u1.state.store) in
      temp_gets g P p z n t (given_by op) (operate op v0 b) (f66.Pair op l e) u u1 w1.state.store K rest (omega (nm, mt, arith)) fits
      (ap (λ q. bind q (λ c w2. bind (value_of T (there g p) e w2) (λ y w3. settle p (operate op c y) w3))) left ∙ ap (λ q. bind q (λ y w3. settle p (operate op v0 y) w3)) right)
      (operate_of op v0 b) f.near f.same h))

  -- ---- the right side may be skipped ----

  quits_by : (op : Op) (p : Place) (x : Formula) (a : Bool) (w : World) → value_of T (there g p) x w ≡ Gives (Truth a) w → ((o : Operator) → op ≡ Plain o → ⊥) → asks T (there g p) (decided op x) w ≡ Gives (settles op a) w
  quits_by (Plain o) p x a w e is = absurd (is o refl)
  quits_by AndThen p x true w e is = ap (λ q. bind (bind q (λ v w1. settle p (denied v) w1)) (λ v w1. settle p (truth_in v) w1)) e
  quits_by AndThen p x false w e is = ap (λ q. bind (bind q (λ v w1. settle p (denied v) w1)) (λ v w1. settle p (truth_in v) w1)) e
  quits_by OrElse p x a w e is = ap (λ q. bind q (λ v w1. settle p (truth_in v) w1)) e

  went_on : Continuation
  went_on w = Gives Went w

  -- behind the list of a ring
  abbrev behind : Routes → Routes → Flow → Flow
  behind rs rest o = then_do (ringed o (λ w. Gives Went w)) (λ w. run g rest w)

  behind_went : (rs rest : Routes) (w : World) → behind rs rest (Gives Went w) ≡ run g rest w
  behind_went rs rest w = refl

  behind_leave : (rs rest : Routes) (w : World) → behind rs rest (Gives (Leave 0) w) ≡ run g rest w
  behind_leave rs rest w = refl

  behind_bind : (rs rest : Routes) (o : Flow) → bind o (λ c w. behind rs rest (Gives c w)) ≡ behind rs rest o
  behind_bind rs rest (Gives c w) = refl
  behind_bind rs rest (Halts d w) = refl

  -- the truth value of a right side
  abbrev true_of : Place → (World → Out Content) → World → Out Content
  true_of p R w = bind (R w) (λ b w2. bind (settle p (truth_in b) w2) (λ u w3. Gives (Truth u) w3))

  module _ (op : Op) (seq : (o : Operator) → op ≡ Plain o → ⊥) (p : Place) (a : Bool) (l : Formula) (n m t : ℕ) (R : World → Out Content) (go : Routes → Routes) (e : Formula) (nm : n ≤ m) (mt : m ≤ t) (fits : t < g.room) (low : Lowers g n m Logical R go e) where
    abbrev x : Formula
    x = f66.Ref (g.temp Logical t)

    abbrev inner : Routes
    inner = go (only (sets p x e))

    abbrev rs : Routes
    rs = AndRoute (BreakIf p (decided op x) 0) inner

    abbrev first : World → World
    first w1 = filled g Logical t (Truth a) (counted w1)

    abbrev second : World → World
    second w1 = counted (counted (first w1))

    reads_first : (w1 u : World) → u.state.store ≡ (first w1).state.store → value_of T (there g p) x u ≡ Gives (Truth a) u
    reads_first w1 u is = (says_temp g (t + 1) Logical t (Truth a) w1.state.store (omega arith) fits refl).by p u (subst (λ st. Same g (t + 1) (first w1).state.store st) (sym is) (same_self g (t + 1) (first w1).state.store))

    asked_first : (w1 : World) → run g rs (counted (first w1)) ≡ choose (settles op a) (Gives (Leave 0) (counted (second w1))) (run g inner (second w1))
    asked_first w1 = ap (λ q. then_do (bind q (λ holds w. choose holds (Gives (Leave 0) (counted w)) (Gives Went w))) (λ w. run g inner w)) (quits_by op p x a (second w1) (reads_first w1 (second w1) refl) seq) ∙ by_answer (settles op a)
      where
        by_answer : (y : Bool) → then_do (choose y (Gives (Leave 0) (counted (second w1))) (Gives Went (second w1))) (λ w. run g inner w) ≡ choose y (Gives (Leave 0) (counted (second w1))) (run g inner (second w1))
        by_answer true = refl
        by_answer false = refl

    starts : (rest : Routes) (w1 : World) → Says g n l (Truth a) w1.state.store → run g (AndRoute (sets p x l) (AndRoute (Ring p rs) rest)) w1 ≡ behind rs rest (choose (settles op a) (Gives (Leave 0) (counted (second w1))) (run g inner (second w1)))
    starts rest w1 says =
        sets_temp g p Logical t fits l (AndRoute (Ring p rs) rest) w1
        ∙ ap (λ q. bind q (λ v u. run g (AndRoute (Ring p rs) rest) (filled g Logical t v u))) (says.by p (counted w1) (same_self g n w1.state.store))
        ∙ ap (λ q. behind rs rest q) (asked_first w1)

    -- what the ring has found
    abbrev Inner : ℕ → World → Post Content Course
    Inner z w1 v u c u1 = (c ≡ Went) × After g n (t + 1) z Logical x w1.state.store v u u1

    inner_like : (z : ℕ) (w w1 : World) → Near g (1 + z) w (second w1) → Like (Inner z w1) (bind (R w) (λ b w2. bind (settle p (truth_in b) w2) (λ u w3. Gives (Truth u) w3))) (run g inner (second w1))
    inner_like z w w1 near = low Content (Inner z w1) (1 + z) w (second w1) (λ b w2. bind (settle p (truth_in b) w2) (λ u w3. Gives (Truth u) w3)) (only (sets p x e)) near found
      where
        found : (b : Content) (u u1 : World) → After g n m (1 + z) Logical e (second w1).state.store b u u1 → Like (Inner z w1) (bind (settle p (truth_in b) u) (λ y w3. Gives (Truth y) w3)) (run g (only (sets p x e)) u1)
        found b u u1 f = truth_given (λ c. value_of T (there g p) e (counted u1) ≡ settle p (Yields c) (counted u1) → Like (Inner z w1) (bind (settle p (truth_in c) u) (λ y w3. Gives (Truth y) w3)) (run g (only (sets p x e)) u1)) b f.of put (f.says.by p (counted u1) (same_self g m u1.state.store))
          where
            put : (y : Bool) → value_of T (there g p) e (counted u1) ≡ settle p (Yields (Truth y)) (counted u1) → Like (Inner z w1) (Gives (Truth y) u) (run g (only (sets p x e)) u1)
            put y is =
                temp_gets g (Inner z w1) p z n t Logical (Yields (Truth y)) e u u1 w1.state.store (λ v u2. Gives v u2) NoRoute (omega (nm, mt, arith)) fits is refl f.near (same_on g (same_filled g n Logical t (Truth a) w1.state.store (omega (nm, mt, arith)) fits) f.same)
                (λ v u2 u3 f1. record { by = (Went, u3, refl, (refl, f1)) })

    pub sequential : (A : Type 0) (P : Post A Course) (z : ℕ) (w w1 : World) (K : Content → World → Out A) (rest : Routes) → Near g (6 + z) w w1 → Says g n l (Truth a) w1.state.store →
        ((v : Content) (u u1 : World) → After g n (t + 1) z Logical x w1.state.store v u u1 → Like P (K v u) (run g rest u1)) →
        Like P (bind (choose (settles op a) (Gives (Truth a) w) (true_of p R w)) K) (run g (AndRoute (sets p x l) (AndRoute (Ring p rs) rest)) w1)
    sequential A P z w w1 K rest near says h = subst (λ q. Like P (bind (choose (settles op a) (Gives (Truth a) w) (true_of p R w)) K) q) (sym (starts rest w1 says)) (by_answer (settles op a))
      where
        at_first : Near g (5 + z) w (first w1)
        at_first = near_filled g Logical t (Truth a) fits (near_spent (omega arith) near)

        at_second : Near g (3 + z) w (second w1)
        at_second = let once : Near g (4 + z) w (counted (first w1)) = near_spent (omega arith) at_first in near_spent (omega arith) once

        by_answer : (y : Bool) → Like P (bind (choose y (Gives (Truth a) w) (true_of p R w)) K) (behind rs rest (choose y (Gives (Leave 0) (counted (second w1))) (run g inner (second w1))))
        by_answer true =
            subst (λ q. Like P (K (Truth a) w) q) (sym (behind_leave rs rest (counted (second w1))))
            (h (Truth a) w (counted (second w1)) (record {
              near = near_spent (omega arith) at_second;
              same = same_filled g n Logical t (Truth a) w1.state.store (omega (nm, mt, arith)) fits;
              says = says_temp g (t + 1) Logical t (Truth a) w1.state.store (omega arith) fits refl;
              of = refl;
            }))
        by_answer false =
            subst (λ q. Like P (bind (true_of p R w) K) q) (behind_bind rs rest (run g inner (second w1)))
            (like_bind {P = Inner z w1} (true_of p R w) (run g inner (second w1)) K (λ c u. behind rs rest (Gives c u)) (inner_like z w w1 (near_less g (omega arith) at_second))
            (λ v u c u1 f. subst (λ q. Like P (K v u) q) (sym (ap (λ d. behind rs rest (Gives d u1)) f.0 ∙ behind_went rs rest u1)) (h v u u1 f.1)))

  -- an operator with two sides of its types
  pub combined_right : (op : Op) (j k : Kind) → FitSides op j k → (p : Place) (v0 : Content) → Of j v0 → (l : Formula) (n m t : ℕ) (R : World → Out Content) (go : Routes → Routes) (e : Formula) → n ≤ m → m ≤ t → t < g.room → Lowers g n m k R go e →
      (A : Type 0) (P : Post A Course) (z : ℕ) (w w1 : World) (K : Content → World → Out A) (rest : Routes) → Near g (6 + z) w w1 → Says g n l v0 w1.state.store →
      ((v : Content) (u u1 : World) → After g n (t + 1) z (kind_by op) (f66.Ref (g.temp (kind_by op) t)) w1.state.store v u u1 → Like P (K v u) (run g rest u1)) →
      Like P (bind (combine S (here g p) op v0 R w) K) (run g (combined p op l go e (f66.Ref (g.temp (kind_by op) t)) rest) w1)
  combined_right (Plain o) j k fit p v0 of l n m t R go e nm mt fits low A P z w w1 K rest near says h =
      plain_right o p v0 l n m t k R go e nm mt fits low A P z w w1 K rest (near_less g (omega arith) near) says h
  combined_right AndThen j k fit p v0 of l n m t R go e nm mt fits low A P z w w1 K rest near says h =
      truth_given (λ c. Says g n l c w1.state.store → Like P (bind (combine S (here g p) AndThen c R w) K) (run g (combined p AndThen l go e (f66.Ref (g.temp Logical t)) rest) w1)) v0 (subst (λ i. Of i v0) fit.0 of)
      (λ a says1. sequential AndThen (no_plain tt) p a l n m t R go e nm mt fits (λ B. subst (λ i. Lowers g n m i R go e) fit.1 low B) A P z w w1 K rest near says1 h) says
    where
      no_plain : IsSequential AndThen → (o : Operator) → AndThen ≡ Plain o → ⊥
      no_plain is o e1 = subst IsSequential e1 is
  combined_right OrElse j k fit p v0 of l n m t R go e nm mt fits low A P z w w1 K rest near says h =
      truth_given (λ c. Says g n l c w1.state.store → Like P (bind (combine S (here g p) OrElse c R w) K) (run g (combined p OrElse l go e (f66.Ref (g.temp Logical t)) rest) w1)) v0 (subst (λ i. Of i v0) fit.0 of)
      (λ a says1. sequential OrElse (no_plain tt) p a l n m t R go e nm mt fits (λ B. subst (λ i. Lowers g n m i R go e) fit.1 low B) A P z w w1 K rest near says1 h) says
    where
      no_plain : IsSequential OrElse → (o : Operator) → OrElse ≡ Plain o → ⊥
      no_plain is o e1 = subst IsSequential e1 is
