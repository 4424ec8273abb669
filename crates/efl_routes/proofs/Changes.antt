-- Stores into scalar variables are lowered right: of assignments, of those with an operator, and of `++` and `--`.
use Rattle.std.proofs.Common.{◌≡◌, ℕ, ◌+◌, ◌≤◌, ◌<◌, Bool, true, false, refl, sym, ap, ◌∙◌, subst, arith, eqb-true, true≢false, if◌then◌else◌}
use Rattle.std.specs.Prelude.{nat_eq}
use Rattle.std.proofs.lemmas.Bool.{eq-eqb}
use Rattle.ground.specs.declared.place.Place.{Place}
use Rattle.ground.specs.declared.value.Kind.{Kind}
use Rattle.ground.specs.Content.{Content}
use Rattle.f66_tree.specs.Syntax as f66
use Rattle.f66_tree.specs.Syntax.{Formula}
use Rattle.f66_tree.specs.World.{Store, put_in, World, counted, holding, Out, Gives, bind, settle}
use Rattle.f66_tree.specs.Units.{Spot, Held, Lent, Setting}
use Rattle.f66_tree.specs.Evaluation.{asked, store_at}
use Rattle.f66_tree.proofs.Stores.{read_same, read_other}
use Rattle.efl_program.specs.Typed.{Op}
use Rattle.efl_program.specs.Setting as efl
use Rattle.efl_program.specs.Values.{combine, keeping, changes}
use Rattle.routes.specs.Routes.{Routes, AndRoute}
use Rattle.routes.specs.Running.{Course}
use Rattle.efl_routes.specs.Expressions.{sets, kind_by, combined, FitSides}
use Rattle.efl_routes.specs.LoweredProgram.{SameSpot}
use Rattle.efl_routes.proofs.Like.{Post, Like}
use Rattle.efl_routes.proofs.Near.{Sides, Target, there, here, run, spare, Near, Same, same_self, same_on, same_less, says_still, near_less, near_begun, near_within}
use Rattle.efl_routes.proofs.Steps.{bind_assoc, asked_of, sets_at}
use Rattle.efl_routes.proofs.Lowers.{After, Lowers, temp_gets, variable_value}
use Rattle.efl_routes.proofs.Combined.{near_spent, combined_right}

module _ (g : Sides) where
  abbrev T : Setting
  T = Target g

  abbrev S : efl.Setting
  S = g.source

  -- a store into a place of the source, and into its cell
  pub put_cells : (r n : ℕ) (c : Content) (st st1 : Store) → n ≡ g.cell r → g.Real r → ((q : ℕ) → g.Real q → st1 (g.cell q) ≡ st q) → (q : ℕ) → g.Real q → put_in n c st1 (g.cell q) ≡ put_in r c st q
  put_cells r n c st st1 is real h q real1 = ap (λ i. put_in i c st1 (g.cell q)) is ∙ by_unit (nat_eq q r) refl
    where
      by_unit : (t : Bool) → nat_eq q r ≡ t → put_in (g.cell r) c st1 (g.cell q) ≡ (if t then c else st q)
      by_unit true e = ap (λ i. put_in (g.cell r) c st1 (g.cell i)) (eqb-true q r e) ∙ read_same (g.cell r) c st1
      by_unit false e = read_other (g.cell r) (g.cell q) c st1 (λ e1. true≢false (sym (eq-eqb q r (g.one_cell q r real1 real e1)) ∙ e)) ∙ h q real1

  pub put_same : (m r n : ℕ) (c : Content) (st : Store) → n ≡ g.cell r → g.Real r → Same g m st (put_in n c st)
  put_same m r n c st is real = record { by = λ k i lt fits. read_other n (spare g k i) c st (λ e. g.temp_no_cell k i r fits real (sym is ∙ sym e)); outer = λ j out. read_other n j c st (λ e. g.outer_cell r j real out (e ∙ is)) }

  pub store_right : {A : Type 0} (P : Post A Course) (p : Place) (a : efl.Spot) (b : Spot) → SameSpot g.cell g.Real S.linked g.linked a b → (c : Content) (z : ℕ) (w w1 : World) (K : World → Out A) (rest : Routes) → Near g z w w1 →
      ((u u1 : World) → Near g z u u1 → ((m : ℕ) → Same g m w1.state.store u1.state.store) → Like P (K u) (run g rest u1)) →
      Like P (bind (efl.store_at S (here g p) a c w) (λ _ u. K u)) (bind (store_at T (there g p) b c w1) (λ _ u. run g rest u))
  store_right P p (efl.Held v k) (Held u x o) same c z w w1 K rest near h =
      let r = S.linked.number v k in
      let n = g.linked.number u x o in
      h (holding (put_in r c w.state.store) w) (holding (put_in n c w1.state.store) w1) (record { tape = near.tape; cells = put_cells r n c w.state.store w1.state.store same.0 same.2 near.cells; count = near.count }) (λ m. put_same m r n c w1.state.store same.0 same.2)
  store_right P p (efl.Lent d) (Lent d1) same c z w w1 K rest near h = record { by = (w1, refl, near_within g near) }
  store_right P p (efl.Held v k) (Lent d) same c z w w1 K rest near h = absurd same
  store_right P p (efl.Lent d) (Held u x o) same c z w w1 K rest near h = absurd same

  -- what was found is stored in a variable, and is the value
  pub kept_right : {A : Type 0} (P : Post A Course) (p : Place) (v : ℕ) (k : Kind) (i : g.M v k) (c : Content) (n m z : ℕ) (j : Kind) (e : Formula) (st : Store) (w w1 : World) (K : Content → World → Out A) (rest : Routes) → After g n m (1 + z) j e st c w w1 →
      ((d : Content) (u u1 : World) → After g n m z j e st d u u1 → Like P (K d u) (run g rest u1)) →
      Like P (bind (keeping S (here g p) (g.bases v k i).source c w) K) (run g (AndRoute (sets p (f66.Ref (g.home v)) e) rest) w1)
  kept_right P p v k i c n m z j e st w w1 K rest f h =
      let a = g.bases v k i in
      let source = sym (bind_assoc (efl.store_at S (here g p) a.source c w) (λ _ u. Gives c u) K) in
      let target = sets_at g p (g.home v) a.target e rest w1 a.is1 ∙ ap (λ q. bind q (λ d u. bind (store_at T (there g p) a.target d u) (λ _ u1. run g rest u1))) (f.says.by p (counted w1) (same_self g m w1.state.store)) in
      subst (λ q. Like P q (run g (AndRoute (sets p (f66.Ref (g.home v)) e) rest) w1)) source
      (subst (λ q. Like P (bind (efl.store_at S (here g p) a.source c w) (λ _ u. K c u)) q) (sym target)
      (store_right P p a.source a.target a.same c z w (counted w1) (λ u. K c u) rest (near_begun g f.near) (λ u u1 near same.
      let all : m ≤ m = omega arith in
      h c u u1 (record { near = near; same = same_on g f.same (same n); says = says_still g all (same m) f.says; of = f.of }))))

  -- a variable is read, and gets what an operator makes of it
  pub changes_right : (op : Op) (v : ℕ) (k j : Kind) (i : g.M v k) → FitSides op k j → (p : Place) (n m : ℕ) (R : World → Out Content) (go : Routes → Routes) (e : Formula) → n + 1 ≤ m → m < g.room → Lowers g (n + 1) m j R go e →
      (A : Type 0) (P : Post A Course) (z : ℕ) (w w1 : World) (K : Content → World → Out A) (rest : Routes) → Near g (8 + z) w w1 →
      ((c : Content) (u u1 : World) → After g n (m + 1) z (kind_by op) (f66.Ref (g.temp (kind_by op) m)) w1.state.store c u u1 → Like P (K c u) (run g rest u1)) →
      Like P (bind (changes S (here g p) k op (g.bases v k i).source R w) K)
      (run g (AndRoute (sets p (f66.Ref (g.temp k n)) (f66.Ref (g.home v))) (combined p op (f66.Ref (g.temp k n)) go e (f66.Ref (g.temp (kind_by op) m)) (AndRoute (sets p (f66.Ref (g.home v)) (f66.Ref (g.temp (kind_by op) m))) rest))) w1)
  changes_right op v k j i fit p n m R go e le fits low A P z w w1 K rest near h =
      let a = (g.bases v k i).source in
      let old = efl.held S.linked a w.state.store in
      let begun : Near g (7 + z) w (counted w1) = near_spent g (omega arith) near in
      let x = f66.Ref (g.temp (kind_by op) m) in
      let more = AndRoute (sets p (f66.Ref (g.home v)) x) rest in
      let keep : Content → World → Out Content = λ c u. keeping S (here g p) a c u in
      let then_on : Content → World → Out Content = λ c u. bind (combine S (here g p) op c R u) keep in
      let target = run g (AndRoute (sets p (f66.Ref (g.temp k n)) (f66.Ref (g.home v))) (combined p op (f66.Ref (g.temp k n)) go e x more)) w1 in
      subst (λ q. Like P q target) (sym (bind_assoc (settle p (asked k old) w) then_on K))
      (temp_gets g P p (7 + z) n n k (asked k old) (f66.Ref (g.home v)) w w1 w1.state.store (λ c u. bind (then_on c u) K) (combined p op (f66.Ref (g.temp k n)) go e x more) (omega arith) (omega (le, fits, arith))
      (variable_value g p v k i (counted w1) begun) (asked_of k old) (near_less g (omega arith) near) (same_self g n w1.state.store)
      (λ c u u1 f.
      subst (λ q. Like P q (run g (combined p op (f66.Ref (g.temp k n)) go e x more) u1)) (sym (bind_assoc (combine S (here g p) op c R u) keep K))
      (combined_right g op k j fit p c f.of (f66.Ref (g.temp k n)) (n + 1) m m R go e le (omega arith) fits low A P (1 + z) u u1 (λ d u2. bind (keep d u2) K) more (near_less g (omega arith) f.near) f.says
      (λ d u2 u3 f1.
      kept_right P p v k i d n (m + 1) z (kind_by op) x w1.state.store u2 u3 K rest (record { near = f1.near; same = same_on g f.same (same_less g (omega arith) f1.same); says = f1.says; of = f1.of }) h))))
