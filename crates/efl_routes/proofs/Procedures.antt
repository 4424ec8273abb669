-- Calls of procedures are lowered right where each procedure does the same on both sides; and so is every expression.
use Rattle.std.proofs.Common.{◌≡◌, ℕ, ◌+◌, ◌≤◌, ◌<◌, List, ◌∷◌, Some, refl, sym, ap, ◌∙◌, subst, arith}
use Rattle.std.specs.Prelude.{⊤}
use Rattle.ground.specs.declared.place.Place.{Place}
use Rattle.ground.specs.declared.value.Kind.{Kind}
use Rattle.ground.specs.Content.{Content, Nothing}
use Rattle.f66_tree.specs.Syntax as f66
use Rattle.f66_tree.specs.Syntax.{Formula, Formulas, NoFormula, AndFormula}
use Rattle.f66_tree.specs.World.{Store, put_in, World, counted, holding, Out, Gives, Halts, bind, settle}
use Rattle.f66_tree.specs.Units.{kind_of, Spot, Setting}
use Rattle.f66_tree.specs.Evaluation.{Intrinsic, AFunction, AnIntrinsic, sort_of, asked, called, referred, values_of, value_of, spots_of}
use Rattle.efl_program.specs.Typed.{Call, Exprs}
use Rattle.efl_program.specs.Setting as efl
use Rattle.efl_program.specs.Values as values
use Rattle.routes.specs.Routes.{Routes, AndRoute}
use Rattle.routes.specs.Running.{Course, Flow}
use Rattle.efl_routes.specs.Expressions.{intrinsic_name, count, made_for, or_one, sets, actuals, actual_routes}
use Rattle.efl_routes.specs.LoweredProgram.{AllSame, lent_one, size}
use Rattle.efl_routes.proofs.Like.{Post, Like, like_bind, like_settle}
use Rattle.efl_routes.proofs.Near.{Sides, Target, there, here, run, Near, Same, same_self, same_on, same_filled, near_less, near_counted, near_filled, near_within}
use Rattle.efl_routes.proofs.Steps.{bind_assoc, Of, yields_of, asked_of, filled, sets_temp, says_temp}
use Rattle.efl_routes.proofs.Lowers.{After, Right}
use Rattle.efl_routes.proofs.Combined.{near_spent}
use Rattle.efl_routes.proofs.Changes.{put_cells, put_same}
use Rattle.efl_routes.proofs.Actuals.{counted_actuals, One, ActualsRight}

-- What a call does is the same on both sides: it changes no temporary of this unit, and begins at most 8 statements more than 32
-- times the work.
abbrev pub AgreedCall : (g : Sides) (call : ℕ → List efl.Spot → World → Out ⊤) (ps : List efl.Spot) (v u : ℕ) (qs : List Spot) → Type 0
AgreedCall g call ps v u qs =
    (z : ℕ) (w w1 : World) → Near g (8 + z) w w1 → Like (λ _ x _ x1. Near g z x x1 × ((m : ℕ) → Same g m w1.state.store x1.state.store)) (call v ps w) (g.call u qs w1)

-- the functions of which F holds, and the procedures without a type of which C holds, with so many formals, as the unit names them
pub record Agreed (g : Sides) : Type 1 where
  pub unit_of : ℕ → ℕ
  pub F : ℕ → Kind → ℕ → Type 0
  pub C : ℕ → ℕ → Type 0
  pub intrinsics : (i : Intrinsic) → sort_of (g.linked.context g.to.unit) (intrinsic_name i) ≡ AnIntrinsic i
  pub functions : (v : ℕ) (k : Kind) (n : ℕ) → F v k n → sort_of (g.linked.context g.to.unit) (g.callee v) ≡ AFunction
  pub kinds : (v : ℕ) (k : Kind) (n : ℕ) → F v k n → kind_of (g.linked.context g.to.unit) (g.callee v) ≡ k
  pub found : (v : ℕ) (k : Kind) (n : ℕ) → F v k n → g.linked.find (g.callee v) ≡ Some (unit_of v)
  pub found_too : (v n : ℕ) → C v n → g.linked.find (g.callee v) ≡ Some (unit_of v)
  pub results : (v : ℕ) (k : Kind) (n : ℕ) → F v k n → g.linked.number (unit_of v) (g.callee v) 0 ≡ g.cell (g.source.linked.result v)
  pub reals : (v : ℕ) (k : Kind) (n : ℕ) → F v k n → g.Real (g.source.linked.result v)
  pub calls : (v : ℕ) (k : Kind) (n : ℕ) → F v k n → (ps : List efl.Spot) (qs : List Spot) → AllSame (One g) ps qs → size ps ≡ n → AgreedCall g g.source.call ps v (unit_of v) (lent_one qs)
  pub calls_too : (v n : ℕ) → C v n → (ps : List efl.Spot) (qs : List Spot) → AllSame (One g) ps qs → size ps ≡ n → AgreedCall g g.source.call ps v (unit_of v) qs

module _ (g : Sides) (c : Agreed g) where
  abbrev T : Setting
  T = Target g

  abbrev S : efl.Setting
  S = g.source

  -- an unused argument, where there is no other
  abbrev lend : List Spot → World → Out (List Spot)
  lend qs w = Gives (lent_one qs) w

  more_lent : (o : Out Spot) (others : World → Out (List Spot)) → bind o (λ q w1. bind (others w1) (λ qs w2. Gives (q ∷ qs) w2)) ≡ bind (bind o (λ q w1. bind (others w1) (λ qs w2. Gives (q ∷ qs) w2))) lend
  more_lent (Halts d w) others = refl
  more_lent (Gives q w) others = by_others (others w)
    where
      by_others : (o : Out (List Spot)) → bind o (λ qs w2. Gives (q ∷ qs) w2) ≡ bind (bind o (λ qs w2. Gives (q ∷ qs) w2)) lend
      by_others (Gives qs w2) = refl
      by_others (Halts d w2) = refl

  all_lent : (p : Place) (es : Formulas) (w : World) → spots_of T (there g p) (or_one es) w ≡ bind (spots_of T (there g p) es w) lend
  all_lent p NoFormula w = refl
  all_lent p (AndFormula e es) w = more_lent _ (spots_of T (there g p) es)

  spots_or_one : (p : Place) (es : Formulas) (qs : List Spot) (w : World) → spots_of T (there g p) es w ≡ Gives qs w → spots_of T (there g p) (or_one es) w ≡ Gives (lent_one qs) w
  spots_or_one p es qs w e = all_lent p es w ∙ ap (λ o. bind o lend) e

  -- what the reference to a function does
  reference : (p : Place) (v : ℕ) (k : Kind) (n1 : ℕ) (i : c.F v k n1) (es : Formulas) (qs : List Spot) (w : World) → spots_of T (there g p) es w ≡ Gives qs w →
      value_of T (there g p) (f66.Item (g.callee v) (or_one es)) w
      ≡ bind (g.call (c.unit_of v) (lent_one qs) (holding (put_in (g.linked.number (c.unit_of v) (g.callee v) 0) Nothing w.state.store) w)) (λ _ u. settle p (asked k (u.state.store (g.linked.number (c.unit_of v) (g.callee v) 0))) u)
  reference p v k n1 i es qs w e =
      let n = g.linked.number (c.unit_of v) (g.callee v) 0 in
      let x = g.callee v in
      let spots = spots_of T (there g p) (or_one es) in
      ap (λ o. referred T (there g p) x o (values_of T (there g p) (or_one es)) spots w) (c.functions v k n1 i)
      ∙ ap (λ o. called T (there g p) x o spots w) (c.found v k n1 i)
      ∙ ap (λ o. bind o (λ ps w1. bind (g.call (c.unit_of v) ps (holding (put_in n Nothing w1.state.store) w1)) (λ _ u. settle p (asked (kind_of (g.linked.context g.to.unit) x) (u.state.store n)) u))) (spots_or_one p es qs w e)
      ∙ ap (λ j. bind (g.call (c.unit_of v) (lent_one qs) (holding (put_in n Nothing w.state.store) w)) (λ _ u. settle p (asked j (u.state.store n)) u)) (c.kinds v k n1 i)

  -- where the value of a procedure is on both sides, which is emptied before a call and read behind it
  abbrev from_there : ℕ → ℕ
  from_there v = g.linked.number (c.unit_of v) (g.callee v) 0

  abbrev empty_here : ℕ → World → World
  empty_here v w = holding (put_in (S.linked.result v) Nothing w.state.store) w

  abbrev empty_there : ℕ → World → World
  empty_there v w = holding (put_in (from_there v) Nothing w.state.store) w

  abbrev read_here : Place → ℕ → Kind → World → Out Content
  read_here p v k u = settle p (asked k (u.state.store (S.linked.result v))) u

  abbrev read_there : Place → ℕ → Kind → World → Out Content
  read_there p v k u = settle p (asked k (u.state.store (from_there v))) u

  module _ {A : Type 0} (P : Post A Course) (p : Place) (v : ℕ) (k : Kind) (n1 : ℕ) (i : c.F v k n1) (n m z : ℕ) (le : n ≤ m) (fits : m < g.room) (st : Store) (K : Content → World → Out A) (rest : Routes)
      (h : (d : Content) (u u1 : World) → After g n (m + 1) z k (f66.Ref (g.temp k m)) st d u u1 → Like P (K d u) (run g rest u1)) where
    abbrev J : Content → World → Flow
    J d u = run g rest (filled g k m d u)

    value_read : (w1 u u1 : World) → Same g n st w1.state.store → Near g z u u1 × ((j : ℕ) → Same g j (empty_there v w1).state.store u1.state.store) → Like P (bind (read_here p v k u) K) (bind (read_there p v k u1) J)
    value_read w1 u u1 same f =
        let r = S.linked.result v in
        let same_value : u1.state.store (from_there v) ≡ u.state.store r = ap u1.state.store (c.results v k n1 i) ∙ f.0.cells r (c.reals v k n1 i) in
        subst (λ x. Like P (bind (read_here p v k u) K) (bind (settle p (asked k x) u1) J)) (sym same_value)
        (like_settle p (asked k (u.state.store r)) u u1 K J (near_within g f.0) (λ d is.
        let ok = yields_of (Of k) (asked k (u.state.store r)) d is (asked_of k (u.state.store r)) in
        h d u (filled g k m d u1) (record {
          near = near_filled g k m d fits f.0;
          same = same_on g same (same_on g (put_same g n r (from_there v) Nothing w1.state.store (c.results v k n1 i) (c.reals v k n1 i)) (same_on g (f.1 n) (same_filled g n k m d u1.state.store le fits)));
          says = says_temp g (m + 1) k m d u1.state.store (omega arith) fits ok;
          of = ok;
        })))

    after_call : (ps : List efl.Spot) (qs : List Spot) (w w1 : World) → AllSame (One g) ps qs → size ps ≡ n1 → Near g (9 + z) w w1 → Same g n st w1.state.store →
        Like P (bind (values.called S (here g p) v k ps w) K) (bind (bind (g.call (c.unit_of v) (lent_one qs) (empty_there v (counted w1))) (λ _ u. read_there p v k u)) J)
    after_call ps qs w w1 alike many near same =
        let call = S.call v ps (empty_here v w) in
        let call1 = g.call (c.unit_of v) (lent_one qs) (empty_there v (counted w1)) in
        let once : Near g (8 + z) w (counted w1) = near_spent g (omega arith) near in
        let begun : Near g (8 + z) (empty_here v w) (empty_there v (counted w1)) = record { tape = once.tape; cells = put_cells g (S.linked.result v) (from_there v) Nothing w.state.store w1.state.store (c.results v k n1 i) (c.reals v k n1 i) near.cells; count = once.count } in
        subst (λ q. Like P q (bind (bind call1 (λ _ u. read_there p v k u)) J)) (sym (bind_assoc call (λ _ u. read_here p v k u) K))
        (subst (λ q. Like P (bind call (λ _ u. bind (read_here p v k u) K)) q) (sym (bind_assoc call1 (λ _ u. read_there p v k u) J))
        (like_bind call call1 (λ _ u. bind (read_here p v k u) K) (λ _ u. bind (read_there p v k u) J) (c.calls v k n1 i ps qs alike many z (empty_here v w) (empty_there v (counted w1)) begun) (λ _ u _ u1 f. value_read (counted w1) u u1 same f)))

  pub calls_right : (v : ℕ) (k : Kind) (es : Exprs) → c.F v k (count es) → ActualsRight g es → Right g (Call v k es)
  calls_right v k es i r p n fits A P z w w1 K rest near h =
      let m = n + made_for es in
      let e = f66.Item (g.callee v) (or_one (actuals g.home g.temp g.callee es n)) in
      let x = f66.Ref (g.temp k m) in
      let more : m + 1 ≡ n + (made_for es + 1) = omega arith in
      let target = run g (actual_routes g.home g.temp g.callee p es n (AndRoute (sets p x e) rest)) w1 in
      subst (λ q. Like P q target) (sym (bind_assoc (values.spots_of S (here g p) es (counted w)) (λ ps u. values.called S (here g p) v k ps u) K))
      (r p n (omega (fits, arith)) A P (9 + z) (counted w) w1 (λ ps u. bind (values.called S (here g p) v k ps u) K) (AndRoute (sets p x e) rest) (near_less g (omega arith) (near_counted g near))
      (λ ps u u1 f.
      subst (λ q. Like P (bind (values.called S (here g p) v k ps u) K) q)
      (sym (sets_temp g p k m (omega (fits, arith)) e rest u1 ∙ ap (λ q. bind q (λ d u2. run g rest (filled g k m d u2))) (reference p v k (count es) i (actuals g.home g.temp g.callee es n) f.spots (counted u1) (f.says p (counted u1) (same_self g m u1.state.store)))))
      (after_call P p v k (count es) i n m z (omega arith) (omega (fits, arith)) w1.state.store K rest (λ d u2 u3 f1. h d u2 u3 (subst (λ j. After g n j z k x w1.state.store d u2 u3) more f1)) ps f.spots u u1 f.alike (f.many ∙ counted_actuals g es n) f.near f.same)))
