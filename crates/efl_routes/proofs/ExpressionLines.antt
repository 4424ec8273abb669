-- The contract of the lowering of expressions, over the statements of a unit: where the unit of each procedure that is called does
-- as the procedure (Agreed, and the calls of the unit follow those of the routes), the statements that an expression becomes come
-- to those behind them with the expression's value in its formula, with its changes and traps, or end as it does.
use Rattle.std.proofs.Common.{◌≡◌, ℕ, ◌+◌, ◌≤◌, ◌<◌, List, [], refl, ap, ◌∙◌, subst}
use Rattle.std.specs.Prelude.{⊤}
use Rattle.ground.specs.declared.place.Place.{Place}
use Rattle.ground.specs.Content.{Content}
use Rattle.f66_tree.specs.Syntax.{Line}
use Rattle.f66_tree.specs.World.{World, Ended, GoesOn, Lost, Out, Gives, Halts, bind}
use Rattle.f66_tree.specs.Units.{Spot}
use Rattle.f66_tree.specs.Execution.{closers}
use Rattle.f66_tree.proofs.Comes.{at, Comes}
use Rattle.efl_program.specs.Typed.{Expr}
use Rattle.efl_program.specs.Values as values
use Rattle.routes.specs.Routes.{NoRoute}
use Rattle.routes.specs.Running.{Course, Went, Flow}
use Rattle.routes.specs.Code.{Behind, all_code}
use Rattle.efl_routes.specs.Expressions.{made, type_of, formula, routes, Scalars}
use Rattle.efl_routes.proofs.Like.{Post, Like, Within}
use Rattle.efl_routes.proofs.Near.{Sides, here, run, Near}
use Rattle.efl_routes.proofs.Lowers.{After}
use Rattle.efl_routes.proofs.Procedures.{Agreed}
use Rattle.efl_routes.proofs.Expressions.{expression_right}
use Rattle.routes.specs.Placed.{AllPlaced}
use Rattle.routes.proofs.Tracks.{T, same_fuel}
use Rattle.routes.proofs.Follows.{Run, Under, Follows}
use Rattle.routes.proofs.Routes.{Starts, all_right}

module _ (g : Sides) (c : Agreed g) (codes : ℕ → List Line) (called : (v : ℕ) (ps : List Spot) → T ℕ same_fuel g.most ⊤ (λ i. (Under g.linked codes g.to i).call v ps) (g.call v ps)) (lab : ℕ → ℕ) (no_do : (m : ℕ) → closers m (codes g.to.unit) ≡ []) where
  -- from the statements t the target comes to those in next, having begun d statements, d + x at most the count that is reached
  abbrev pub ComesBy : (t next : List Line) (w1 : World) (x : ℕ) (Q : Content → World → World → Type 0) → Out Content → Type 0
  ComesBy t next w1 x Q (Gives v u) = (u1 : World) × (d : ℕ) × (d + x ≤ u1.count) × Q v u u1 × Comes (Run g.linked codes g.to t) w1.state (Run g.linked codes g.to next) u1.state d
  ComesBy t next w1 x Q (Halts (Ended e) u) = (u1 : World) × (d : ℕ) × (d + x ≤ u1.count) × Within u u1 × ((n k j : ℕ) → d + k < n → Run g.linked codes g.to t n (at w1.state (d + k) j) ≡ Halts (Ended e) (at u1.state k (j + d)))
  ComesBy t next w1 x Q (Halts GoesOn u) = (u1 : World) × (d : ℕ) × (d + x ≤ u1.count) × (g.most ≤ d) × Within u u1 × ((n j : ℕ) → d < n → Run g.linked codes g.to t n (at w1.state d j) ≡ Halts GoesOn (at u1.state 0 (j + d)))
  ComesBy t next w1 x Q (Halts Lost u) = ⊤

  pub record ComesTo (t next : List Line) (w1 : World) (x : ℕ) (Q : Content → World → World → Type 0) (o : Out Content) : Type 0 where
    pub by : ComesBy t next w1 x Q o

  -- what routes that end as usual say of the lines
  abbrev Plain : (Content → World → World → Type 0) → Post Content Course
  Plain Q v u d u1 = (d ≡ Went) × Q v u u1

  comes_of : (t next : List Line) (w1 : World) (x : ℕ) (Q : Content → World → World → Type 0) (ls : Behind) (o : Out Content) (r : Flow) → Like (Plain Q) o r → Follows g.linked codes g.to 1 g.most ls (Run g.linked codes g.to t) w1.state x next r → ComesTo t next w1 x Q o
  comes_of t next w1 x Q ls (Gives v u) r h k =
      let a = subst (λ q. Follows g.linked codes g.to 1 g.most ls (Run g.linked codes g.to t) w1.state x next q) (h.by.2 ∙ ap (λ d. Gives d h.by.1) h.by.3.0) k in
      record { by = (h.by.1, a.by.0, a.by.1, h.by.3.1, a.by.2) }
  comes_of t next w1 x Q ls (Halts (Ended e) u) r h k =
      let a = subst (λ q. Follows g.linked codes g.to 1 g.most ls (Run g.linked codes g.to t) w1.state x next q) h.by.1 k in record { by = (h.by.0, a.by.0, a.by.1, h.by.2, a.by.2) }
  comes_of t next w1 x Q ls (Halts GoesOn u) r h k =
      let a = subst (λ q. Follows g.linked codes g.to 1 g.most ls (Run g.linked codes g.to t) w1.state x next q) h.by.1 k in record { by = (h.by.0, a.by.0, a.by.1, a.by.2, h.by.2, a.by.3) }
  comes_of t next w1 x Q ls (Halts Lost u) r h k = record { by = tt }

  -- the statements of an expression, before those in next: k labels and n temporaries were made before
  abbrev pub lines_of : Place → Expr → ℕ → ℕ → Behind → List Line → List Line
  lines_of p e n k ls next = all_code lab (routes g.home g.temp g.callee p e n NoRoute) k ls next

  pub expression_lines : (p : Place) (e : Expr) (n k : ℕ) (ls : Behind) (next : List Line) → Scalars g.M c.F e → n + made e ≤ g.room → AllPlaced lab (g.linked.context g.to.unit).notes (codes g.to.unit) (routes g.home g.temp g.callee p e n NoRoute) k ls next → Starts next →
      (z x : ℕ) (w w1 : World) → Near g z w w1 → x ≤ w1.count →
      ComesTo (lines_of p e n k ls next) next w1 x (λ v u u1. After g n (n + made e) z (type_of e) (formula g.home g.temp g.callee e n) w1.state.store v u u1) (values.value_of g.source (here g p) e w)
  expression_lines p e n k ls next ok fits placed starts z x w w1 near le =
      let Q : Content → World → World → Type 0 = λ v u u1. After g n (n + made e) z (type_of e) (formula g.home g.temp g.callee e n) w1.state.store v u u1 in
      comes_of (lines_of p e n k ls next) next w1 x Q ls (values.value_of g.source (here g p) e w) (run g (routes g.home g.temp g.callee p e n NoRoute) w1)
      (subst (λ q. Like (Plain Q) q (run g (routes g.home g.temp g.callee p e n NoRoute) w1)) (as_it_is (values.value_of g.source (here g p) e w))
      (expression_right g c e ok p n fits Content (Plain Q) z w w1 (λ v u. Gives v u) NoRoute near (λ v u u1 f. record { by = (Went, u1, refl, (refl, f)) })))
      (all_right g.linked codes g.to g.most g.call called lab no_do (routes g.home g.temp g.callee p e n NoRoute) k ls next placed starts w1 x le)
    where
      as_it_is : (o : Out Content) → bind o (λ v u. Gives v u) ≡ o
      as_it_is (Gives v u) = refl
      as_it_is (Halts d u) = refl
