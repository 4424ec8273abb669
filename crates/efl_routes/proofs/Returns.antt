-- `return` follows.
use Rattle.std.proofs.Common.{◌≡◌, ℕ, ◌+◌, Bool, true, false, List, None, Some, refl, sym, ap, ◌∙◌, subst, arith}
use Rattle.std.specs.Prelude.{nat_eq}
use Rattle.std.specs.Str.{bytes_eq}
use Rattle.ground.specs.declared.place.Place.{Place}
use Rattle.ground.specs.Content.{Content}
use Rattle.f66_tree.specs.Syntax as f66
use Rattle.f66_tree.specs.Syntax.{Text}
use Rattle.f66_tree.specs.World.{Store, put_in, World, counted, holding, Gives, bind, Yields}
use Rattle.f66_tree.specs.Units.{is_main, Held, Setting, around}
use Rattle.f66_tree.specs.Evaluation.{base, store_at}
use Rattle.f66_tree.specs.Statements.{returned}
use Rattle.efl_program.specs.Typed.{Expr, Return}
use Rattle.efl_program.specs.Setting as world
use Rattle.efl_program.specs.Meaning as meaning
use Rattle.routes.specs.Routes.{Plain, AndRoute, only}
use Rattle.routes.specs.Running.{Backs, course_of}
use Rattle.efl_routes.specs.Expressions.{made, type_of, sets, formula}
use Rattle.efl_routes.specs.Statements.{Around}
use Rattle.efl_routes.proofs.Like.{Like}
use Rattle.efl_routes.proofs.Near.{Sides, Target, there, run, Near, Same, same_self, same_on, near_less, near_counted, near_within}
use Rattle.efl_routes.proofs.Steps.{sets_at}
use Rattle.efl_routes.proofs.Lowers.{After}
use Rattle.efl_routes.proofs.Combined.{near_spent}
use Rattle.efl_routes.proofs.Changes.{put_cells, put_same}
use Rattle.efl_routes.proofs.Procedures.{Agreed}
use Rattle.efl_routes.proofs.Expressions.{expression_right}
use Rattle.efl_routes.proofs.Flows.{Left}
use Rattle.efl_routes.proofs.Cycles.{then_none}
use Rattle.efl_routes.proofs.Lists as lists

-- what the unit returns: it is the main on both sides; and where it gives a value, its own name has the value
pub record Returning (g : Sides) (own : Text) (gives : Type 0) : Type 0 where
  pub main : is_main (around (Target g) g.to).header ≡ nat_eq g.from.unit g.source.linked.main
  pub based : gives → (p : Place) → base (Target g) (there g p) own ≡ Yields (Held g.to.unit own 0)
  pub cell : gives → g.linked.number g.to.unit own 0 ≡ g.cell (g.source.linked.result g.from.unit)
  pub real : gives → g.Real (g.source.linked.result g.from.unit)

module _ (g : Sides) (c : Agreed g) (label : Text → ℕ) (own : Text) (gives : Type 0) (same_label : (m l : Text) → nat_eq (label m) (label l) ≡ bytes_eq m l) (h : Returning g own gives) where
  abbrev T : Setting
  T = Target g

  abbrev S : world.Setting
  S = g.source

  abbrev ends : World → meaning.Flow
  ends u = meaning.returned S g.from (nat_eq g.from.unit S.linked.main) u

  returns_like : (rs : List Around) (n z : ℕ) (st : Store) (u u1 : World) → Near g (1 + z) u u1 → Same g n st u1.state.store → Like (Left g label rs n z st) (ends u) (bind (returned (is_main (around T g.to).header) (counted u1)) (λ y v. Gives (course_of y) v))
  returns_like rs n z st u u1 near same =
      subst (λ b. Like (Left g label rs n z st) (ends u) (bind (returned b (counted u1)) (λ y v. Gives (course_of y) v))) (sym h.main) (by_main (nat_eq g.from.unit S.linked.main))
    where
      once : Near g z u (counted u1)
      once = near_spent g (omega arith) near

      by_main : (b : Bool) → Like (Left g label rs n z st) (meaning.returned S g.from b u) (bind (returned b (counted u1)) (λ y v. Gives (course_of y) v))
      by_main true = record { by = (counted u1, refl, near_within g once) }
      by_main false = record { by = (Backs, counted u1, refl, (refl, once, same)) }

  pub returns_follow : (p : Place) → lists.Follows g c label own gives same_label (Return p None)
  returns_follow p rs n ok z st w w1 near same = returns_like rs n z st (counted w) w1 (near_less g (omega arith) (near_counted g near)) same

  pub gives_follow : (p : Place) (e : Expr) → lists.Follows g c label own gives same_label (Return p (Some e))
  gives_follow p e rs n ok z st w w1 near same =
      expression_right g c e ok.1.0 p n ok.1.1 meaning.Course (Left g label rs n z st) (2 + z) (counted w) w1 (λ v u. ends (holding (put_in (S.linked.result g.from.unit) v u.state.store) u)) (AndRoute (sets p (f66.Ref own) (formula g.home g.temp g.callee e n)) (only (Plain p f66.Return)))
      (near_less g (omega arith) (near_counted g near)) found
    where
      r : ℕ
      r = S.linked.result g.from.unit

      found : (v : Content) (u u1 : World) → After g n (n + made e) (2 + z) (type_of e) (formula g.home g.temp g.callee e n) w1.state.store v u u1 →
          Like (Left g label rs n z st) (ends (holding (put_in (S.linked.result g.from.unit) v u.state.store) u)) (run g (AndRoute (sets p (f66.Ref own) (formula g.home g.temp g.callee e n)) (only (Plain p f66.Return))) u1)
      found v u u1 f =
          let m = g.linked.number g.to.unit own 0 in
          let once : Near g (1 + z) u (counted u1) = near_spent g (omega arith) f.near in
          let here_then = holding (put_in (S.linked.result g.from.unit) v u.state.store) u in
          let there_then = holding (put_in m v u1.state.store) (counted u1) in
          let near1 : Near g (1 + z) here_then there_then = record { tape = once.tape; cells = put_cells g (S.linked.result g.from.unit) m v u.state.store u1.state.store (h.cell ok.0) (h.real ok.0) f.near.cells; count = once.count } in
          let steps = sets_at g p own (Held g.to.unit own 0) (formula g.home g.temp g.callee e n) (only (Plain p f66.Return)) u1 (h.based ok.0 p)
          ∙ ap (λ q. bind q (λ d x. bind (store_at T (there g p) (Held g.to.unit own 0) d x) (λ _ x1. run g (only (Plain p f66.Return)) x1))) (f.says.by p (counted u1) (same_self g (n + made e) u1.state.store)) in
          subst (λ q. Like (Left g label rs n z st) (ends here_then) q) (sym (steps ∙ then_none g c label own gives (bind (returned (is_main (around T g.to).header) (counted there_then)) (λ y x. Gives (course_of y) x))))
          (returns_like rs n z st here_then there_then near1 (same_on g same (same_on g f.same (put_same g n (S.linked.result g.from.unit) m v u1.state.store (h.cell ok.0) (h.real ok.0)))))
