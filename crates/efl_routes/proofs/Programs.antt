-- A program's procedures do the same as their routes, called as deep as they may be.
use Rattle.std.proofs.Common.{◌≡◌, ℕ, zero, suc, ◌+◌, ◌*◌, ◌≤◌, ◌<◌, Bool, true, false, List, [], refl, sym, ap, ◌∙◌, subst, arith}
use Rattle.std.specs.Prelude.{⊤, nat_eq}
use Rattle.ground.specs.declared.value.Kind.{Kind}
use Rattle.f66_tree.specs.World.{World, counted, bind}
use Rattle.f66_tree.specs.Units.{is_main, Spot}
use Rattle.f66_tree.specs.Evaluation.{base_by}
use Rattle.f66_tree.specs.Execution.{nowhere}
use Rattle.efl_program.specs.Setting as efl
use Rattle.efl_program.specs.Meaning as meaning
use Rattle.efl_program.specs.Meaning.{efl_call, Leave as EflLeave, Again as EflAgain, Went as EflWent, Jumps as EflJumps, Backs as EflBacks}
use Rattle.routes.specs.Routes as route_tree
use Rattle.routes.specs.Routes.{Routes}
use Rattle.routes.specs.Running.{Course, running, routes_call, ended_by}
use Rattle.efl_routes.specs.Statements.{all_route}
use Rattle.efl_routes.specs.LoweredProgram.{AllSame, Gives, HasScalar, IsAbove, IsPlace, IsUnit, LoweredProgram, SameSpot, UsesFunction, UsesProcedure, passed, size}
use Rattle.efl_routes.proofs.Like.{Post, Like, like_bind}
use Rattle.efl_routes.proofs.Near.{Sides, Target, Near, Same, same_self, near_less, near_begun, near_within}
use Rattle.efl_routes.proofs.Procedures.{Agreed, AgreedCall}
use Rattle.efl_routes.proofs.Flows.{CourseLike, Left, like_as}
use Rattle.efl_routes.proofs.Returns.{Returning}
use Rattle.efl_routes.proofs.Lists.{list_follows}
use Rattle.efl_routes.proofs.Whole.{all_follow, from_follow}

module _ (p : LoweredProgram) (b : ℕ) where
  -- the two sides of a procedure, called at most k deep
  abbrev pub SameSpots : List efl.Spot → List Spot → Type 0
  SameSpots ps qs = AllSame (SameSpot p.cell (IsPlace p) p.source p.target) ps qs

  abbrev pub sides : (k v : ℕ) (ps : List efl.Spot) (qs : List Spot) → SameSpots ps qs → size ps ≡ size (p.source.formals v) → Sides
  sides k v ps qs alike many = record {
    source = record { linked = p.source; call = efl_call p.source p.bodies b k };
    from = record { unit = v; actuals = ps; place = nowhere };
    linked = p.target;
    call = routes_call p.target p.code b k;
    most = b;
    to = record { unit = p.unit_of v; actuals = passed (p.is_function v) qs; place = nowhere };
    home = p.home v;
    temp = p.temp v;
    callee = p.callee;
    cell = p.cell;
    room = p.room v;
    M = HasScalar p v;
    Real = IsPlace p;
    one_cell = p.one_cell;
    temp_own = p.temp_own v;
    temp_kind = p.temp_kind v;
    temp_plain = p.temp_plain v;
    temp_apart = p.temp_apart v;
    temp_no_cell = p.temp_no_cell v;
    Outer = IsAbove p v;
    outer_temp = p.above_temp v;
    outer_cell = p.above_cell v;
    home_kind = p.home_kind v;
    bases = λ x k is. p.bases v x k is ps qs alike many;
  }

  -- both sides at the beginning of a procedure and behind it
  pub record Beside (z : ℕ) (w w1 : World) : Type 0 where
    pub tape : w1.state.tape ≡ w.state.tape
    pub cells : (q : ℕ) → IsPlace p q → w1.state.store (p.cell q) ≡ w.state.store q
    pub count : z + w1.count ≤ 32 * (w.count + 1)

  -- a procedure does the same on both sides, and changes nothing that is above it
  abbrev pub Agrees : ℕ → Type 0
  Agrees k =
      (v : ℕ) → IsUnit p v → (ps : List efl.Spot) (qs : List Spot) → SameSpots ps qs → size ps ≡ size (p.source.formals v) → (z : ℕ) (w w1 : World) → Beside (8 + z) w w1 →
      Like (λ _ x _ x1. Beside z x x1 × ((j : ℕ) → IsAbove p v j → x1.state.store j ≡ w1.state.store j)) (efl_call p.source p.bodies b k v ps w) (routes_call p.target p.code b k (p.unit_of v) (passed (p.is_function v) qs) w1)

  called : (k : ℕ) → Agrees k → (v : ℕ) (ps : List efl.Spot) (qs : List Spot) (alike : SameSpots ps qs) (many : size ps ≡ size (p.source.formals v)) (x : ℕ) (ps1 : List efl.Spot) (qs1 : List Spot) → SameSpots ps1 qs1 → size ps1 ≡ size (p.source.formals x) → IsUnit p x → ((j : ℕ) → IsAbove p v j → IsAbove p x j) →
      ((j : Kind) (i : ℕ) → i < p.room v → IsAbove p x (p.target.number (p.unit_of v) (p.temp v j i) 0)) → AgreedCall (sides k v ps qs alike many) (efl_call p.source p.bodies b k) ps1 x (p.unit_of x) (passed (p.is_function x) qs1)
  called k ih v ps qs alike many x ps1 qs1 al mn unit up own z w w1 near =
      like_as (efl_call p.source p.bodies b k x ps1 w) (routes_call p.target p.code b k (p.unit_of x) (passed (p.is_function x) qs1) w1) (ih x unit ps1 qs1 al mn z w w1 (record { tape = near.tape; cells = near.cells; count = near.count }))
      (λ t y t1 y1 f. (record { tape = f.0.tape; cells = f.0.cells; count = f.0.count }, λ m. record { by = λ j i lt fits. f.1 (p.target.number (p.unit_of v) (p.temp v j i) 0) (own j i fits); outer = λ j out. f.1 j (up j out) }))

  abbrev agreed : (k : ℕ) → Agrees k → (v : ℕ) → IsUnit p v → (ps : List efl.Spot) (qs : List Spot) (alike : SameSpots ps qs) (many : size ps ≡ size (p.source.formals v)) → Agreed (sides k v ps qs alike many)
  agreed k ih v is_unit ps qs alike many = record {
    unit_of = p.unit_of;
    F = UsesFunction p v;
    C = UsesProcedure p v;
    intrinsics = p.intrinsics v is_unit;
    functions = p.functions v;
    kinds = p.kinds v;
    found = p.found v;
    found_too = p.found_too v;
    results = p.results v;
    reals = p.reals v;
    calls = λ x kd n is ps1 qs1 al mn.
        subst (λ t. AgreedCall (sides k v ps qs alike many) (efl_call p.source p.bodies b k) ps1 x (p.unit_of x) (passed t qs1)) (p.arity v x kd n is).1 (called k ih v ps qs alike many x ps1 qs1 al (mn ∙ (p.arity v x kd n is).0) (p.enters v x kd n is) (p.above v x kd n is) (p.above_own v x kd n is));
    calls_too = λ x n is ps1 qs1 al mn.
        subst (λ t. AgreedCall (sides k v ps qs alike many) (efl_call p.source p.bodies b k) ps1 x (p.unit_of x) (passed t qs1)) (p.arity_too v x n is).1 (called k ih v ps qs alike many x ps1 qs1 al (mn ∙ (p.arity_too v x n is).0) (p.enters_too v x n is) (p.above_too v x n is) (p.above_own_too v x n is));
  }

  returning : (k v : ℕ) → IsUnit p v → (ps : List efl.Spot) (qs : List Spot) (alike : SameSpots ps qs) (many : size ps ≡ size (p.source.formals v)) → Returning (sides k v ps qs alike many) (p.own v) (Gives p v)
  returning k v is_unit ps qs alike many = record { main = p.main v is_unit; based = λ is q. ap (λ o. base_by o (p.unit_of v) (passed (p.is_function v) qs) (p.own v)) (p.own_based v is); cell = p.own_cell v; real = p.own_real v }

  -- what a procedure comes to
  abbrev Called : ℕ → ℕ → World → Post ⊤ ⊤
  Called v z w1 t x t1 x1 = Beside z x x1 × ((j : ℕ) → IsAbove p v j → x1.state.store j ≡ w1.state.store j)

  module _ (k v : ℕ) (is_unit : IsUnit p v) (ps : List efl.Spot) (qs : List Spot) (alike : SameSpots ps qs) (many : size ps ≡ size (p.source.formals v)) (z : ℕ) (w1 : World) where
    abbrev g : Sides
    g = sides k v ps qs alike many

    beside : (x x1 : World) → Near g z x x1 → Same g 0 w1.state.store x1.state.store → Called v z w1 tt x tt x1
    beside x x1 near same = (record { tape = near.tape; cells = near.cells; count = near.count }, same.outer)

    ended : (c1 : meaning.Course) (x : World) (d : Course) (x1 : World) → Left g (p.label v) [] 0 (1 + z) w1.state.store c1 x d x1 →
        Like (Called v z w1) (meaning.ended_by (nat_eq v p.source.main) c1 x) (ended_by (is_main (p.target.context (p.unit_of v)).header) d x1)
    ended c1 x d x1 f = subst (λ t. Like (Called v z w1) (meaning.ended_by (nat_eq v p.source.main) c1 x) (ended_by t d x1)) (sym (p.main v is_unit)) (by_main (nat_eq v p.source.main) c1 f.0)
      where
        by_main : (t : Bool) (c2 : meaning.Course) → CourseLike (p.label v) [] c2 d → Like (Called v z w1) (meaning.ended_by t c2 x) (ended_by t d x1)
        by_main true EflWent is = subst (λ e. Like (Called v z w1) (meaning.ended_by true EflWent x) (ended_by true e x1)) (sym is) (record { by = (counted x1, refl, near_within g (near_begun g f.1)) })
        by_main false EflWent is = subst (λ e. Like (Called v z w1) (meaning.ended_by false EflWent x) (ended_by false e x1)) (sym is) (record { by = (tt, counted x1, refl, beside x (counted x1) (near_begun g f.1) f.2) })
        by_main true EflBacks is = subst (λ e. Like (Called v z w1) (meaning.ended_by true EflBacks x) (ended_by true e x1)) (sym is) (record { by = (tt, x1, refl, beside x x1 (near_less g (omega arith) f.1) f.2) })
        by_main false EflBacks is = subst (λ e. Like (Called v z w1) (meaning.ended_by false EflBacks x) (ended_by false e x1)) (sym is) (record { by = (tt, x1, refl, beside x x1 (near_less g (omega arith) f.1) f.2) })
        by_main true (EflJumps l) is = record { by = tt }
        by_main false (EflJumps l) is = record { by = tt }
        by_main true (EflLeave i o) is = record { by = tt }
        by_main false (EflLeave i o) is = record { by = tt }
        by_main true (EflAgain i o) is = record { by = tt }
        by_main false (EflAgain i o) is = record { by = tt }

  one_deeper : (k : ℕ) → Agrees k → Agrees (suc k)
  one_deeper k ih v is_unit ps qs alike many z w w1 near =
      let g = sides k v ps qs alike many in
      let c = agreed k ih v is_unit ps qs alike many in
      let h = returning k v is_unit ps qs alike many in
      let near1 : Near g (1 + z) w w1 = record { tape = near.tape; cells = near.cells; count = omega (arith, near.count) } in
      subst (λ rs. Like (Called v z w1) (efl_call p.source p.bodies b (suc k) v ps w) (bind (running (Target g) g.to b (route_tree.Block rs) w1) (ended_by (is_main (p.target.context (p.unit_of v)).header)))) (sym (p.lowered v))
      (like_bind (meaning.all_meaning g.source g.from b (p.bodies v) w) (running (Target g) g.to b (route_tree.Block (all_route (p.home v) (p.temp v) p.callee (p.label v) (p.own v) (p.bodies v) [] 0)) w1) (meaning.ended_by (nat_eq v p.source.main)) (ended_by (is_main (p.target.context (p.unit_of v)).header))
      (list_follows g c (p.label v) (p.own v) (Gives p v) (p.same_label v is_unit) (p.bodies v) (all_follow g c (p.label v) (p.own v) (Gives p v) (p.same_label v is_unit) h (p.bodies v)) (from_follow g c (p.label v) (p.own v) (Gives p v) (p.same_label v is_unit) h (p.bodies v)) [] 0 (p.ready v) (1 + z) w1.state.store w w1 near1 (same_self g 0 w1.state.store))
      (ended k v is_unit ps qs alike many z w1))

  pub procedures_agree : (k : ℕ) → Agrees k
  procedures_agree zero v is_unit ps qs alike many z w w1 near = record { by = tt }
  procedures_agree (suc k) v is_unit ps qs alike many z w w1 near = one_deeper k (procedures_agree k) v is_unit ps qs alike many z w w1 near
