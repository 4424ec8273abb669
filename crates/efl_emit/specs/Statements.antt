-- The routes of statements, by the names that a naming gives.
use Rattle.std.specs.Prelude.{ℕ, ℤ, Bool, true, false, List, [], ◌∷◌}
use Rattle.ground.specs.declared.place.Place.{Place}
use Rattle.f66_tree.specs.Syntax.{Formula, Not}
use Rattle.efl_tree.specs.declared.statement.LoopKind.{LoopKind}
use Rattle.efl_program.specs.Typed.{Stmt, Stmts, Clauses}
use Rattle.routes.specs.Routes.{Route, BreakIf, Break, Ring, Cycle, Block, Routes, NoRoute, AndRoute, joined, only}
use Rattle.efl_routes.specs.Statements.{Around, Other, Behind, Next, route, all_route, clause_route, default_route}
use Rattle.efl_emit.specs.declared.naming.Naming.{Naming}
use Rattle.efl_emit.specs.declared.turns.Turn.{Turn}
use Rattle.efl_emit.specs.Names.{home_of, temp_of, callee_of, label_of, own_of}
use Rattle.efl_emit.specs.Cases.{ring_of_cases}
use Rattle.efl_emit.specs.Turns.{top_of, bottom_of}

abbrev pub route_of : Naming → Stmt → List Around → ℕ → Route
route_of s x rs n = route (home_of s) temp_of (callee_of s) (label_of s) (own_of s) x rs n

abbrev pub all_of : Naming → Stmts → List Around → ℕ → Routes
all_of s ss rs n = all_route (home_of s) temp_of (callee_of s) (label_of s) (own_of s) ss rs n

-- a list, before other routes
abbrev pub all_before : Naming → Stmts → List Around → ℕ → Routes → Routes
all_before s ss rs n rest = joined (all_of s ss rs n) rest

abbrev pub block_of : Naming → Stmts → List Around → ℕ → Routes → Routes
block_of s ss rs n = AndRoute (Block (all_of s ss rs n))

-- the first statement of an `if` with an `else`, where its value is in a formula
abbrev pub first_of : Naming → Place → Formula → Stmt → List Around → ℕ → Routes → Routes
first_of s p value x rs n = AndRoute (Ring p (AndRoute (BreakIf p (Not value) 0) (AndRoute (route_of s x (Other ∷ rs) n) (only (Break p 1)))))

-- the statement of a loop
abbrev pub turn_of : Naming → Place → Stmt → LoopKind → List Around → ℕ → Routes → Routes
turn_of s p x k rs n = AndRoute (Ring p (only (route_of s x (Next k ∷ rs) n)))

abbrev pub loop_of : Naming → Place → Turn → Stmt → LoopKind → List Around → ℕ → Routes → Routes
loop_of s p turn x k rs n = AndRoute (Cycle p (top_of s p turn n NoRoute) (turn_of s p x k (Behind k ∷ rs) n (bottom_of s p turn n NoRoute)))

-- clauses one behind the other, and then the default of them all
abbrev pub clauses_before : Naming → Place → Formula → Clauses → Clauses → List Around → ℕ → Routes → Routes
clauses_before s p value cs all rs n = AndRoute (clause_route (home_of s) temp_of (callee_of s) (label_of s) (own_of s) p value cs (default_route (home_of s) temp_of (callee_of s) (label_of s) (own_of s) all) rs n)

-- the constants of a clause, its statements, and a jump behind the other clauses
abbrev pub tested_of : Naming → Place → Formula → List ℤ → Stmts → List Around → ℕ → Routes → Routes
tested_of s p value cs ss rs n = AndRoute (Ring p (ring_of_cases s p value cs (AndRoute (Block (all_of s ss (Other ∷ rs) n)) (only (Break p 1)))))

-- a clause with constants, and then the others
abbrev pub clause_before : Naming → Place → Formula → List ℤ → Stmts → Clauses → Clauses → List Around → ℕ → Routes → Routes
clause_before s p value cs ss others all rs n = AndRoute (Ring p (tested_of s p value cs ss (Other ∷ rs) n (clauses_before s p value others all (Other ∷ rs) n NoRoute)))

abbrev pub default_before : Naming → Clauses → List Around → ℕ → Routes → Routes
default_before s cs rs n = AndRoute (default_route (home_of s) temp_of (callee_of s) (label_of s) (own_of s) cs rs n)

-- whether there are no constants
abbrev pub have_none : List ℤ → Bool
have_none [] = true
have_none (c ∷ cs) = false
