-- What is asked of a program of EFL and the units of FORTRAN that its procedures become, where its variables are scalars. The target
-- has each place of the source in a cell of its own, and besides temporaries, which no place shares.
use Rattle.std.specs.Prelude.{◌≡◌, ◌≢◌, ℕ, ◌+◌, ◌<◌, pos, nat_eq, nat_lt, Bool, true, false, List, [], ◌∷◌, None, Some, ⊤}
use Rattle.std.specs.Str.{bytes_eq}
use Rattle.ground.specs.declared.value.Kind.{Kind}
use Rattle.ground.specs.Content.{Whole}
use Rattle.f66_tree.specs.Syntax.{Text}
use Rattle.f66_tree.specs.World.{Try, Yields}
use Rattle.f66_tree.specs.Units.{is_main, position, dummies_of, kind_of, sizes_of, Spot, Held, Lent, Linkage}
use Rattle.f66_tree.specs.Evaluation.{Intrinsic, AFunction, AnIntrinsic, sort_of, base_by}
use Rattle.efl_program.specs.Typed.{Stmts}
use Rattle.efl_program.specs.Setting as efl
use Rattle.routes.specs.Routes.{Routes}
use Rattle.efl_routes.specs.Expressions.{intrinsic_name}
use Rattle.efl_routes.specs.Statements.{all_route, AllReady}

-- a place of the source, and the one of the target that has its content
abbrev pub SameSpot : (ℕ → ℕ) → (ℕ → Type 0) → efl.Linkage → Linkage → efl.Spot → Spot → Type 0
SameSpot cell Real l m (efl.Held v k) (Held u x o) = (m.number u x o ≡ cell (l.number v k)) × (nat_lt (k + 0) (l.extent v) ≡ true) × Real (l.number v k)
SameSpot cell Real l m (efl.Lent c) (Lent d) = c ≡ d
SameSpot cell Real l m _ _ = ⊥

-- where a variable begins on both sides
pub record Based (cell : ℕ → ℕ) (Real : ℕ → Type 0) (l : efl.Linkage) (m : Linkage) (here : Try efl.Spot) (there : Try Spot) : Type 0 where
  pub source : efl.Spot
  pub target : Spot
  pub is : here ≡ Yields source
  pub is1 : there ≡ Yields target
  pub same : SameSpot cell Real l m source target

-- spots of the source, and those of the target that have the same
abbrev pub AllSame : (efl.Spot → Spot → Type 0) → List efl.Spot → List Spot → Type 0
AllSame R [] [] = ⊤
AllSame R (a ∷ as') (b ∷ bs) = R a b × AllSame R as' bs
AllSame R _ _ = ⊥

abbrev pub size : {A : Type 0} → List A → ℕ
size [] = 0
size (x ∷ xs) = 1 + size xs

-- a function of FORTRAN has a dummy or more
abbrev pub lent_one : List Spot → List Spot
lent_one [] = Lent (Whole (pos 0)) ∷ []
lent_one (p ∷ ps) = p ∷ ps

-- the actuals of a unit: a function has one at least
abbrev pub passed : Bool → List Spot → List Spot
passed true qs = lent_one qs
passed false qs = qs

-- A program and the units of its procedures. Where one procedure calls another, what belongs to it is above the other: its own
-- temporaries, and what is above it. Only what the main calls, directly or by way of others, has to be a unit, and no more is asked of
-- temporaries than of those that there is room for.
pub record LoweredProgram : Type 0 where
  pub source : efl.Linkage
  pub target : Linkage
  pub bodies : ℕ → Stmts
  pub code : ℕ → Routes
  pub unit_of : ℕ → ℕ
  pub is_function : ℕ → Bool
  pub home : ℕ → ℕ → Text
  pub temp : ℕ → Kind → ℕ → Text
  pub callee : ℕ → Text
  pub label : ℕ → Text → ℕ
  pub own : ℕ → Text
  pub gives : ℕ → Bool
  pub room : ℕ → ℕ
  pub has_scalar : ℕ → ℕ → Kind → Bool
  pub uses_function : ℕ → ℕ → Kind → ℕ → Bool
  pub uses_procedure : ℕ → ℕ → ℕ → Bool
  pub is_unit : ℕ → Bool
  pub cell : ℕ → ℕ
  pub is_place : ℕ → Bool
  pub is_above : ℕ → ℕ → Bool
  pub lowered : (v : ℕ) → code (unit_of v) ≡ all_route (home v) (temp v) callee (label v) (own v) (bodies v) [] 0
  pub ready : (v : ℕ) → AllReady (λ x k. has_scalar v x k ≡ true) (λ x k n. uses_function v x k n ≡ true) (λ x n. uses_procedure v x n ≡ true) (room v) (gives v ≡ true) (bodies v) 0
  pub same_label : (v : ℕ) → is_unit v ≡ true → (m l : Text) → nat_eq (label v m) (label v l) ≡ bytes_eq m l
  pub one_cell : (q r : ℕ) → is_place q ≡ true → is_place r ≡ true → cell q ≡ cell r → q ≡ r
  pub temp_own : (v : ℕ) (k : Kind) (n : ℕ) → n < room v → position (temp v k n) (dummies_of (target.context (unit_of v)).header) ≡ None
  pub temp_kind : (v : ℕ) (k : Kind) (n : ℕ) → n < room v → kind_of (target.context (unit_of v)) (temp v k n) ≡ k
  pub temp_plain : (v : ℕ) (k : Kind) (n : ℕ) → n < room v → sizes_of (temp v k n) (target.context (unit_of v)).notes ≡ []
  pub temp_apart : (v : ℕ) (k j : Kind) (m n : ℕ) → m < room v → n < room v → m ≢ n → target.number (unit_of v) (temp v k m) 0 ≢ target.number (unit_of v) (temp v j n) 0
  pub temp_no_cell : (v : ℕ) (k : Kind) (n q : ℕ) → n < room v → is_place q ≡ true → cell q ≢ target.number (unit_of v) (temp v k n) 0
  pub above_temp : (v : ℕ) (k : Kind) (n j : ℕ) → n < room v → is_above v j ≡ true → j ≢ target.number (unit_of v) (temp v k n) 0
  pub above_cell : (v q j : ℕ) → is_place q ≡ true → is_above v j ≡ true → j ≢ cell q
  pub home_kind : (v x : ℕ) (k : Kind) → has_scalar v x k ≡ true → kind_of (target.context (unit_of v)) (home v x) ≡ k
  pub bases : (v x : ℕ) (k : Kind) → has_scalar v x k ≡ true → (ps : List efl.Spot) (qs : List Spot) → AllSame (SameSpot cell (λ q. is_place q ≡ true) source target) ps qs → size ps ≡ size (source.formals v) →
      Based cell (λ q. is_place q ≡ true) source target (efl.base_by (efl.position x (source.formals v)) (source.owner x) ps) (base_by (position (home v x) (dummies_of (target.context (unit_of v)).header)) (unit_of v) (passed (is_function v) qs) (home v x))
  pub main : (v : ℕ) → is_unit v ≡ true → is_main (target.context (unit_of v)).header ≡ nat_eq v source.main
  pub own_based : (v : ℕ) → gives v ≡ true → position (own v) (dummies_of (target.context (unit_of v)).header) ≡ None
  pub own_cell : (v : ℕ) → gives v ≡ true → target.number (unit_of v) (own v) 0 ≡ cell (source.result v)
  pub own_real : (v : ℕ) → gives v ≡ true → is_place (source.result v) ≡ true
  pub intrinsics : (v : ℕ) → is_unit v ≡ true → (i : Intrinsic) → sort_of (target.context (unit_of v)) (intrinsic_name i) ≡ AnIntrinsic i
  pub functions : (v x : ℕ) (k : Kind) (n : ℕ) → uses_function v x k n ≡ true → sort_of (target.context (unit_of v)) (callee x) ≡ AFunction
  pub kinds : (v x : ℕ) (k : Kind) (n : ℕ) → uses_function v x k n ≡ true → kind_of (target.context (unit_of v)) (callee x) ≡ k
  pub found : (v x : ℕ) (k : Kind) (n : ℕ) → uses_function v x k n ≡ true → target.find (callee x) ≡ Some (unit_of x)
  pub found_too : (v x n : ℕ) → uses_procedure v x n ≡ true → target.find (callee x) ≡ Some (unit_of x)
  pub results : (v x : ℕ) (k : Kind) (n : ℕ) → uses_function v x k n ≡ true → target.number (unit_of x) (callee x) 0 ≡ cell (source.result x)
  pub reals : (v x : ℕ) (k : Kind) (n : ℕ) → uses_function v x k n ≡ true → is_place (source.result x) ≡ true
  pub arity : (v x : ℕ) (k : Kind) (n : ℕ) → uses_function v x k n ≡ true → (n ≡ size (source.formals x)) × (is_function x ≡ true)
  pub arity_too : (v x n : ℕ) → uses_procedure v x n ≡ true → (n ≡ size (source.formals x)) × (is_function x ≡ false)
  pub enters : (v x : ℕ) (k : Kind) (n : ℕ) → uses_function v x k n ≡ true → is_unit x ≡ true
  pub enters_too : (v x n : ℕ) → uses_procedure v x n ≡ true → is_unit x ≡ true
  pub above : (v x : ℕ) (k : Kind) (n : ℕ) → uses_function v x k n ≡ true → (j : ℕ) → is_above v j ≡ true → is_above x j ≡ true
  pub above_own : (v x : ℕ) (k : Kind) (n : ℕ) → uses_function v x k n ≡ true → (j : Kind) (i : ℕ) → i < room v → is_above x (target.number (unit_of v) (temp v j i) 0) ≡ true
  pub above_too : (v x n : ℕ) → uses_procedure v x n ≡ true → (j : ℕ) → is_above v j ≡ true → is_above x j ≡ true
  pub above_own_too : (v x n : ℕ) → uses_procedure v x n ≡ true → (j : Kind) (i : ℕ) → i < room v → is_above x (target.number (unit_of v) (temp v j i) 0) ≡ true

-- what it has is asked for as a fact

abbrev pub HasScalar : LoweredProgram → ℕ → ℕ → Kind → Type 0
HasScalar p v x k = p.has_scalar v x k ≡ true

abbrev pub UsesFunction : LoweredProgram → ℕ → ℕ → Kind → ℕ → Type 0
UsesFunction p v x k n = p.uses_function v x k n ≡ true

abbrev pub UsesProcedure : LoweredProgram → ℕ → ℕ → ℕ → Type 0
UsesProcedure p v x n = p.uses_procedure v x n ≡ true

abbrev pub IsPlace : LoweredProgram → ℕ → Type 0
IsPlace p q = p.is_place q ≡ true

abbrev pub IsUnit : LoweredProgram → ℕ → Type 0
IsUnit p v = p.is_unit v ≡ true

abbrev pub IsAbove : LoweredProgram → ℕ → ℕ → Type 0
IsAbove p v j = p.is_above v j ≡ true

abbrev pub Gives : LoweredProgram → ℕ → Type 0
Gives p v = p.gives v ≡ true

-- where a program begins on both sides
pub record Begins (p : LoweredProgram) : Type 0 where
  pub unit : p.is_unit p.source.main ≡ true
  pub main : p.target.main ≡ p.unit_of p.source.main
  pub deep : p.target.deep ≡ p.source.deep
  pub formals : p.source.formals p.source.main ≡ []
  pub plain : p.is_function p.source.main ≡ false
  pub first : (q : ℕ) → p.is_place q ≡ true → p.target.first (p.cell q) ≡ p.source.first q
