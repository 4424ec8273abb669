-- The routes that an expression of EFL becomes, before those that come next, and the formula that has its value there: a constant
-- or a temporary, which nothing that comes later changes. Each operand is put into a temporary where its turn comes, so values,
-- changes and traps come in the order of the source.
use Rattle.std.specs.Prelude.{◌≡◌, ℕ, suc, zero, ◌+◌, pos, codes, Some, None, ⊤}
use Rattle.ground.specs.declared.place.Place.{Place}
use Rattle.ground.specs.declared.value.Kind.{Kind}
use Rattle.ground.specs.declared.value.Kind.TheVariants.{Integer, Logical}
use Rattle.f66_tree.specs.declared.expression.Operator.{Operator}
use Rattle.f66_tree.specs.declared.expression.Operator.TheVariants.{Add, Sub, Mul, Div, Power}
use Rattle.f66_tree.specs.Syntax as f66
use Rattle.f66_tree.specs.Syntax.{Text, Formula, Formulas, NoFormula, AndFormula}
use Rattle.f66_tree.specs.Evaluation.{Intrinsic, Iabs, Mod, Isign, Idim, Max0, Min0}
use Rattle.efl_program.specs.Typed.{Scalar, Op, Plain, OrElse, Expr, Int, Truth, At, Call, Known, Group, Plus, Minus, Not, Up, Down, Pair, Assign, Exprs, NoExpr, AndExpr, Site, Variable, Member, Overlay}
use Rattle.efl_program.specs.Places.{sort_of, kind_of}
use Rattle.routes.specs.Routes.{Route, BreakIf, Ring, Routes, AndRoute, only}
use Rattle.routes.specs.Routes as route_tree

-- the type of what an operator gives
abbrev pub given_by : Operator → Kind
given_by Add = Integer
given_by Sub = Integer
given_by Mul = Integer
given_by Div = Integer
given_by Power = Integer
given_by _ = Logical

abbrev pub kind_by : Op → Kind
kind_by (Plain op) = given_by op
kind_by op = Logical

-- the type of an expression
abbrev pub type_of : Expr → Kind
type_of (Int z) = Integer
type_of (Truth b) = Logical
type_of (At x) = kind_of (sort_of x)
type_of (Call v k es) = k
type_of (Known g es) = Integer
type_of (Group a) = type_of a
type_of (Plus a) = Integer
type_of (Minus a) = Integer
type_of (Not a) = Logical
type_of (Up x) = Integer
type_of (Down x) = Integer
type_of (Pair op a b) = kind_by op
type_of (Assign None x e) = type_of e
type_of (Assign (Some op) x e) = kind_by op

abbrev pub intrinsic_name : Intrinsic → Text
intrinsic_name Iabs = codes "IABS"
intrinsic_name Mod = codes "MOD"
intrinsic_name Isign = codes "ISIGN"
intrinsic_name Idim = codes "IDIM"
intrinsic_name Max0 = codes "MAX0"
intrinsic_name Min0 = codes "MIN0"

-- how many temporaries are made
abbrev mutual
  pub made : Expr → ℕ
  made (Int z) = 0
  made (Truth b) = 0
  made (At x) = 1
  made (Call v k es) = made_for es + 1
  made (Known g es) = made_in es + 1
  made (Group a) = made a
  made (Plus a) = made a + 1
  made (Minus a) = made a + 1
  made (Not a) = made a + 1
  made (Up x) = 2
  made (Down x) = 2
  made (Pair op a b) = made a + made b + 1
  made (Assign None x e) = made e
  made (Assign (Some op) x e) = 1 + made e + 1

  pub made_in : Exprs → ℕ
  made_in NoExpr = 0
  made_in (AndExpr e es) = made e + made_in es

  -- of actuals, which need none where they are places
  pub made_for : Exprs → ℕ
  made_for NoExpr = 0
  made_for (AndExpr (At x) es) = made_for es
  made_for (AndExpr e es) = made e + made_for es

abbrev pub count : Exprs → ℕ
count NoExpr = 0
count (AndExpr e es) = 1 + count es

-- the variable where a site is
abbrev pub variable_of : Site → ℕ
variable_of (Variable v s es) = v
variable_of (Member at m s es) = variable_of at
variable_of (Overlay at s) = variable_of at

-- a function of FORTRAN has an argument or more
abbrev pub or_one : Formulas → Formulas
or_one NoFormula = AndFormula (f66.Int (pos 0)) NoFormula
or_one (AndFormula e es) = AndFormula e es

abbrev pub sets : Place → Formula → Formula → Route
sets p t e = route_tree.Plain p (f66.Assign t e)

-- the first few of some formulas
abbrev pub first : ℕ → Formulas → Formulas
first m NoFormula = NoFormula
first zero (AndFormula e es) = NoFormula
first (suc m) (AndFormula e es) = AndFormula e (first m es)

-- the formulas behind the first m: t, which has what x gives of those before, gets what x gives of itself and of 59 more, and so on
abbrev pub further : Place → Text → Formula → ℕ → Formulas → Routes → Routes
further p x t m NoFormula rest = rest
further p x t (suc m) (AndFormula e es) rest = further p x t m es rest
further p x t zero (AndFormula e es) rest = AndRoute (sets p t (f66.Item x (AndFormula t (AndFormula e (first 58 es))))) (further p x t 58 es rest)

-- t gets what an intrinsic function gives: a statement has 60 arguments at most, so that it is no longer than a statement may be
abbrev pub gathered : Place → Text → Formula → Formulas → Routes → Routes
gathered p x t es rest = AndRoute (sets p t (f66.Item x (first 60 es))) (further p x t 60 es rest)

-- where a sequential operator has its value
abbrev pub decided : Op → Formula → Formula
decided OrElse t = t
decided op t = f66.Not t

-- t gets what an operator makes of a left side and of what comes of a right side
abbrev pub combined : Place → Op → Formula → (Routes → Routes) → Formula → Formula → Routes → Routes
combined p (Plain op) left right e t rest = right (AndRoute (sets p t (f66.Pair op left e)) rest)
combined p op left right e t rest = AndRoute (sets p t left) (AndRoute (Ring p (AndRoute (BreakIf p (decided op t) 0) (right (only (sets p t e))))) rest)

module _ (home : ℕ → Text) (temp : Kind → ℕ → Text) (callee : ℕ → Text) where
  abbrev pub made_up : Kind → ℕ → Formula
  made_up k n = f66.Ref (temp k n)

  abbrev pub site_formula : Site → Formula
  site_formula x = f66.Ref (home (variable_of x))

  -- the formula that has the value, where n temporaries were made before
  abbrev pub formula : Expr → ℕ → Formula
  formula (Int z) n = f66.Int z
  formula (Truth b) n = f66.Truth b
  formula (At x) n = made_up (kind_of (sort_of x)) n
  formula (Call v k es) n = made_up k (n + made_for es)
  formula (Known g es) n = made_up Integer (n + made_in es)
  formula (Group a) n = formula a n
  formula (Plus a) n = made_up Integer (n + made a)
  formula (Minus a) n = made_up Integer (n + made a)
  formula (Not a) n = made_up Logical (n + made a)
  formula (Up x) n = made_up Integer (n + 1)
  formula (Down x) n = made_up Integer (n + 1)
  formula (Pair op a b) n = made_up (kind_by op) (n + made a + made b)
  formula (Assign None x e) n = formula e n
  formula (Assign (Some op) x e) n = made_up (kind_by op) (n + 1 + made e)

  abbrev pub formulas : Exprs → ℕ → Formulas
  formulas NoExpr n = NoFormula
  formulas (AndExpr e es) n = AndFormula (formula e n) (formulas es (n + made e))

  -- an actual that is a place, and a value
  abbrev pub actuals : Exprs → ℕ → Formulas
  actuals NoExpr n = NoFormula
  actuals (AndExpr (At x) es) n = AndFormula (site_formula x) (actuals es n)
  actuals (AndExpr e es) n = AndFormula (f66.Group (formula e n)) (actuals es (n + made e))

  abbrev mutual
    pub routes : Place → Expr → ℕ → Routes → Routes
    routes p (Int z) n rest = rest
    routes p (Truth b) n rest = rest
    routes p (At x) n rest = AndRoute (sets p (made_up (kind_of (sort_of x)) n) (site_formula x)) rest
    routes p (Call v k es) n rest = actual_routes p es n (AndRoute (sets p (made_up k (n + made_for es)) (f66.Item (callee v) (or_one (actuals es n)))) rest)
    routes p (Known g es) n rest = all_routes p es n (gathered p (intrinsic_name g) (made_up Integer (n + made_in es)) (formulas es n) rest)
    routes p (Group a) n rest = routes p a n rest
    routes p (Plus a) n rest = routes p a n (AndRoute (sets p (made_up Integer (n + made a)) (f66.Plus (formula a n))) rest)
    routes p (Minus a) n rest = routes p a n (AndRoute (sets p (made_up Integer (n + made a)) (f66.Minus (formula a n))) rest)
    routes p (Not a) n rest = routes p a n (AndRoute (sets p (made_up Logical (n + made a)) (f66.Not (formula a n))) rest)
    routes p (Up x) n rest = AndRoute (sets p (made_up Integer n) (site_formula x)) (combined p (Plain Add) (made_up Integer n) (λ r. r) (f66.Int (pos 1)) (made_up Integer (n + 1)) (AndRoute (sets p (site_formula x) (made_up Integer (n + 1))) rest))
    routes p (Down x) n rest = AndRoute (sets p (made_up Integer n) (site_formula x)) (combined p (Plain Sub) (made_up Integer n) (λ r. r) (f66.Int (pos 1)) (made_up Integer (n + 1)) (AndRoute (sets p (site_formula x) (made_up Integer (n + 1))) rest))
    routes p (Pair op a b) n rest =
        routes p a n (combined p op (formula a n) (λ r. routes p b (n + made a) r) (formula b (n + made a)) (made_up (kind_by op) (n + made a + made b)) rest)
    routes p (Assign None x e) n rest = routes p e n (AndRoute (sets p (site_formula x) (formula e n)) rest)
    routes p (Assign (Some op) x e) n rest =
        AndRoute (sets p (made_up (kind_of (sort_of x)) n) (site_formula x)) (combined p op (made_up (kind_of (sort_of x)) n) (λ r. routes p e (n + 1) r) (formula e (n + 1)) (made_up (kind_by op) (n + 1 + made e))
        (AndRoute (sets p (site_formula x) (made_up (kind_by op) (n + 1 + made e))) rest))

    pub all_routes : Place → Exprs → ℕ → Routes → Routes
    all_routes p NoExpr n rest = rest
    all_routes p (AndExpr e es) n rest = routes p e n (all_routes p es (n + made e) rest)

    pub actual_routes : Place → Exprs → ℕ → Routes → Routes
    actual_routes p NoExpr n rest = rest
    actual_routes p (AndExpr (At x) es) n rest = actual_routes p es n rest
    actual_routes p (AndExpr e es) n rest = routes p e n (actual_routes p es (n + made e) rest)

-- a sequential operator has logical sides
abbrev pub FitSides : Op → Kind → Kind → Type 0
FitSides (Plain op) j k = ⊤
FitSides op j k = (j ≡ Logical) × (k ≡ Logical)

-- a site that is a scalar variable of which M holds
abbrev pub ScalarSite : (ℕ → Kind → Type 0) → Site → Type 0
ScalarSite M (Variable v (Scalar k) NoExpr) = M v k
ScalarSite M _ = ⊥

-- the expressions whose sites are all such, and whose calls are of functions of which F holds, with so many actuals
module _ (M : ℕ → Kind → Type 0) (F : ℕ → Kind → ℕ → Type 0) where
  abbrev Site1 : Site → Type 0
  Site1 x = ScalarSite M x

  abbrev mutual
    pub Scalars : Expr → Type 0
    Scalars (Int z) = ⊤
    Scalars (Truth b) = ⊤
    Scalars (At x) = Site1 x
    Scalars (Call v k es) = F v k (count es) × AllScalars es
    Scalars (Known g es) = AllScalars es
    Scalars (Group a) = Scalars a
    Scalars (Plus a) = Scalars a
    Scalars (Minus a) = Scalars a
    Scalars (Not a) = Scalars a
    Scalars (Up x) = Site1 x × (kind_of (sort_of x) ≡ Integer)
    Scalars (Down x) = Site1 x × (kind_of (sort_of x) ≡ Integer)
    Scalars (Pair op a b) = FitSides op (type_of a) (type_of b) × Scalars a × Scalars b
    Scalars (Assign None x e) = Site1 x × Scalars e
    Scalars (Assign (Some op) x e) = FitSides op (kind_of (sort_of x)) (type_of e) × Site1 x × Scalars e

    pub AllScalars : Exprs → Type 0
    AllScalars NoExpr = ⊤
    AllScalars (AndExpr e es) = Scalars e × AllScalars es
