-- Units that call one another, and whether actuals and dummies agree (X3.9-1966, sections 8.3, 8.4 and 10.1).
use Rattle.std.specs.Prelude.{◌≡◌, ℕ, zero, suc, ◌==◌, Bool, true, false, not, ◌&&◌, ◌||◌, List, [], ◌∷◌, length, Option, Some, None, if◌then◌else◌}
use Rattle.std.specs.List.{Contains, slice_get, flat_map}
use Rattle.std.specs.Str.{bytes_eq}
use Rattle.ground.specs.declared.value.Kind.{Kind}
use Rattle.ground.specs.declared.value.Kind.TheVariants.{Integer, Logical}
use Rattle.f66_tree.specs.declared.expression.Operator.{Operator}
use Rattle.f66_tree.specs.declared.expression.Operator.TheVariants.{Add, Sub, Mul, Div, Power}
use Rattle.f66_tree.specs.Syntax.{Text, Formula, Int, Truth, Letter, Ref, Item, Group, Plus, Minus, Not, Pair, Formulas, NoFormula, AndFormula, Header, SubUnit, FuncUnit, Act, Line, Routine}
use Rattle.f66_tree.specs.Units.{Context, dummies_of, kind_of}
use Rattle.f66_tree.specs.Evaluation.{Sort, AnArray, AnIntrinsic, sort_of, is_array}
use Rattle.f66_program.specs.Mentions.{Mention, ACall, context_of, mentions_in}

-- a call: by a CALL or as a function, the unit's name, and the actuals
pub record Call : Type 0 where
  pub by_call : Bool
  pub name : Text
  pub actuals : Formulas

abbrev pub call_in : Mention → List Call
call_in (ACall b x es) = record { by_call = b; name = x; actuals = es } ∷ []
call_in _ = []

abbrev pub calls_in : Context → Act → List Call
calls_in c a = flat_map call_in (mentions_in c a)

-- the first unit of a name, which is a subroutine or a function
abbrev pub is_called : Text → Header → Bool
is_called q (SubUnit x ds) = bytes_eq q x
is_called q (FuncUnit t x ds) = bytes_eq q x
is_called q _ = false

abbrev pub one_further : Option ℕ → Option ℕ
one_further None = None
one_further (Some u) = Some (suc u)

abbrev pub unit_named : Text → List Routine → Option ℕ
unit_named q [] = None
unit_named q (r ∷ rs) = if is_called q r.header then Some zero else one_further (unit_named q rs)

abbrev pub is_arithmetic : Operator → Bool
is_arithmetic Add = true
is_arithmetic Sub = true
is_arithmetic Mul = true
is_arithmetic Div = true
is_arithmetic Power = true
is_arithmetic _ = false

abbrev pub kind_applied : Context → Text → Sort → Kind
kind_applied c x (AnIntrinsic g) = Integer
kind_applied c x _ = kind_of c x

-- the type of an expression of a sound unit
abbrev pub kind_in : Context → Formula → Kind
kind_in c (Int z) = Integer
kind_in c (Truth b) = Logical
kind_in c (Letter l) = Integer
kind_in c (Ref x) = kind_of c x
kind_in c (Item x es) = kind_applied c x (sort_of c x)
kind_in c (Group a) = kind_in c a
kind_in c (Plus a) = Integer
kind_in c (Minus a) = Integer
kind_in c (Not a) = Logical
kind_in c (Pair op a b) = if is_arithmetic op then Integer else Logical

abbrev pub same_kind : Kind → Kind → Bool
same_kind Integer Integer = true
same_kind Logical Logical = true
same_kind _ _ = false

-- an array, an element of one, or another expression
pub data Shape : Type 0 where
  AWhole : Shape
  AnElement : Shape
  AScalar : Shape

abbrev pub shape_applied : Sort → Shape
shape_applied (AnArray ns) = AnElement
shape_applied _ = AScalar

abbrev pub shape_alone : Sort → Shape
shape_alone (AnArray ns) = AWhole
shape_alone _ = AScalar

abbrev pub shape_of : Context → Formula → Shape
shape_of c (Ref x) = shape_alone (sort_of c x)
shape_of c (Item x es) = shape_applied (sort_of c x)
shape_of c _ = AScalar

-- a dummy array takes an array or an element, another dummy one value or its place
abbrev pub takes_shape : Bool → Shape → Bool
takes_shape true AScalar = false
takes_shape true _ = true
takes_shape false AWhole = false
takes_shape false _ = true

-- the actual e in the unit of c agrees with the dummy d in the unit of b
abbrev pub agrees : Context → Formula → Context → Text → Bool
agrees c e b d = same_kind (kind_in c e) (kind_of b d) && takes_shape (is_array (sort_of b d)) (shape_of c e)

-- pairwise, up to the end of the shorter list
abbrev pub agree_all : Context → Formulas → Context → List Text → Bool
agree_all c (AndFormula e es) b (d ∷ ds) = agrees c e b d && agree_all c es b ds
agree_all c _ b _ = true

abbrev pub many : Formulas → ℕ
many NoFormula = 0
many (AndFormula e es) = suc (many es)

-- a CALL calls a subroutine, and a reference a function of the type that the name has where it is referred to
abbrev pub fits_header : Context → Call → Context → Bool
fits_header c k b = elim b.header [
  | SubUnit x ds ↦ k.by_call
  | FuncUnit t x ds ↦ not k.by_call && same_kind (kind_of c k.name) (kind_of b x)
  | _ ↦ false
]

abbrev pub clashes : Context → Call → Routine → Bool
clashes c k r = not (fits_header c k (context_of r)) || not (agree_all c k.actuals (context_of r) (dummies_of r.header))

abbrev pub miscounts : Call → Routine → Bool
miscounts k r = not (many k.actuals == length (dummies_of r.header))

-- a call in the unit u of the program leads to the unit v
pub record Leads (rs : List Routine) (u v : ℕ) : Type 0 where
  pub unit : Routine
  pub line : Line
  pub call : Call
  pub here : slice_get rs u ≡ Some unit
  pub stands : Contains unit.lines line
  pub called : Contains (calls_in (context_of unit) line.act) call
  pub to : unit_named call.name rs ≡ Some v

-- one call or more lead from u to v
pub data Reaches (rs : List Routine) : ℕ → ℕ → Type 0 where
  at_once : {u v : ℕ} → Leads rs u v → Reaches rs u v
  further : {u v w : ℕ} → Leads rs u v → Reaches rs v w → Reaches rs u w
