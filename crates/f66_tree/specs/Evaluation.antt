-- Values of expressions, places and arguments (X3.9-1966, sections 5.1.3, 6, 8.2 and 8.3). Operands are evaluated from left
-- to right, all of them; of subscripts first the values in order, then adjustable dimensions, then the tests, then the read.
use Rattle.std.specs.Prelude.{ℕ, zero, suc, ◌+◌, ◌*◌, ℤ, pos, ◌-ℤ◌, neg_ℤ, unsigned_abs, int_lt, int_le, nat_lt, Bool, true, false, not, ◌&&◌, ◌||◌, List, [], ◌∷◌, Option, Some, None, Result, Ok, Err, codes, if◌then◌else◌, ⊤}
use Rattle.std.specs.Str.{bytes_eq}
use Rattle.ground.specs.declared.trap.Trap.{Trap}
use Rattle.ground.specs.declared.trap.Trap.TheVariants.{Subscript, Undefined, ValueArgument}
use Rattle.ground.specs.declared.value.Kind.{Kind}
use Rattle.ground.specs.declared.value.Kind.TheVariants.{Integer, Logical}
use Rattle.ground.specs.Content.{Content, Nothing, Whole, Truth}
use Rattle.ground.specs.Arithmetic.{sum, difference, product, quotient, remainder, power}
use Rattle.f66_tree.specs.declared.expression.Operator.{Operator}
use Rattle.f66_tree.specs.declared.expression.Operator.TheVariants.{Add, Sub, Mul, Div, Power, Lt, Le, Eq, Ne, Ge, Gt, And, Or}
use Rattle.f66_tree.specs.Syntax.{Text, Formula, Int, Letter, Ref, Item, Group, Plus, Minus, Not, Pair, Formulas, NoFormula, AndFormula, Par, Constant, Named}
use Rattle.f66_tree.specs.World.{Store, put_in, World, Ended, Wrong, Out, Gives, Halts, bind, Try, Yields, Traps, Fails, then_try, settle, holding}
use Rattle.f66_tree.specs.Units.{Context, dummies_of, position, sizes_of, kind_of, places_of, Spot, Held, Lent, Linkage, Setting, Frame, around}
use Rattle.f66_tree.specs.Syntax as f66

abbrev pub whole : Result ℤ Trap → Try Content
whole (Ok z) = Yields (Whole z)
whole (Err t) = Traps t

abbrev pub on_whole : Operator → ℤ → ℤ → Try Content
on_whole Add a b = whole (sum a b)
on_whole Sub a b = whole (difference a b)
on_whole Mul a b = whole (product a b)
on_whole Div a b = whole (quotient a b)
on_whole Power a b = whole (power a b)
on_whole Lt a b = Yields (Truth (int_lt a b))
on_whole Le a b = Yields (Truth (int_le a b))
on_whole Eq a b = Yields (Truth (int_le a b && int_le b a))
on_whole Ne a b = Yields (Truth (int_lt a b || int_lt b a))
on_whole Ge a b = Yields (Truth (int_le b a))
on_whole Gt a b = Yields (Truth (int_lt b a))
on_whole And a b = Fails
on_whole Or a b = Fails

abbrev pub on_truth : Operator → Bool → Bool → Try Content
on_truth And a b = Yields (Truth (a && b))
on_truth Or a b = Yields (Truth (a || b))
on_truth _ a b = Fails

-- an operator with two values
abbrev pub operate : Operator → Content → Content → Try Content
operate op (Whole a) (Whole b) = on_whole op a b
operate op (Truth a) (Truth b) = on_truth op a b
operate op _ _ = Fails

abbrev pub whole_in : Content → Try ℤ
whole_in (Whole z) = Yields z
whole_in _ = Fails

abbrev pub truth_in : Content → Try Bool
truth_in (Truth b) = Yields b
truth_in _ = Fails

abbrev pub opposite : Content → Try Content
opposite (Whole z) = Yields (Whole (neg_ℤ z))
opposite _ = Fails

abbrev pub denied : Content → Try Content
denied (Truth b) = Yields (Truth (not b))
denied _ = Fails

abbrev pub same_whole : Content → Try Content
same_whole (Whole z) = Yields (Whole z)
same_whole _ = Fails

-- the intrinsic functions of integers: IABS, MOD, ISIGN, IDIM, MAX0 and MIN0 (section 8.2)
pub data Intrinsic : Type 0 where
  Iabs : Intrinsic
  Mod : Intrinsic
  Isign : Intrinsic
  Idim : Intrinsic
  Max0 : Intrinsic
  Min0 : Intrinsic

-- the magnitude of the first with the sign of the second, of which zero has none
abbrev pub with_sign : ℤ → ℤ → ℤ
with_sign a b = if int_lt b (pos 0) then neg_ℤ (pos (unsigned_abs a)) else pos (unsigned_abs a)

-- the first less the second, or zero where that is less
abbrev pub excess : ℤ → ℤ → Try Content
excess a b = if int_lt b a then whole (difference a b) else Yields (Whole (pos 0))

abbrev pub farthest : (ℤ → ℤ → Bool) → ℤ → List Content → Try Content
farthest beats a [] = Yields (Whole a)
farthest beats a (Whole b ∷ bs) = if beats b a then farthest beats b bs else farthest beats a bs
farthest beats a _ = Fails

abbrev pub intrinsic : Intrinsic → List Content → Try Content
intrinsic Iabs (Whole a ∷ []) = Yields (Whole (pos (unsigned_abs a)))
intrinsic Mod (Whole a ∷ Whole b ∷ []) = whole (remainder a b)
intrinsic Isign (Whole a ∷ Whole b ∷ []) = Yields (Whole (with_sign a b))
intrinsic Idim (Whole a ∷ Whole b ∷ []) = excess a b
intrinsic Max0 (Whole a ∷ as') = farthest (λ b c. int_lt c b) a as'
intrinsic Min0 (Whole a ∷ as') = farthest (λ b c. int_lt b c) a as'
intrinsic _ _ = Fails

-- what a name with arguments is
pub data Sort : Type 0 where
  AnArray : List Par → Sort
  AnIntrinsic : Intrinsic → Sort
  AFunction : Sort

abbrev pub known : List (Text × Intrinsic) → Text → Sort
known [] x = AFunction
known (e ∷ es) x = if bytes_eq e.0 x then AnIntrinsic e.1 else known es x

abbrev pub intrinsics : List (Text × Intrinsic)
intrinsics =
    (codes "IABS", Iabs) ∷ (codes "MOD", Mod) ∷ (codes "ISIGN", Isign) ∷ (codes "IDIM", Idim) ∷ (codes "MAX0", Max0) ∷ (codes "MIN0", Min0) ∷ []

abbrev pub array_or : List Par → Text → Sort
array_or [] x = known intrinsics x
array_or (n ∷ ns) x = AnArray (n ∷ ns)

abbrev pub sort_of : Context → Text → Sort
sort_of c x = array_or (sizes_of x c.notes) x

-- the places of a name in its unit: a dummy's are its actual's
abbrev pub given : ℕ → List Spot → Try Spot
given i [] = Fails
given zero (p ∷ ps) = Yields p
given (suc i) (p ∷ ps) = given i ps

abbrev pub base_by : Option ℕ → ℕ → List Spot → Text → Try Spot
base_by None u ps x = Yields (Held u x 0)
base_by (Some i) u ps x = given i ps

abbrev pub base : Setting → Frame → Text → Try Spot
base s f x = base_by (position x (dummies_of (around s f).header)) f.unit f.actuals x

abbrev pub ticked : Setting → World → World
ticked s w = record { state = w.state; left = w.left; count = s.tick w.count }

-- what a place holds, and what it gives where a content of a type is asked for
abbrev pub held : Linkage → Spot → Store → Content
held l (Held u x o) st = st (l.number u x o)
held l (Lent c) st = c

abbrev pub asked : Kind → Content → Try Content
asked Integer (Whole z) = Yields (Whole z)
asked Logical (Truth b) = Yields (Truth b)
asked _ _ = Traps Undefined

abbrev pub load : Setting → Frame → Kind → Spot → World → Out Content
load s f kind p w = settle f.place (asked kind (held s.linked p w.state.store)) w

abbrev pub stored : Linkage → Spot → Content → Store → Try Store
stored l (Held u x o) v st = Yields (put_in (l.number u x o) v st)
stored l (Lent c) v st = Traps ValueArgument

abbrev pub store_at : Setting → Frame → Spot → Content → World → Out ⊤
store_at s f p v w = bind (settle f.place (stored s.linked p v w.state.store) w) (λ st w1. Gives tt (holding st w1))

abbrev pub variable_in : Setting → Frame → Text → World → Out Content
variable_in s f x w = bind (settle f.place (base s f x) w) (λ p w1. load s f (kind_of (around s f) x) p w1)

abbrev pub par_in : Setting → Frame → Par → World → Out Content
par_in s f (Constant z) w = Gives (Whole z) w
par_in s f (Named x) w = variable_in s f x w

abbrev pub pars_in : Setting → Frame → List Par → World → Out (List Content)
pars_in s f [] w = Gives [] w
pars_in s f (n ∷ ns) w = bind (par_in s f n w) (λ v w1. bind (pars_in s f ns w1) (λ vs w2. Gives (v ∷ vs) w2))

-- how far an element is from the first one: the first subscript goes fastest
abbrev pub distance : ℕ → List Content → List Content → Try ℕ
distance m [] [] = Yields 0
distance m (Whole i ∷ is') (Whole d ∷ ds) =
    if int_le (pos 1) i && int_le i d then then_try (distance (m * unsigned_abs d) is' ds) (λ n. Yields (unsigned_abs (i -ℤ pos 1) * m + n)) else Traps Subscript
distance m _ _ = Fails

abbrev pub moved : Linkage → Spot → ℕ → Try Spot
moved l (Held u x o) n = if nat_lt (o + n) (places_of (sizes_of x (l.context u).notes)) then Yields (Held u x (o + n)) else Traps Subscript
moved l (Lent c) zero = Yields (Lent c)
moved l (Lent c) (suc n) = Traps Subscript

-- an element: its array's place, its subscripts, its dimensions, and the tests
abbrev pub element : Setting → Frame → Text → List Par → (World → Out (List Content)) → World → Out Spot
element s f x ns subscripts w =
    bind (settle f.place (base s f x) w) (λ p w1. bind (subscripts w1) (λ is' w2. bind (pars_in s f ns w2) (λ ds w3.
    bind (settle f.place (distance 1 is' ds) w3) (λ n w4. settle f.place (moved s.linked p n) w4))))

-- a function is called: its name is undefined at first, and its value is read at the end
abbrev pub called : Setting → Frame → Text → Option ℕ → (World → Out (List Spot)) → World → Out Content
called s f x None spots w = Halts (Ended Wrong) w
called s f x (Some v) spots w =
    bind (spots w) (λ ps w1. bind (s.call v ps (holding (put_in (s.linked.number v x 0) Nothing w1.state.store) w1)) (λ _ w2. load s f (kind_of (around s f) x) (Held v x 0) w2))

abbrev pub referred : Setting → Frame → Text → Sort → (World → Out (List Content)) → (World → Out (List Spot)) → World → Out Content
referred s f x (AnArray ns) vals spots w = bind (element s f x ns vals w) (λ p w1. load s f (kind_of (around s f) x) p w1)
referred s f x (AnIntrinsic g) vals spots w = bind (vals w) (λ vs w1. settle f.place (intrinsic g vs) w1)
referred s f x AFunction vals spots w = called s f x (s.linked.find x) spots w

-- the place that an expression names, where it names one
abbrev pub place_by : Setting → Frame → Text → Sort → (World → Out (List Content)) → World → Out Spot
place_by s f x (AnArray ns) vals w = element s f x ns vals w
place_by s f x _ vals w = Halts (Ended Wrong) w

abbrev pub place_of : Setting → Frame → Formula → (World → Out (List Content)) → World → Out Spot
place_of s f (Ref x) vals w = settle f.place (base s f x) (ticked s w)
place_of s f (Item x es) vals w = place_by s f x (sort_of (around s f) x) vals (ticked s w)
place_of s f _ vals w = Halts (Ended Wrong) w

abbrev pub is_array : Sort → Bool
is_array (AnArray ns) = true
is_array _ = false

abbrev pub names_place : Context → Formula → Bool
names_place c (Ref x) = true
names_place c (Item x es) = is_array (sort_of c x)
names_place c _ = false

-- an actual: a place is associated, and anything else is a value
abbrev pub actual_of : Bool → (World → Out Spot) → (World → Out Content) → World → Out Spot
actual_of true place val w = place w
actual_of false place val w = bind (val w) (λ v w1. Gives (Lent v) w1)

abbrev pub by_operator : Setting → Frame → Operator → Out Content → (World → Out Content) → Out Content
by_operator s f op a b = bind a (λ x w1. bind (b w1) (λ y w2. settle f.place (operate op x y) w2))

abbrev pub by_sign : Setting → Frame → (Content → Try Content) → Out Content → Out Content
by_sign s f op a = bind a (λ x w1. settle f.place (op x) w1)

-- the value of an expression; the values of several; the subscripts that an expression has; and actuals
abbrev mutual
  pub value_of : Setting → Frame → Formula → World → Out Content
  value_of s f (Int z) w = Gives (Whole z) (ticked s w)
  value_of s f (f66.Truth b) w = Gives (Truth b) (ticked s w)
  value_of s f (Letter c) w = Gives (Whole (pos c)) (ticked s w)
  value_of s f (Ref x) w = variable_in s f x (ticked s w)
  value_of s f (Item x es) w = referred s f x (sort_of (around s f) x) (values_of s f es) (spots_of s f es) (ticked s w)
  value_of s f (Group a) w = value_of s f a (ticked s w)
  value_of s f (Plus a) w = by_sign s f same_whole (value_of s f a (ticked s w))
  value_of s f (Minus a) w = by_sign s f opposite (value_of s f a (ticked s w))
  value_of s f (Not a) w = by_sign s f denied (value_of s f a (ticked s w))
  value_of s f (Pair op a b) w = by_operator s f op (value_of s f a (ticked s w)) (value_of s f b)

  pub values_of : Setting → Frame → Formulas → World → Out (List Content)
  values_of s f NoFormula w = Gives [] w
  values_of s f (AndFormula e es) w = bind (value_of s f e w) (λ v w1. bind (values_of s f es w1) (λ vs w2. Gives (v ∷ vs) w2))

  pub subscripts_of : Setting → Frame → Formula → World → Out (List Content)
  subscripts_of s f (Item x es) w = values_of s f es w
  subscripts_of s f _ w = Gives [] w

  pub spots_of : Setting → Frame → Formulas → World → Out (List Spot)
  spots_of s f NoFormula w = Gives [] w
  spots_of s f (AndFormula e es) w =
      bind (actual_of (names_place (around s f) e) (place_of s f e (subscripts_of s f e)) (value_of s f e) (ticked s w)) (λ p w1. bind (spots_of s f es w1) (λ ps w2. Gives (p ∷ ps) w2))

-- where a left side, an item, or an associated actual is
abbrev pub locate : Setting → Frame → Formula → World → Out Spot
locate s f e w = place_of s f e (subscripts_of s f e) w

-- a condition
abbrev pub asks : Setting → Frame → Formula → World → Out Bool
asks s f e w = bind (value_of s f e w) (λ v w1. settle f.place (truth_in v) w1)
