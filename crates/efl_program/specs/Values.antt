-- The values of EFL's expressions, with what they change. Operands are evaluated from left to right, all of them but those
-- that `&&` and `||` skip. Each node, each part of a place and each argument adds one to the work.
use Rattle.std.specs.Prelude.{ℕ, zero, suc, ◌+◌, pos, Bool, true, false, List, [], ◌∷◌, Option, Some, None}
use Rattle.ground.specs.declared.value.Kind.{Kind}
use Rattle.ground.specs.declared.value.Kind.TheVariants.{Integer}
use Rattle.ground.specs.Content.{Content, Nothing, Whole, Truth}
use Rattle.f66_tree.specs.declared.expression.Operator.TheVariants.{Add, Sub}
use Rattle.f66_tree.specs.World.{put_in, World, Ended, Wrong, Out, Gives, Halts, bind, settle, choose, counted, holding}
use Rattle.f66_tree.specs.Evaluation.{asked, operate, opposite, denied, same_whole, truth_in, intrinsic}
use Rattle.efl_program.specs.Typed.{Sort, Op, Plain, AndThen, OrElse, Expr, Int, At, Call, Known, Group, Plus, Minus, Not, Up, Down, Pair, Assign, Exprs, NoExpr, AndExpr, Site, Variable, Member, Overlay}
use Rattle.efl_program.specs.Typed as typed
use Rattle.efl_program.specs.Places.{places, before, elements_before, sort_of, kind_of, members_of}
use Rattle.efl_program.specs.Setting.{Spot, Lent, Setting, Frame, base, onward, moved, load, store_at}

-- a place on the way to it: where its variable begins, and how far on it is; a structure that lies over a place goes on from there
pub record Reached : Type 0 where
  pub from : Spot
  pub on : ℕ

-- a sequential operator has its value without the right side
abbrev pub settles : Op → Bool → Bool
settles (Plain op) a = false
settles AndThen true = false
settles AndThen false = true
settles OrElse a = a

-- by the left value, and by what the right side gives
abbrev pub combine : Setting → Frame → Op → Content → (World → Out Content) → World → Out Content
combine s f (Plain op) a right w = bind (right w) (λ b w1. settle f.place (operate op a b) w1)
combine s f op a right w =
    bind (settle f.place (truth_in a) w) (λ t w1. choose (settles op t) (Gives (Truth t) w1) (bind (right w1) (λ b w2. bind (settle f.place (truth_in b) w2) (λ u w3. Gives (Truth u) w3))))

-- what was found by then is stored, and is the value
abbrev pub keeping : Setting → Frame → Spot → Content → World → Out Content
keeping s f p v w = bind (store_at s f p v w) (λ _ w1. Gives v w1)

-- a place is read; with what comes of its value it is stored
abbrev pub changes : Setting → Frame → Kind → Op → Spot → (World → Out Content) → World → Out Content
changes s f k op p right w = bind (load s f k p w) (λ a w1. bind (combine s f op a right w1) (λ v w2. keeping s f p v w2))

abbrev pub assigned : Setting → Frame → Kind → Option Op → Spot → (World → Out Content) → World → Out Content
assigned s f k None p right w = bind (right w) (λ v w1. keeping s f p v w1)
assigned s f k (Some op) p right w = changes s f k op p right w

-- a procedure is called: its value is undefined at first, and is read at the end
abbrev pub called : Setting → Frame → ℕ → Kind → List Spot → World → Out Content
called s f v k ps w =
    bind (s.call v ps (holding (put_in (s.linked.result v) Nothing w.state.store) w)) (λ _ w1. settle f.place (asked k (w1.state.store (s.linked.result v))) w1)

abbrev pub placed : Setting → Frame → Reached → World → Out Spot
placed s f r w = settle f.place (moved s.linked r.from r.on) w

-- an array or structure is associated by the first of its places, which is tested where it has one
abbrev pub placed_first : Setting → Frame → ℕ → Reached → World → Out Spot
placed_first s f zero r w = Gives (onward r.from r.on) w
placed_first s f (suc n) r w = placed s f r w

-- without subscripts a name is the whole array
abbrev pub elements : Setting → Frame → Sort → Exprs → List Content → World → Out ℕ
elements s f o NoExpr is' w = Gives 0 w
elements s f o (AndExpr e es) is' w = settle f.place (elements_before o is') w

-- an actual that is a place is associated, with the first one where it is no scalar; any other is a value
abbrev pub names_place : Expr → Bool
names_place (At x) = true
names_place _ = false

abbrev pub actual_of : Bool → (World → Out Spot) → (World → Out Content) → World → Out Spot
actual_of true place val w = place w
actual_of false place val w = bind (val w) (λ v w1. Gives (Lent v) w1)

abbrev mutual
  pub value_of : Setting → Frame → Expr → World → Out Content
  value_of s f (Int z) w = Gives (Whole z) (counted w)
  value_of s f (typed.Truth b) w = Gives (Truth b) (counted w)
  value_of s f (At x) w = bind (reach s f x w) (λ r w1. bind (placed s f r w1) (λ p w2. load s f (kind_of (sort_of x)) p w2))
  value_of s f (Call v k es) w = bind (spots_of s f es (counted w)) (λ ps w1. called s f v k ps w1)
  value_of s f (Known g es) w = bind (values_of s f es (counted w)) (λ vs w1. settle f.place (intrinsic g vs) w1)
  value_of s f (Group a) w = value_of s f a (counted w)
  value_of s f (Plus a) w = bind (value_of s f a (counted w)) (λ v w1. settle f.place (same_whole v) w1)
  value_of s f (Minus a) w = bind (value_of s f a (counted w)) (λ v w1. settle f.place (opposite v) w1)
  value_of s f (Not a) w = bind (value_of s f a (counted w)) (λ v w1. settle f.place (denied v) w1)
  value_of s f (Up x) w = bind (reach s f x (counted w)) (λ r w1. bind (placed s f r w1) (λ p w2. changes s f Integer (Plain Add) p (λ w3. Gives (Whole (pos 1)) w3) w2))
  value_of s f (Down x) w = bind (reach s f x (counted w)) (λ r w1. bind (placed s f r w1) (λ p w2. changes s f Integer (Plain Sub) p (λ w3. Gives (Whole (pos 1)) w3) w2))
  value_of s f (Pair op a b) w = bind (value_of s f a (counted w)) (λ v w1. combine s f op v (value_of s f b) w1)
  value_of s f (Assign op x e) w = bind (reach s f x (counted w)) (λ r w1. bind (placed s f r w1) (λ p w2. assigned s f (kind_of (sort_of x)) op p (value_of s f e) w2))

  pub values_of : Setting → Frame → Exprs → World → Out (List Content)
  values_of s f NoExpr w = Gives [] w
  values_of s f (AndExpr e es) w = bind (value_of s f e (counted w)) (λ v w1. bind (values_of s f es w1) (λ vs w2. Gives (v ∷ vs) w2))

  -- subscripts, which are parts of their place
  pub subscripts_of : Setting → Frame → Exprs → World → Out (List Content)
  subscripts_of s f NoExpr w = Gives [] w
  subscripts_of s f (AndExpr e es) w = bind (value_of s f e w) (λ v w1. bind (subscripts_of s f es w1) (λ vs w2. Gives (v ∷ vs) w2))

  -- part by part: of each the subscripts are found and then tested
  pub reach : Setting → Frame → Site → World → Out Reached
  reach s f (Variable v o es) w =
      bind (settle f.place (base s f v) (counted w)) (λ p w1. bind (subscripts_of s f es w1) (λ is' w2.
      bind (elements s f o es is' w2) (λ n w3. Gives (record { from = p; on = n }) w3)))
  reach s f (Member x m o es) w =
      bind (reach s f x (counted w)) (λ r w1. bind (subscripts_of s f es w1) (λ is' w2.
      bind (elements s f o es is' w2) (λ n w3. Gives (record { from = r.from; on = r.on + before m (members_of (sort_of x)) + n }) w3)))
  reach s f (Overlay x o) w = reach s f x (counted w)

  pub spot_of : Setting → Frame → Expr → World → Out Spot
  spot_of s f (At x) w = bind (reach s f x w) (λ r w1. placed_first s f (places (sort_of x)) r w1)
  spot_of s f _ w = Halts (Ended Wrong) w

  pub spots_of : Setting → Frame → Exprs → World → Out (List Spot)
  spots_of s f NoExpr w = Gives [] w
  spots_of s f (AndExpr e es) w = bind (actual_of (names_place e) (spot_of s f e) (value_of s f e) (counted w)) (λ p w1. bind (spots_of s f es w1) (λ ps w2. Gives (p ∷ ps) w2))

-- a condition
abbrev pub asks : Setting → Frame → Expr → World → Out Bool
asks s f e w = bind (value_of s f e w) (λ v w1. settle f.place (truth_in v) w1)
