-- No value of an expression is lost, where no call is.
use Rattle.std.proofs.Common.{ℕ, zero, suc, Bool, true, false, List, Option, None, Some}
use Rattle.std.specs.Prelude.{⊤, pos}
use Rattle.ground.specs.declared.place.Place.{Place}
use Rattle.ground.specs.declared.value.Kind.{Kind}
use Rattle.ground.specs.declared.value.Kind.TheVariants.{Integer}
use Rattle.ground.specs.Content.{Content, Nothing, Whole}
use Rattle.f66_tree.specs.declared.expression.Operator.TheVariants.{Add, Sub}
use Rattle.f66_tree.specs.Evaluation.{asked, operate, opposite, denied, same_whole, truth_in, intrinsic}
use Rattle.efl_program.specs.Places.{places, elements_before, sort_of, kind_of}
use Rattle.f66_tree.specs.World.{World, Ended, GoesOn, Lost, Out, Gives, Halts, bind, Try, Yields, Traps, Fails, settle, choose, counted, holding, put_in}
use Rattle.efl_program.specs.Typed.{Sort, Op, Plain, AndThen, OrElse, Expr, Int, Truth, At, Call, Known, Group, Plus, Minus, Not, Up, Down, Pair, Assign, Exprs, NoExpr, AndExpr, Site, Variable, Member, Overlay}
use Rattle.efl_program.specs.Setting.{Spot, Setting, Frame, base, moved, held, stored, store_at}
use Rattle.efl_program.specs.Values.{Reached, settles, combine, keeping, changes, assigned, placed, placed_first, elements, value_of, values_of, subscripts_of, reach, spot_of, spots_of, names_place, actual_of, asks}
use Rattle.efl_program.specs.Scoped.{Down_in, Down_all, Down_at}

-- a part of a run is not lost, and P holds of its result
abbrev pub KeptBy : {A : Type 0} → (A → Type 0) → Out A → Type 0
KeptBy P (Gives a w) = P a
KeptBy P (Halts (Ended e) w) = ⊤
KeptBy P (Halts GoesOn w) = ⊤
KeptBy P (Halts Lost w) = ⊥

pub record Kept {A : Type 0} (P : A → Type 0) (o : Out A) : Type 0 where
  pub by : KeptBy P o

abbrev pub Any : {A : Type 0} → A → Type 0
Any a = ⊤

pub kept_bind : {A B : Type 0} {P : A → Type 0} {Q : B → Type 0} (o : Out A) {go : A → World → Out B} → Kept P o → ((a : A) (w : World) → P a → Kept Q (go a w)) → Kept Q (bind o go)
kept_bind (Gives a w) h k = k a w h.by
kept_bind (Halts (Ended e) w) h k = record { by = tt }
kept_bind (Halts GoesOn w) h k = record { by = tt }
kept_bind (Halts Lost w) h k = absurd h.by

pub kept_settle : {A : Type 0} (p : Place) (w : World) (o : Try A) → Kept Any (settle p o w)
kept_settle p w (Yields a) = record { by = tt }
kept_settle p w (Traps t) = record { by = tt }
kept_settle p w Fails = record { by = tt }

pub kept_gives : {A : Type 0} {a : A} {w : World} → Kept Any (Gives a w)
kept_gives = record { by = tt }

pub kept_choice : {A : Type 0} (b : Bool) {x y : Out A} → Kept Any x → Kept Any y → Kept Any (choose b x y)
kept_choice true h k = h
kept_choice false h k = k

-- whatever the first part gives
pub kept_then : {A B : Type 0} {o : Out A} {go : A → World → Out B} → Kept Any o → ((a : A) (w : World) → Kept Any (go a w)) → Kept Any (bind o go)
kept_then {o = o} h k = kept_bind o h (λ a w _. k a w)

module _ (s : Setting) (D : ℕ → Type 0) (calls : (v : ℕ) → D v → (ps : List Spot) (w : World) → Kept Any (s.call v ps w)) (f : Frame) where
  combine_kept : (op : Op) (a : Content) (R : World → Out Content) → ((w : World) → Kept Any (R w)) → (w : World) → Kept Any (combine s f op a R w)
  combine_kept (Plain op) a R h w = kept_then (h w) (λ b u. kept_settle f.place _ (operate op a b))
  combine_kept AndThen a R h w = kept_then (kept_settle f.place _ (truth_in a)) (λ t u. kept_choice (settles AndThen t) kept_gives (kept_then (h u) (λ b u1. kept_then (kept_settle f.place _ (truth_in b)) (λ c u2. kept_gives))))
  combine_kept OrElse a R h w = kept_then (kept_settle f.place _ (truth_in a)) (λ t u. kept_choice (settles OrElse t) kept_gives (kept_then (h u) (λ b u1. kept_then (kept_settle f.place _ (truth_in b)) (λ c u2. kept_gives))))

  store_kept : (p : Spot) (v : Content) (w : World) → Kept Any (store_at s f p v w)
  store_kept p v w = kept_then (kept_settle f.place _ (stored s.linked p v w.state.store)) (λ st u. kept_gives)

  keeping_kept : (p : Spot) (v : Content) (w : World) → Kept Any (keeping s f p v w)
  keeping_kept p v w = kept_then (store_kept p v w) (λ _ u. kept_gives)

  changes_kept : (k : Kind) (op : Op) (p : Spot) (R : World → Out Content) → ((w : World) → Kept Any (R w)) → (w : World) → Kept Any (changes s f k op p R w)
  changes_kept k op p R h w = kept_then (kept_settle f.place _ (asked k (held s.linked p w.state.store))) (λ a u. kept_then (combine_kept op a R h u) (λ v u1. keeping_kept p v u1))

  assigned_kept : (k : Kind) (o : Option Op) (p : Spot) (R : World → Out Content) → ((w : World) → Kept Any (R w)) → (w : World) → Kept Any (assigned s f k o p R w)
  assigned_kept k None p R h w = kept_then (h w) (λ v u. keeping_kept p v u)
  assigned_kept k (Some op) p R h w = changes_kept k op p R h w

  placed_kept : (r : Reached) (w : World) → Kept Any (placed s f r w)
  placed_kept r w = kept_settle f.place _ (moved s.linked r.from r.on)

  first_kept : (n : ℕ) (r : Reached) (w : World) → Kept Any (placed_first s f n r w)
  first_kept zero r w = kept_gives
  first_kept (suc n) r w = placed_kept r w

  elements_kept : (o : Sort) (es : Exprs) (vs : List Content) (w : World) → Kept Any (elements s f o es vs w)
  elements_kept o NoExpr vs w = kept_gives
  elements_kept o (AndExpr e es) vs w = kept_settle f.place _ (elements_before o vs)

  actual_kept : (b : Bool) (x : World → Out Spot) (y : World → Out Content) (w : World) → Kept Any (x w) → Kept Any (y w) → Kept Any (actual_of b x y w)
  actual_kept true x y w h k = h
  actual_kept false x y w h k = kept_then k (λ v u. kept_gives)

  mutual
    pub value_kept : (e : Expr) → Down_in D e → (w : World) → Kept Any (value_of s f e w)
    value_kept (Int z) ok w = kept_gives
    value_kept (Truth b) ok w = kept_gives
    value_kept (At x) ok w = kept_then (reach_kept x ok w) (λ r u. kept_then (placed_kept r u) (λ p u1. kept_settle f.place _ (asked (kind_of (sort_of x)) (held s.linked p u1.state.store))))
    value_kept (Call v k es) ok w = kept_then (spots_kept es ok.1 (counted w)) (λ ps u. kept_then (calls v ok.0 ps (holding (put_in (s.linked.result v) Nothing u.state.store) u)) (λ _ u1. kept_settle f.place _ (asked k (u1.state.store (s.linked.result v)))))
    value_kept (Known g es) ok w = kept_then (values_kept es ok (counted w)) (λ vs u. kept_settle f.place _ (intrinsic g vs))
    value_kept (Group a) ok w = value_kept a ok (counted w)
    value_kept (Plus a) ok w = kept_then (value_kept a ok (counted w)) (λ v u. kept_settle f.place _ (same_whole v))
    value_kept (Minus a) ok w = kept_then (value_kept a ok (counted w)) (λ v u. kept_settle f.place _ (opposite v))
    value_kept (Not a) ok w = kept_then (value_kept a ok (counted w)) (λ v u. kept_settle f.place _ (denied v))
    value_kept (Up x) ok w = kept_then (reach_kept x ok (counted w)) (λ r u. kept_then (placed_kept r u) (λ p u1. changes_kept Integer (Plain Add) p (λ w3. Gives (Whole (pos 1)) w3) (λ w3. kept_gives) u1))
    value_kept (Down x) ok w = kept_then (reach_kept x ok (counted w)) (λ r u. kept_then (placed_kept r u) (λ p u1. changes_kept Integer (Plain Sub) p (λ w3. Gives (Whole (pos 1)) w3) (λ w3. kept_gives) u1))
    value_kept (Pair op a b) ok w = kept_then (value_kept a ok.0 (counted w)) (λ v u. combine_kept op v (value_of s f b) (value_kept b ok.1) u)
    value_kept (Assign op x e) ok w = kept_then (reach_kept x ok.0 (counted w)) (λ r u. kept_then (placed_kept r u) (λ p u1. assigned_kept (kind_of (sort_of x)) op p (value_of s f e) (value_kept e ok.1) u1))

    values_kept : (es : Exprs) → Down_all D es → (w : World) → Kept Any (values_of s f es w)
    values_kept NoExpr ok w = kept_gives
    values_kept (AndExpr e es) ok w = kept_then (value_kept e ok.0 (counted w)) (λ v u. kept_then (values_kept es ok.1 u) (λ vs u1. kept_gives))

    subscripts_kept : (es : Exprs) → Down_all D es → (w : World) → Kept Any (subscripts_of s f es w)
    subscripts_kept NoExpr ok w = kept_gives
    subscripts_kept (AndExpr e es) ok w = kept_then (value_kept e ok.0 w) (λ v u. kept_then (subscripts_kept es ok.1 u) (λ vs u1. kept_gives))

    pub reach_kept : (x : Site) → Down_at D x → (w : World) → Kept Any (reach s f x w)
    reach_kept (Variable v o es) ok w = kept_then (kept_settle f.place _ (base s f v)) (λ p u. kept_then (subscripts_kept es ok u) (λ vs u1. kept_then (elements_kept o es vs u1) (λ n u2. kept_gives)))
    reach_kept (Member x m o es) ok w = kept_then (reach_kept x ok.0 (counted w)) (λ r u. kept_then (subscripts_kept es ok.1 u) (λ vs u1. kept_then (elements_kept o es vs u1) (λ n u2. kept_gives)))
    reach_kept (Overlay x o) ok w = reach_kept x ok (counted w)

    spot_kept : (e : Expr) → Down_in D e → (w : World) → Kept Any (spot_of s f e w)
    spot_kept (At x) ok w = kept_then (reach_kept x ok w) (λ r u. first_kept (places (sort_of x)) r u)
    spot_kept e ok w = record { by = tt }

    pub spots_kept : (es : Exprs) → Down_all D es → (w : World) → Kept Any (spots_of s f es w)
    spots_kept NoExpr ok w = kept_gives
    spots_kept (AndExpr e es) ok w = kept_then (actual_kept (names_place e) (spot_of s f e) (value_of s f e) (counted w) (spot_kept e ok.0 (counted w)) (value_kept e ok.0 (counted w))) (λ p u. kept_then (spots_kept es ok.1 u) (λ ps u1. kept_gives))

  pub asks_kept : (e : Expr) → Down_in D e → (w : World) → Kept Any (asks s f e w)
  asks_kept e ok w = kept_then (value_kept e ok w) (λ v u. kept_settle f.place _ (truth_in v))
