-- One induction for all relations between two runs of the same expressions: what holds of results and ends, and is kept where one part
-- follows another, holds of every value and place. On both sides the linkage is the same; what a call does may differ, and so
-- may the places of statements, as At says.
use Rattle.std.proofs.Common.{ℕ, zero, suc, ◌+◌, ◌<◌, Bool, true, false, List, [], ◌∷◌, Option, Some, None}
use Rattle.std.specs.Prelude.{⊤, pos}
use Rattle.ground.specs.declared.place.Place.{Place}
use Rattle.ground.specs.declared.trap.Trap.{Trap}
use Rattle.ground.specs.declared.trap.Trap.TheVariants.{ValueArgument}
use Rattle.ground.specs.declared.value.Kind.{Kind}
use Rattle.ground.specs.declared.value.Kind.TheVariants.{Integer}
use Rattle.ground.specs.Content.{Content, Nothing, Whole, Truth}
use Rattle.f66_tree.specs.declared.expression.Operator.TheVariants.{Add, Sub}
use Rattle.f66_tree.specs.World.{Store, put_in, Tape, World, Trapped, Wrong, End, Ended, GoesOn, Out, Gives, Halts, bind, Try, Yields, Traps, Fails, Move, settle, choose, counted, holding}
use Rattle.f66_tree.specs.Evaluation.{asked, operate, opposite, denied, same_whole, truth_in, intrinsic}
use Rattle.f66_tree.specs.Statements.{taped, taken_content}
use Rattle.f66_tree.proofs.Related.{IsStep, IsTake}
use Rattle.efl_program.specs.Typed as typed
use Rattle.efl_program.specs.Typed.{Sort, Op, Plain, AndThen, OrElse, Expr, Int, At, Call, Known, Group, Plus, Minus, Not, Up, Down, Pair, Assign, Exprs, NoExpr, AndExpr, Site, Variable, Member, Overlay}
use Rattle.efl_program.specs.Places.{places, before, elements_before, sort_of, kind_of, members_of}
use Rattle.efl_program.specs.Setting.{Spot, Held, Lent, Linkage, Setting, Frame, base, onward, moved, held, load, store_at}
use Rattle.efl_program.specs.Values.{Reached, settles, combine, keeping, changes, assigned, called, placed, placed_first, elements, names_place, actual_of, value_of, values_of, subscripts_of, reach, spot_of, spots_of, asks}

abbrev pub Relation : Type 1
Relation = (A : Type 0) → (World → Out A) → (World → Out A) → Type 0

-- What a relation must have: e is by how much the bound of the second side is greater.
pub record Holds (At' : Place → Place → Type 0) (call1 call2 : ℕ → List Spot → World → Out ⊤) (e : ℕ) (R : Relation) : Type 1 where
  pub gives : {A : Type 0} → (a : A) → R A (λ w. Gives a w) (λ w. Gives a w)
  pub halts : {A : Type 0} → (end : End) → R A (λ w. Halts end w) (λ w. Halts end w)
  pub traps : {A : Type 0} → (t : Trap) (p q : Place) → At' p q → R A (λ w. Halts (Ended (Trapped t p)) w) (λ w. Halts (Ended (Trapped t q)) w)
  pub thens : {A B : Type 0} {m1 m2 : World → Out A} {g1 g2 : A → World → Out B} → R A m1 m2 → ((a : A) → R B (g1 a) (g2 a)) → R B (λ w. bind (m1 w) g1) (λ w. bind (m2 w) g2)
  pub counts : {A : Type 0} {m1 m2 : World → Out A} → R A m1 m2 → R A (λ w. m1 (counted w)) (λ w. m2 (counted w))
  pub fills : {A : Type 0} {m1 m2 : World → Out A} → (n : ℕ) (c : Content) → R A m1 m2 → R A (λ w. m1 (holding (put_in n c w.state.store) w)) (λ w. m2 (holding (put_in n c w.state.store) w))
  pub reads : (p q : Place) → At' p q → (k : Kind) (h : Store → Content) → R Content (λ w. settle p (asked k (h w.state.store)) w) (λ w. settle q (asked k (h w.state.store)) w)
  pub tapes : (p q : Place) → At' p q → (h : Tape → Move) → IsStep h → R ⊤ (taped p h) (taped q h)
  pub takes : (p q : Place) → At' p q → (h : Tape → Try (Content × Tape)) → IsTake h → R Content (taken_content p h) (taken_content q h)
  -- the first side stops at its bound, where the second goes on
  pub stays : {A : Type 0} {m1 m2 : World → Out A} → 0 < e → R A m1 m2 → R A (λ w. Halts GoesOn w) m2
  pub calls : (v : ℕ) (ps : List Spot) → R ⊤ (call1 v ps) (call2 v ps)

module _ (l : Linkage) (At' : Place → Place → Type 0) (call1 call2 : ℕ → List Spot → World → Out ⊤) (e : ℕ) (R : Relation) (r : Holds At' call1 call2 e R) where
  abbrev s1 : Setting
  s1 = record { linked = l; call = call1 }

  abbrev s2 : Setting
  s2 = record { linked = l; call = call2 }

  pub settled : {A : Type 0} (p q : Place) → At' p q → (o : Try A) → R A (λ w. settle p o w) (λ w. settle q o w)
  settled p q at (Yields a) = r.gives a
  settled p q at (Traps t) = r.traps t p q at
  settled p q at Fails = r.halts (Ended Wrong)

  pub choice : {A : Type 0} {m1 m2 n1 n2 : World → Out A} → (v : Bool) → R A m1 m2 → R A n1 n2 → R A (λ w. choose v (m1 w) (n1 w)) (λ w. choose v (m2 w) (n2 w))
  choice true h k = h
  choice false h k = k

  -- one frame at two places
  module _ (unit : ℕ) (actuals : List Spot) (p q : Place) (at : At' p q) where
    abbrev f1 : Frame
    f1 = record { unit = unit; actuals = actuals; place = p }

    abbrev f2 : Frame
    f2 = record { unit = unit; actuals = actuals; place = q }

    settles_both : {A : Type 0} (o : Try A) → R A (λ w. settle p o w) (λ w. settle q o w)
    settles_both o = settled p q at o

    pub load_holds : (k : Kind) (x : Spot) → R Content (load s1 f1 k x) (load s2 f2 k x)
    load_holds k x = r.reads p q at k (held l x)

    pub store_holds : (x : Spot) (c : Content) → R ⊤ (store_at s1 f1 x c) (store_at s2 f2 x c)
    store_holds (Held v k) c = r.fills (l.number v k) c (r.gives tt)
    store_holds (Lent d) c = r.traps ValueArgument p q at

    combine_holds : (op : Op) (a : Content) {m1 m2 : World → Out Content} → R Content m1 m2 → R Content (combine s1 f1 op a m1) (combine s2 f2 op a m2)
    combine_holds (Plain op) a h = r.thens h (λ b. settles_both (operate op a b))
    combine_holds AndThen a h = r.thens (settles_both (truth_in a)) (λ t. choice (settles AndThen t) (r.gives (Truth t)) (r.thens h (λ b. r.thens (settles_both (truth_in b)) (λ u. r.gives (Truth u)))))
    combine_holds OrElse a h = r.thens (settles_both (truth_in a)) (λ t. choice (settles OrElse t) (r.gives (Truth t)) (r.thens h (λ b. r.thens (settles_both (truth_in b)) (λ u. r.gives (Truth u)))))

    keeping_holds : (x : Spot) (v : Content) → R Content (keeping s1 f1 x v) (keeping s2 f2 x v)
    keeping_holds x v = r.thens (store_holds x v) (λ _. r.gives v)

    changes_hold : (k : Kind) (op : Op) (x : Spot) {m1 m2 : World → Out Content} → R Content m1 m2 → R Content (changes s1 f1 k op x m1) (changes s2 f2 k op x m2)
    changes_hold k op x h = r.thens (load_holds k x) (λ a. r.thens (combine_holds op a h) (λ v. keeping_holds x v))

    assigned_holds : (k : Kind) (o : Option Op) (x : Spot) {m1 m2 : World → Out Content} → R Content m1 m2 → R Content (assigned s1 f1 k o x m1) (assigned s2 f2 k o x m2)
    assigned_holds k None x h = r.thens h (λ v. keeping_holds x v)
    assigned_holds k (Some op) x h = changes_hold k op x h

    called_holds : (v : ℕ) (k : Kind) (ps : List Spot) → R Content (called s1 f1 v k ps) (called s2 f2 v k ps)
    called_holds v k ps = r.thens (r.fills (l.result v) Nothing (r.calls v ps)) (λ _. r.reads p q at k (λ st. st (l.result v)))

    pub placed_holds : (x : Reached) → R Spot (placed s1 f1 x) (placed s2 f2 x)
    placed_holds x = settles_both (moved l x.from x.on)

    first_holds : (n : ℕ) (x : Reached) → R Spot (placed_first s1 f1 n x) (placed_first s2 f2 n x)
    first_holds zero x = r.gives (onward x.from x.on)
    first_holds (suc n) x = placed_holds x

    elements_hold : (o : Sort) (es : Exprs) (vs : List Content) → R ℕ (elements s1 f1 o es vs) (elements s2 f2 o es vs)
    elements_hold o NoExpr vs = r.gives 0
    elements_hold o (AndExpr x es) vs = settles_both (elements_before o vs)

    actual_holds : (v : Bool) {m1 m2 : World → Out Spot} {n1 n2 : World → Out Content} → R Spot m1 m2 → R Content n1 n2 → R Spot (actual_of v m1 n1) (actual_of v m2 n2)
    actual_holds true h k = h
    actual_holds false h k = r.thens k (λ v. r.gives (Lent v))

    one_more : R Content (λ w. Gives (Whole (pos 1)) w) (λ w. Gives (Whole (pos 1)) w)
    one_more = r.gives (Whole (pos 1))

    mutual
      pub value_holds : (x : Expr) → R Content (value_of s1 f1 x) (value_of s2 f2 x)
      value_holds (Int z) = r.counts (r.gives (Whole z))
      value_holds (typed.Truth b) = r.counts (r.gives (Truth b))
      value_holds (At x) = r.thens (reach_holds x) (λ y. r.thens (placed_holds y) (λ z. load_holds (kind_of (sort_of x)) z))
      value_holds (Call v k es) = r.thens (r.counts (spots_hold es)) (λ ps. called_holds v k ps)
      value_holds (Known g es) = r.thens (r.counts (values_hold es)) (λ vs. settles_both (intrinsic g vs))
      value_holds (Group a) = r.counts (value_holds a)
      value_holds (Plus a) = r.thens (r.counts (value_holds a)) (λ v. settles_both (same_whole v))
      value_holds (Minus a) = r.thens (r.counts (value_holds a)) (λ v. settles_both (opposite v))
      value_holds (Not a) = r.thens (r.counts (value_holds a)) (λ v. settles_both (denied v))
      value_holds (Up x) = r.thens (r.counts (reach_holds x)) (λ y. r.thens (placed_holds y) (λ z. changes_hold Integer (Plain Add) z one_more))
      value_holds (Down x) = r.thens (r.counts (reach_holds x)) (λ y. r.thens (placed_holds y) (λ z. changes_hold Integer (Plain Sub) z one_more))
      value_holds (Pair op a b) = r.thens (r.counts (value_holds a)) (λ v. combine_holds op v (value_holds b))
      value_holds (Assign op x a) = r.thens (r.counts (reach_holds x)) (λ y. r.thens (placed_holds y) (λ z. assigned_holds (kind_of (sort_of x)) op z (value_holds a)))

      values_hold : (es : Exprs) → R (List Content) (values_of s1 f1 es) (values_of s2 f2 es)
      values_hold NoExpr = r.gives []
      values_hold (AndExpr x es) = r.thens (r.counts (value_holds x)) (λ v. r.thens (values_hold es) (λ vs. r.gives (v ∷ vs)))

      subscripts_hold : (es : Exprs) → R (List Content) (subscripts_of s1 f1 es) (subscripts_of s2 f2 es)
      subscripts_hold NoExpr = r.gives []
      subscripts_hold (AndExpr x es) = r.thens (value_holds x) (λ v. r.thens (subscripts_hold es) (λ vs. r.gives (v ∷ vs)))

      pub reach_holds : (x : Site) → R Reached (reach s1 f1 x) (reach s2 f2 x)
      reach_holds (Variable v o es) =
          r.thens (r.counts (settles_both (base s1 f1 v))) (λ a. r.thens (subscripts_hold es) (λ vs. r.thens (elements_hold o es vs) (λ n. r.gives (record { from = a; on = n }))))
      reach_holds (Member x m o es) =
          r.thens (r.counts (reach_holds x)) (λ a. r.thens (subscripts_hold es) (λ vs. r.thens (elements_hold o es vs) (λ n. r.gives (record { from = a.from; on = a.on + before m (members_of (sort_of x)) + n }))))
      reach_holds (Overlay x o) = r.counts (reach_holds x)

      spot_holds : (x : Expr) → R Spot (spot_of s1 f1 x) (spot_of s2 f2 x)
      spot_holds (At x) = r.thens (reach_holds x) (λ a. first_holds (places (sort_of x)) a)
      spot_holds (Int z) = r.halts (Ended Wrong)
      spot_holds (typed.Truth b) = r.halts (Ended Wrong)
      spot_holds (Call v k es) = r.halts (Ended Wrong)
      spot_holds (Known g es) = r.halts (Ended Wrong)
      spot_holds (Group a) = r.halts (Ended Wrong)
      spot_holds (Plus a) = r.halts (Ended Wrong)
      spot_holds (Minus a) = r.halts (Ended Wrong)
      spot_holds (Not a) = r.halts (Ended Wrong)
      spot_holds (Up x) = r.halts (Ended Wrong)
      spot_holds (Down x) = r.halts (Ended Wrong)
      spot_holds (Pair op a b) = r.halts (Ended Wrong)
      spot_holds (Assign op x a) = r.halts (Ended Wrong)

      pub spots_hold : (es : Exprs) → R (List Spot) (spots_of s1 f1 es) (spots_of s2 f2 es)
      spots_hold NoExpr = r.gives []
      spots_hold (AndExpr x es) = r.thens (r.counts (actual_holds (names_place x) (spot_holds x) (value_holds x))) (λ v. r.thens (spots_hold es) (λ vs. r.gives (v ∷ vs)))

    pub asks_hold : (x : Expr) → R Bool (asks s1 f1 x) (asks s2 f2 x)
    asks_hold x = r.thens (value_holds x) (λ v. settles_both (truth_in v))
