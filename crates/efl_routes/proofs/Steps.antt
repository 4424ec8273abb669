-- What single routes of an expression do: a formula is put into a temporary or into a variable.
use Rattle.std.proofs.Common.{◌≡◌, ℕ, ◌<◌, refl, ap, ◌∙◌, subst, Result, Ok, Err}
use Rattle.std.specs.Prelude.{⊤, ℤ}
use Rattle.ground.specs.declared.place.Place.{Place}
use Rattle.ground.specs.declared.trap.Trap.{Trap}
use Rattle.ground.specs.declared.value.Kind.{Kind}
use Rattle.ground.specs.declared.value.Kind.TheVariants.{Integer, Logical}
use Rattle.ground.specs.Content.{Content, Nothing, Whole, Truth}
use Rattle.ground.specs.Arithmetic.{sum, difference, product, quotient, power}
use Rattle.f66_tree.specs.declared.expression.Operator.{Operator}
use Rattle.f66_tree.specs.declared.expression.Operator.TheVariants.{Add, Sub, Mul, Div, Power, Lt, Le, Eq, Ne, Ge, Gt, And, Or}
use Rattle.f66_tree.specs.Syntax.{Text, Formula, Ref}
use Rattle.f66_tree.specs.World.{Store, put_in, World, counted, holding, Out, Gives, Halts, bind, Try, Yields, IfYields, settle}
use Rattle.f66_tree.specs.Units.{kind_of, Spot, Held, Setting}
use Rattle.f66_tree.specs.Evaluation.{asked, base, base_by, load, store_at, operate, opposite, denied, same_whole, value_of, whole}
use Rattle.f66_tree.specs.Statements.{Normal}
use Rattle.f66_tree.proofs.Stores.{read_same}
use Rattle.routes.specs.Routes.{Routes, AndRoute}
use Rattle.routes.specs.Running.{then_do, course_of}
use Rattle.efl_routes.specs.Expressions.{sets, given_by}
use Rattle.efl_routes.proofs.Near.{Sides, Target, there, run, spare, Same, Says}

pub bind_assoc : {A B C : Type 0} (o : Out A) (h : A → World → Out B) (k : B → World → Out C) → bind (bind o h) k ≡ bind o (λ a w. bind (h a w) k)
bind_assoc (Gives a w) h k = refl
bind_assoc (Halts e w) h k = refl

-- a value that is one of this type
abbrev pub Of : Kind → Content → Type 0
Of k v = asked k v ≡ Yields v

pub yields_of : {A : Type 0} (P : A → Type 0) (o : Try A) (a : A) → o ≡ Yields a → IfYields P o → P a
yields_of P o a e h = subst (λ t. IfYields P t) e h

pub whole_of : (o : Result ℤ Trap) → IfYields (Of Integer) (whole o)
whole_of (Ok z) = refl
whole_of (Err t) = tt

-- what an operator gives is of its type
pub operate_of : (op : Operator) (a b : Content) → IfYields (Of (given_by op)) (operate op a b)
operate_of Add (Whole a) (Whole b) = whole_of (sum a b)
operate_of Sub (Whole a) (Whole b) = whole_of (difference a b)
operate_of Mul (Whole a) (Whole b) = whole_of (product a b)
operate_of Div (Whole a) (Whole b) = whole_of (quotient a b)
operate_of Power (Whole a) (Whole b) = whole_of (power a b)
operate_of Lt (Whole a) (Whole b) = refl
operate_of Le (Whole a) (Whole b) = refl
operate_of Eq (Whole a) (Whole b) = refl
operate_of Ne (Whole a) (Whole b) = refl
operate_of Ge (Whole a) (Whole b) = refl
operate_of Gt (Whole a) (Whole b) = refl
operate_of And (Whole a) (Whole b) = tt
operate_of Or (Whole a) (Whole b) = tt
operate_of And (Truth a) (Truth b) = refl
operate_of Or (Truth a) (Truth b) = refl
operate_of Add (Truth a) (Truth b) = tt
operate_of Sub (Truth a) (Truth b) = tt
operate_of Mul (Truth a) (Truth b) = tt
operate_of Div (Truth a) (Truth b) = tt
operate_of Power (Truth a) (Truth b) = tt
operate_of Lt (Truth a) (Truth b) = tt
operate_of Le (Truth a) (Truth b) = tt
operate_of Eq (Truth a) (Truth b) = tt
operate_of Ne (Truth a) (Truth b) = tt
operate_of Ge (Truth a) (Truth b) = tt
operate_of Gt (Truth a) (Truth b) = tt
operate_of op Nothing b = tt
operate_of op (Whole a) Nothing = tt
operate_of op (Whole a) (Truth b) = tt
operate_of op (Truth a) Nothing = tt
operate_of op (Truth a) (Whole b) = tt

pub asked_of : (k : Kind) (v : Content) → IfYields (Of k) (asked k v)
asked_of Integer Nothing = tt
asked_of Integer (Whole z) = refl
asked_of Integer (Truth b) = tt
asked_of Logical Nothing = tt
asked_of Logical (Whole z) = tt
asked_of Logical (Truth b) = refl

pub opposite_of : (v : Content) → IfYields (Of Integer) (opposite v)
opposite_of Nothing = tt
opposite_of (Whole z) = refl
opposite_of (Truth b) = tt

pub same_whole_of : (v : Content) → IfYields (Of Integer) (same_whole v)
same_whole_of Nothing = tt
same_whole_of (Whole z) = refl
same_whole_of (Truth b) = tt

pub denied_of : (v : Content) → IfYields (Of Logical) (denied v)
denied_of Nothing = tt
denied_of (Whole z) = tt
denied_of (Truth b) = refl

module _ (g : Sides) where
  abbrev T : Setting
  T = Target g

  -- a formula is put where a name begins
  pub sets_at : (p : Place) (x : Text) (q : Spot) (e : Formula) (rest : Routes) (w : World) → base T (there g p) x ≡ Yields q →
      run g (AndRoute (sets p (Ref x) e) rest) w ≡ bind (value_of T (there g p) e (counted w)) (λ v w1. bind (store_at T (there g p) q v w1) (λ _ w2. run g rest w2))
  sets_at p x q e rest w is =
      ap (λ o. then_do (bind (bind (settle p o (counted w)) (λ q1 w1. bind (value_of T (there g p) e w1) (λ v w2. bind (store_at T (there g p) q1 v w2) (λ _ w3. Gives Normal w3)))) (λ y w1. Gives (course_of y) w1)) (λ w4. run g rest w4)) is
      ∙ by_value (value_of T (there g p) e (counted w))
    where
      by_store : (v : Content) (o : Out ⊤) → then_do (bind (bind o (λ _ w3. Gives Normal w3)) (λ y w1. Gives (course_of y) w1)) (λ w4. run g rest w4) ≡ bind o (λ _ w2. run g rest w2)
      by_store v (Gives t w1) = refl
      by_store v (Halts d w1) = refl

      by_value : (o : Out Content) → then_do (bind (bind o (λ v w2. bind (store_at T (there g p) q v w2) (λ _ w3. Gives Normal w3))) (λ y w1. Gives (course_of y) w1)) (λ w4. run g rest w4) ≡ bind o (λ v w1. bind (store_at T (there g p) q v w1) (λ _ w2. run g rest w2))
      by_value (Gives v w1) = by_store v (store_at T (there g p) q v w1)
      by_value (Halts d w1) = refl

  pub temp_base : (p : Place) (k : Kind) (n : ℕ) → n < g.room → base T (there g p) (g.temp k n) ≡ Yields (Held g.to.unit (g.temp k n) 0)
  temp_base p k n fits = ap (λ o. base_by o g.to.unit g.to.actuals (g.temp k n)) (g.temp_own k n fits)

  -- a world with a temporary filled
  abbrev pub filled : Kind → ℕ → Content → World → World
  filled k n v w = holding (put_in (spare g k n) v w.state.store) w

  pub sets_temp : (p : Place) (k : Kind) (n : ℕ) → n < g.room → (e : Formula) (rest : Routes) (w : World) →
      run g (AndRoute (sets p (Ref (g.temp k n)) e) rest) w ≡ bind (value_of T (there g p) e (counted w)) (λ v w1. run g rest (filled k n v w1))
  sets_temp p k n fits e rest w = sets_at p (g.temp k n) (Held g.to.unit (g.temp k n) 0) e rest w (temp_base p k n fits)

  -- a filled temporary says its value
  pub says_temp : (m : ℕ) (k : Kind) (n : ℕ) (v : Content) (st : Store) → n < m → n < g.room → Of k v → Says g m (Ref (g.temp k n)) v (put_in (spare g k n) v st)
  says_temp m k n v st lt fits is = record { by = read }
    where
      read : (p : Place) (w : World) → Same g m (put_in (spare g k n) v st) w.state.store → value_of T (there g p) (Ref (g.temp k n)) w ≡ Gives v w
      read p w s =
          ap (λ o. bind (settle p o w) (λ q w1. load T (there g p) (kind_of (g.linked.context g.to.unit) (g.temp k n)) q w1)) (temp_base p k n fits)
          ∙ ap (λ j. settle p (asked j (w.state.store (spare g k n))) w) (g.temp_kind k n fits)
          ∙ ap (λ c. settle p (asked k c) w) (s.by k n lt fits ∙ read_same (spare g k n) v st)
          ∙ ap (λ o. settle p o w) is
