-- Stacks of the kinds that are known.
use Rattle.std.proofs.Common.{◌≡◌, cond, ℕ, zero, suc, ◌+◌, Bool, true, false, List, [], ◌∷◌, length, Option, Some, None, refl, sym, subst, arith}
use Rattle.std.specs.Prelude.{ℤ, Result, Ok, Err}
use Rattle.std.proofs.lemmas.Bool.{true≢false}
use Rattle.std.proofs.lemmas.Option.{none-some, same_Some}
use Rattle.ground.specs.declared.trap.Trap.{Trap}
use Rattle.ground.specs.Arithmetic.{sum, difference, product, quotient, power}
use Rattle.f66_tree.specs.declared.expression.Operator.{Operator}
use Rattle.f66_tree.specs.declared.expression.Operator.TheVariants as ops
use Rattle.f66_tree.specs.Evaluation.{whole, operate}
use Rattle.ground.specs.declared.place.Place.{Place}
use Rattle.ground.specs.Content.{Content, Nothing, Whole, Truth}
use Rattle.f66_tree.specs.World.{World, Out, Gives, Halts, bind, Try, Yields, Traps, Fails, settle}
use Rattle.f66_tree.proofs.Tries.{TriesRightly}
use Rattle.stack_code.specs.declared.shape.EntryKind.{EntryKind}
use Rattle.stack_code.specs.declared.shape.EntryKind.TheVariants.{Int, Log, Spot}
use Rattle.stack_code.specs.declared.fact.Fact.{Fact}
use Rattle.stack_code.specs.Instructions.{Instruction}
use Rattle.stack_code.specs.StackMachine as sm
use Rattle.stack_code.specs.StackMachine.{Entry, Val, At, Core, on_value, on_spot, take_values, take_spots}
use Rattle.stack_code.specs.ValidCode.{Open, and_then, pops, pop_value, taken, effect, allows, opens, reshaped, after, is_logical, is_relation}
use Rattle.stack_code.specs.Safety.{IsRight, IsWithin, SpotsWithin}

-- ---- what comes before an instruction, from what comes behind it ----

pub some_then : {A B : Type 0} (o : Option A) (f : A → Option B) (b : B) → and_then o f ≡ Some b → (a : A) × (o ≡ Some a) × (f a ≡ Some b)
some_then None f b e = absurd (none-some b e)
some_then (Some a) f b e = (a, refl, e)

pub record Behind (i : Instruction) (f g : Fact) : Type 0 where
  pub allowed : allows i f ≡ true
  pub open1 : Open
  pub opened : opens i f.format ≡ Some open1
  pub rest : List EntryKind
  pub took : taken (effect i) f.shape ≡ Some rest
  pub is : reshaped f (effect i).gives open1 rest ≡ g

behind_by : (i : Instruction) (f g : Fact) (b : Bool) → allows i f ≡ b → cond b (and_then (opens i f.format) (λ o. and_then (taken (effect i) f.shape) (λ shape. Some (reshaped f (effect i).gives o shape)))) None ≡ Some g → Behind i f g
behind_by i f g true is e =
    let a = some_then (opens i f.format) _ g e in
    let b = some_then (taken (effect i) f.shape) _ g a.2 in
    record { allowed = is; open1 = a.0; opened = a.1; rest = b.0; took = b.1; is = same_Some _ _ b.2 }
behind_by i f g false is e = absurd (none-some g e)

pub behind : (i : Instruction) (f g : Fact) → after i f ≡ Some g → Behind i f g
behind i f g e = behind_by i f g (allows i f) refl e

-- ---- entries and kinds ----

module _ (units : ℕ) where
  abbrev pub Suits : Entry → EntryKind → Type 0
  Suits (Val (Whole z)) Int = Unit {0}
  Suits (Val (Truth b)) Log = Unit {0}
  Suits (At p) Spot = IsWithin units p
  Suits _ _ = ⊥

  -- the stack has these kinds on its top, the topmost first, and below that this
  abbrev pub Matches : List Entry → List EntryKind → List Entry → Type 0
  Matches stack [] below = stack ≡ below
  Matches [] (k ∷ ks) below = ⊥
  Matches (x ∷ stack) (k ∷ ks) below = Suits x k × Matches stack ks below

  abbrev pub AllWhole : List Content → Type 0
  AllWhole [] = Unit {0}
  AllWhole (Whole z ∷ vs) = AllWhole vs
  AllWhole (Truth b ∷ vs) = ⊥
  AllWhole (Nothing ∷ vs) = ⊥

  module _ (below : List Entry) (Q : Core → Type 0) (w : World) where
    pub int_right : (n : ℕ) (shape rest : List EntryKind) (stack : List Entry) (f : Content → List Entry → Out Core) → Matches stack shape below → pops Int (suc n) shape ≡ Some rest → ((z : ℤ) (st : List Entry) (js : List EntryKind) → Matches st js below → pops Int n js ≡ Some rest → IsRight Q (f (Whole z) st)) → IsRight Q (on_value w stack f)
    int_right n [] rest stack f m e go = absurd (none-some rest e)
    int_right n (Int ∷ js) rest [] f m e go = absurd m
    int_right n (Int ∷ js) rest (Val (Whole z) ∷ st) f m e go = go z st js m.1 e
    int_right n (Int ∷ js) rest (Val (Truth b) ∷ st) f m e go = absurd m.0
    int_right n (Int ∷ js) rest (Val Nothing ∷ st) f m e go = absurd m.0
    int_right n (Int ∷ js) rest (At p ∷ st) f m e go = absurd m.0
    int_right n (Log ∷ js) rest stack f m e go = absurd (none-some rest e)
    int_right n (Spot ∷ js) rest stack f m e go = absurd (none-some rest e)

    pub log_right : (n : ℕ) (shape rest : List EntryKind) (stack : List Entry) (f : Content → List Entry → Out Core) → Matches stack shape below → pops Log (suc n) shape ≡ Some rest → ((b : Bool) (st : List Entry) (js : List EntryKind) → Matches st js below → pops Log n js ≡ Some rest → IsRight Q (f (Truth b) st)) → IsRight Q (on_value w stack f)
    log_right n [] rest stack f m e go = absurd (none-some rest e)
    log_right n (Log ∷ js) rest [] f m e go = absurd m
    log_right n (Log ∷ js) rest (Val (Truth b) ∷ st) f m e go = go b st js m.1 e
    log_right n (Log ∷ js) rest (Val (Whole z) ∷ st) f m e go = absurd m.0
    log_right n (Log ∷ js) rest (Val Nothing ∷ st) f m e go = absurd m.0
    log_right n (Log ∷ js) rest (At p ∷ st) f m e go = absurd m.0
    log_right n (Int ∷ js) rest stack f m e go = absurd (none-some rest e)
    log_right n (Spot ∷ js) rest stack f m e go = absurd (none-some rest e)

    pub spot_right : (n : ℕ) (shape rest : List EntryKind) (stack : List Entry) (f : sm.Spot → List Entry → Out Core) → Matches stack shape below → pops Spot (suc n) shape ≡ Some rest → ((p : sm.Spot) (st : List Entry) (js : List EntryKind) → IsWithin units p → Matches st js below → pops Spot n js ≡ Some rest → IsRight Q (f p st)) → IsRight Q (on_spot w stack f)
    spot_right n [] rest stack f m e go = absurd (none-some rest e)
    spot_right n (Spot ∷ js) rest [] f m e go = absurd m
    spot_right n (Spot ∷ js) rest (At p ∷ st) f m e go = go p st js m.0 m.1 e
    spot_right n (Spot ∷ js) rest (Val (Whole z) ∷ st) f m e go = absurd m.0
    spot_right n (Spot ∷ js) rest (Val (Truth b) ∷ st) f m e go = absurd m.0
    spot_right n (Spot ∷ js) rest (Val Nothing ∷ st) f m e go = absurd m.0
    spot_right n (Int ∷ js) rest stack f m e go = absurd (none-some rest e)
    spot_right n (Log ∷ js) rest stack f m e go = absurd (none-some rest e)

    pub value_right : (shape rest : List EntryKind) (stack : List Entry) (f : Content → List Entry → Out Core) → Matches stack shape below → pop_value shape ≡ Some rest → ((a : Content) (st : List Entry) → Matches st rest below → IsRight Q (f a st)) → IsRight Q (on_value w stack f)
    value_right [] rest stack f m e go = absurd (none-some rest e)
    value_right (Int ∷ js) rest [] f m e go = absurd m
    value_right (Int ∷ js) rest (Val a ∷ st) f m e go = go a st (subst (λ ks. Matches st ks below) (same_Some _ _ e) m.1)
    value_right (Int ∷ js) rest (At p ∷ st) f m e go = absurd m.0
    value_right (Log ∷ js) rest [] f m e go = absurd m
    value_right (Log ∷ js) rest (Val a ∷ st) f m e go = go a st (subst (λ ks. Matches st ks below) (same_Some _ _ e) m.1)
    value_right (Log ∷ js) rest (At p ∷ st) f m e go = absurd m.0
    value_right (Spot ∷ js) rest stack f m e go = absurd (none-some rest e)

    pub values_right : (n : ℕ) (shape rest : List EntryKind) (stack : List Entry) (got : List Content) (f : List Content → List Entry → Out Core) → Matches stack shape below → pops Int n shape ≡ Some rest → AllWhole got → ((vs : List Content) (st : List Entry) → AllWhole vs → length vs ≡ n + length got → Matches st rest below → IsRight Q (f vs st)) → IsRight Q (take_values w n stack got f)
    values_right zero shape rest stack got f m e all go = go got stack all (omega arith) (subst (λ ks. Matches stack ks below) (same_Some _ _ e) m)
    values_right (suc n) [] rest stack got f m e all go = absurd (none-some rest e)
    values_right (suc n) (Int ∷ js) rest [] got f m e all go = absurd m
    values_right (suc n) (Int ∷ js) rest (Val (Whole z) ∷ st) got f m e all go = values_right n js rest st (Whole z ∷ got) f m.1 e all (λ vs st1 a len m1. go vs st1 a (omega arith) m1)
    values_right (suc n) (Int ∷ js) rest (Val (Truth b) ∷ st) got f m e all go = absurd m.0
    values_right (suc n) (Int ∷ js) rest (Val Nothing ∷ st) got f m e all go = absurd m.0
    values_right (suc n) (Int ∷ js) rest (At p ∷ st) got f m e all go = absurd m.0
    values_right (suc n) (Log ∷ js) rest stack got f m e all go = absurd (none-some rest e)
    values_right (suc n) (Spot ∷ js) rest stack got f m e all go = absurd (none-some rest e)

    pub spots_right : (n : ℕ) (shape rest : List EntryKind) (stack : List Entry) (got : List sm.Spot) (f : List sm.Spot → List Entry → Out Core) → Matches stack shape below → pops Spot n shape ≡ Some rest → SpotsWithin units got → ((ps : List sm.Spot) (st : List Entry) → SpotsWithin units ps → length ps ≡ n + length got → Matches st rest below → IsRight Q (f ps st)) → IsRight Q (take_spots w n stack got f)
    spots_right zero shape rest stack got f m e all go = go got stack all (omega arith) (subst (λ ks. Matches stack ks below) (same_Some _ _ e) m)
    spots_right (suc n) [] rest stack got f m e all go = absurd (none-some rest e)
    spots_right (suc n) (Spot ∷ js) rest [] got f m e all go = absurd m
    spots_right (suc n) (Spot ∷ js) rest (At p ∷ st) got f m e all go = spots_right n js rest st (p ∷ got) f m.1 e (m.0, all) (λ vs st1 a len m1. go vs st1 a (omega arith) m1)
    spots_right (suc n) (Spot ∷ js) rest (Val (Whole z) ∷ st) got f m e all go = absurd m.0
    spots_right (suc n) (Spot ∷ js) rest (Val (Truth b) ∷ st) got f m e all go = absurd m.0
    spots_right (suc n) (Spot ∷ js) rest (Val Nothing ∷ st) got f m e all go = absurd m.0
    spots_right (suc n) (Int ∷ js) rest stack got f m e all go = absurd (none-some rest e)
    spots_right (suc n) (Log ∷ js) rest stack got f m e all go = absurd (none-some rest e)

-- ---- operations that don't fail ----

pub settle_right : {A B : Type 0} (P : A → Type 0) (Q : B → Type 0) (p : Place) (t : Try A) (w : World) (g : A → World → Out B) → TriesRightly P t → ((a : A) → P a → IsRight Q (g a w)) → IsRight Q (bind (settle p t w) g)
settle_right P Q p (Yields a) w g h go = go a h
settle_right P Q p (Traps t) w g h go = tt
settle_right P Q p Fails w g h go = absurd h

pub bind_right : {A B : Type 0} (P : A → Type 0) (Q : B → Type 0) (o : Out A) (g : A → World → Out B) → IsRight P o → ((a : A) (w : World) → P a → IsRight Q (g a w)) → IsRight Q (bind o g)
bind_right P Q (Gives a w) g h go = go a w h
bind_right P Q (Halts e w) g h go = h

abbrev pub IsInt : Content → Type 0
IsInt (Whole z) = Unit {0}
IsInt _ = ⊥

abbrev pub IsLog : Content → Type 0
IsLog (Truth b) = Unit {0}
IsLog _ = ⊥

pub whole_right : (r : Result ℤ Trap) → TriesRightly IsInt (whole r)
whole_right (Ok z) = tt
whole_right (Err t) = tt

pub arithmetic_right : (op : Operator) → is_logical op ≡ false → is_relation op ≡ false → (a b : ℤ) → TriesRightly IsInt (operate op (Whole a) (Whole b))
arithmetic_right ops.Add x y a b = whole_right (sum a b)
arithmetic_right ops.Sub x y a b = whole_right (difference a b)
arithmetic_right ops.Mul x y a b = whole_right (product a b)
arithmetic_right ops.Div x y a b = whole_right (quotient a b)
arithmetic_right ops.Power x y a b = whole_right (power a b)
arithmetic_right ops.Lt x y a b = absurd (true≢false y)
arithmetic_right ops.Le x y a b = absurd (true≢false y)
arithmetic_right ops.Eq x y a b = absurd (true≢false y)
arithmetic_right ops.Ne x y a b = absurd (true≢false y)
arithmetic_right ops.Ge x y a b = absurd (true≢false y)
arithmetic_right ops.Gt x y a b = absurd (true≢false y)
arithmetic_right ops.And x y a b = absurd (true≢false x)
arithmetic_right ops.Or x y a b = absurd (true≢false x)

pub relation_right : (op : Operator) → is_relation op ≡ true → (a b : ℤ) → TriesRightly IsLog (operate op (Whole a) (Whole b))
relation_right ops.Lt y a b = tt
relation_right ops.Le y a b = tt
relation_right ops.Eq y a b = tt
relation_right ops.Ne y a b = tt
relation_right ops.Ge y a b = tt
relation_right ops.Gt y a b = tt
relation_right ops.Add y a b = absurd (true≢false (sym y))
relation_right ops.Sub y a b = absurd (true≢false (sym y))
relation_right ops.Mul y a b = absurd (true≢false (sym y))
relation_right ops.Div y a b = absurd (true≢false (sym y))
relation_right ops.Power y a b = absurd (true≢false (sym y))
relation_right ops.And y a b = absurd (true≢false (sym y))
relation_right ops.Or y a b = absurd (true≢false (sym y))

pub logic_right : (op : Operator) → is_logical op ≡ true → (a b : Bool) → TriesRightly IsLog (operate op (Truth a) (Truth b))
logic_right ops.And y a b = tt
logic_right ops.Or y a b = tt
logic_right ops.Add y a b = absurd (true≢false (sym y))
logic_right ops.Sub y a b = absurd (true≢false (sym y))
logic_right ops.Mul y a b = absurd (true≢false (sym y))
logic_right ops.Div y a b = absurd (true≢false (sym y))
logic_right ops.Power y a b = absurd (true≢false (sym y))
logic_right ops.Lt y a b = absurd (true≢false (sym y))
logic_right ops.Le y a b = absurd (true≢false (sym y))
logic_right ops.Eq y a b = absurd (true≢false (sym y))
logic_right ops.Ne y a b = absurd (true≢false (sym y))
logic_right ops.Ge y a b = absurd (true≢false (sym y))
logic_right ops.Gt y a b = absurd (true≢false (sym y))
