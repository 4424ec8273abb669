-- What is pushed, and operations of one value.
use Rattle.std.proofs.Common.{◌≡◌, ℕ, zero, suc, ◌+◌, ◌≤◌, ◌<◌, Bool, not, List, ◌∷◌, length, refl, sym, ap, subst, arith}
use Rattle.std.specs.Prelude.{Ok, Some, ℤ, pos, negsuc, neg_ℤ}
use Rattle.ground.specs.Arithmetic.{IsInRange}
use Rattle.ground.specs.Content.{Content, Nothing, Whole, Truth}
use Rattle.f66_tree.specs.Fields.{Fields}
use Rattle.f66_tree.specs.World.{World, Out, Gives, Try}
use Rattle.f66_tree.specs.Evaluation.{opposite, denied}
use Rattle.stack_code.specs.Instructions.{Instruction}
use Rattle.stack_code.specs.StackMachine.{Entry, Val, Core, on_value, pushed, next, act}
use Rattle.stack_code.specs.Safety.{IsRight}
use Rattle.runner.specs.declared.words.Word.{Word}
use Rattle.runner.specs.Words.{Shows, Stand, IsMade, IsWholeWord, IsTruthWord, bit, pile_of}
use Rattle.runner.specs.Work.{IsGiven, IsOperand, MayWork, GoesTo, IsFine}
use Rattle.runner.proofs.Tops.{tall, given_of, OneValue, one_value, pushed_made}

-- an instruction that pushes this has room for it
pub push_room : (i : Instruction) (e : Entry) (buffer : List Word) (top : ℕ) → ((plans : List Fields) (s : Core) (w : World) → act plans (Some i) s w ≡ Gives (next s (e ∷ s.stack)) w) → MayWork i buffer top → top < length buffer
push_room i e buffer top is m =
    let h = subst (IsRight (Rattle.runner.specs.Work.IsAtMost (length buffer))) (is m.plans m.core m.world) m.right in
    let l = tall i buffer top m in
    omega arith

pub push_works : (e : Entry) (x : Word) (s : Core) (w : World) (pile piled : List Word) → Stand s.stack pile → Shows e x → piled ≡ x ∷ pile → GoesTo (Gives (next s (e ∷ s.stack)) w) s w (s.pc + 1) piled
push_works e x s w pile piled st h e1 = record { stack = e ∷ s.stack; is = refl; stand = subst (Stand (e ∷ s.stack)) (sym e1) (h, st) }

-- ---- one value is taken, and what is made of it is pushed ----

abbrev pub unary : (Content → Try Content) → Core → World → Out Core
unary f s w = on_value w s.stack (λ a rest. pushed s rest w (f a))

module _ (f : Content → Try Content) where
  value_in : (P : Core → Type 0) (s : Core) (w : World) → IsRight P (unary f s w) → OneValue s.stack
  value_in P s w h = one_value P w s.stack (λ a rest. pushed s rest w (f a)) h

  unary_is : (s : Core) (w : World) (t : OneValue s.stack) → unary f s w ≡ pushed s t.below w (f t.a)
  unary_is s w t = ap (λ es. on_value w es (λ a rest. pushed s rest w (f a))) t.is

  value_given : (P : Core → Type 0) (s : Core) (w : World) (t : OneValue s.stack) → IsRight P (unary f s w) → IsGiven (f t.a)
  value_given P s w t h = given_of P s t.below w (f t.a) (subst (IsRight P) (unary_is s w t) h)

  one_stand : (es : List Entry) (t : OneValue es) (pile below : List Word) (x : Word) → Stand es pile → pile ≡ x ∷ below → Stand (Val t.a ∷ t.below) (x ∷ below)
  one_stand es t pile below x h e = subst (λ l. Stand l (x ∷ below)) t.is (subst (Stand es) e h)

  module _ (i : Instruction) (buffer : List Word) (top : ℕ) (m : MayWork i buffer top) (is : act m.plans (Some i) m.core m.world ≡ unary f m.core m.world) where
    right : IsRight (Rattle.runner.specs.Work.IsAtMost (length buffer)) (unary f m.core m.world)
    right = subst (IsRight (Rattle.runner.specs.Work.IsAtMost (length buffer))) is m.right

    pub unary_tall : 1 ≤ top
    unary_tall =
        let t = value_in _ m.core m.world right in
        let e = ap length t.is in
        let l = tall i buffer top m in
        omega arith

    pub unary_operand : (below : List Word) (x : Word) → pile_of buffer top ≡ x ∷ below → IsOperand f x
    unary_operand below x e =
        let t = value_in _ m.core m.world right in
        let g = one_stand m.core.stack t (pile_of buffer top) below x m.stand e in
        record { a = t.a; shows = g.0; given = value_given _ m.core m.world t right }

  pub unary_works : (pile below : List Word) (x : Word) → pile ≡ x ∷ below → (s : Core) (w : World) → Stand s.stack pile → IsFine (unary f s w) → (made : Word) (piled : List Word) → ((a : Content) → Shows (Val a) x → IsGiven (f a) → IsMade (f a) (Ok made)) → piled ≡ made ∷ below → GoesTo (unary f s w) s w (s.pc + 1) piled
  unary_works pile below x e s w st fine made piled m e1 =
      let t = value_in _ s w fine in
      let g = one_stand s.stack t pile below x st e in
      let h = m t.a g.0 (value_given _ s w t fine) in
      subst (λ o. GoesTo o s w (s.pc + 1) piled) (sym (unary_is s w t)) (pushed_made s t.below w (f t.a) made below piled h g.1 e1)

-- ---- what the two of them are ----

pub neg_small : (z : ℤ) → IsInRange z → IsInRange (neg_ℤ z)
neg_small (pos zero) h = h
neg_small (pos (suc n)) h = record { magnitude = h.magnitude }
neg_small (negsuc n) h = record { magnitude = h.magnitude }

pub opposed_small : (x : Word) (o : IsOperand opposite x) → IsInRange x.value
opposed_small x o = by o.a o.shows o.given
  where
    by : (a : Content) → Shows (Val a) x → IsGiven (opposite a) → IsInRange x.value
    by (Whole z) h g = subst IsInRange (sym h.value) h.small
    by (Truth b) h g = absurd g
    by Nothing h g = absurd h

pub opposed_made : (x made : Word) → IsWholeWord (neg_ℤ x.value) made → (a : Content) → Shows (Val a) x → IsGiven (opposite a) → IsMade (opposite a) (Ok made)
opposed_made x made m (Whole z) h g = subst (λ n. IsWholeWord (neg_ℤ n) made) h.value m
opposed_made x made m (Truth b) h g = absurd g
opposed_made x made m Nothing h g = absurd h

pub denied_made : (x made : Word) (r : Bool) → ((b : Bool) → x.value ≡ bit b → r ≡ b) → IsTruthWord (not r) made → (a : Content) → Shows (Val a) x → IsGiven (denied a) → IsMade (denied a) (Ok made)
denied_made x made r read m (Truth b) h g = subst (λ c. IsTruthWord (not c) made) (read b h.value) m
denied_made x made r read m (Whole z) h g = absurd g
denied_made x made r read m Nothing h g = absurd h
