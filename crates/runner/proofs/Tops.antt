-- What is on top of a stack where an instruction goes right.
use Rattle.std.proofs.Common.{◌≡◌, ℕ, suc, ◌+◌, List, [], ◌∷◌, length, refl, sym, ap, ◌∙◌, subst}
use Rattle.std.specs.Prelude.{Ok, Err}
use Rattle.ground.specs.declared.trap.Trap.{Trap}
use Rattle.ground.specs.Content.{Content}
use Rattle.f66_tree.specs.World.{World, Trapped, Ended, Out, Halts, Try, Yields, Traps, Fails}
use Rattle.stack_code.specs.Instructions.{Instruction}
use Rattle.stack_code.specs.StackMachine.{Spot, Entry, Val, At, Core, on_value, on_spot, pushed, pushed_spot}
use Rattle.stack_code.specs.Safety.{IsRight}
use Rattle.runner.specs.declared.words.Word.{Word}
use Rattle.runner.specs.Words.{Shows, Stand, IsMade, pile_of}
use Rattle.runner.specs.Work.{IsGiven, MayWork, GoesTo}
use Rattle.runner.proofs.Piles.{length-pile_of}

pub stand_length : (es : List Entry) (ws : List Word) → Stand es ws → length es ≡ length ws
stand_length [] [] h = refl
stand_length (e ∷ es) (w ∷ ws) h = ap suc (stand_length es ws h.1)
stand_length [] (w ∷ ws) h = absurd h
stand_length (e ∷ es) [] h = absurd h

-- as many entries as words
pub tall : (i : Instruction) (buffer : List Word) (top : ℕ) (m : MayWork i buffer top) → length m.core.stack ≡ top
tall i buffer top m = stand_length m.core.stack (pile_of buffer top) m.stand ∙ length-pile_of buffer top m.within

pub given_of : (P : Core → Type 0) (s : Core) (below : List Entry) (w : World) (t : Try Content) → IsRight P (pushed s below w t) → IsGiven t
given_of P s below w (Yields v) h = tt
given_of P s below w (Traps e) h = tt
given_of P s below w Fails h = h

pub spot_given : (P : Core → Type 0) (s : Core) (under : List Entry) (w : World) (t : Try Spot) → IsRight P (pushed_spot s under w t) → IsGiven t
spot_given P s under w (Yields q) h = tt
spot_given P s under w (Traps e) h = tt
spot_given P s under w Fails h = h

-- a value on top, or two
pub record OneValue (es : List Entry) : Type 0 where
  pub a : Content
  pub below : List Entry
  pub is : es ≡ Val a ∷ below

pub record TwoValues (es : List Entry) : Type 0 where
  pub a : Content
  pub b : Content
  pub below : List Entry
  pub is : es ≡ Val b ∷ Val a ∷ below

pub record OneSpot (es : List Entry) : Type 0 where
  pub p : Spot
  pub below : List Entry
  pub is : es ≡ At p ∷ below

module _ (P : Core → Type 0) (w : World) where
  pub one_value : (es : List Entry) (f : Content → List Entry → Out Core) → IsRight P (on_value w es f) → OneValue es
  one_value [] f h = absurd h
  one_value (At p ∷ es) f h = absurd h
  one_value (Val a ∷ es) f h = record { a = a; below = es; is = refl }

  pub one_spot : (es : List Entry) (f : Spot → List Entry → Out Core) → IsRight P (on_spot w es f) → OneSpot es
  one_spot [] f h = absurd h
  one_spot (Val a ∷ es) f h = absurd h
  one_spot (At p ∷ es) f h = record { p = p; below = es; is = refl }

  pub two_values : (es : List Entry) (f : Content → Content → List Entry → Out Core) → IsRight P (on_value w es (λ b rest. on_value w rest (λ a below. f b a below))) → TwoValues es
  two_values [] f h = absurd h
  two_values (At p ∷ es) f h = absurd h
  two_values (Val b ∷ []) f h = absurd h
  two_values (Val b ∷ At p ∷ es) f h = absurd h
  two_values (Val b ∷ Val a ∷ es) f h = record { a = a; b = b; below = es; is = refl }

-- a word was made of what was given
pub record Yielded (t : Try Content) (x : Word) : Type 0 where
  pub v : Content
  pub is : t ≡ Yields v
  pub shows : Shows (Val v) x

pub yielded : (t : Try Content) (x : Word) → IsMade t (Ok x) → Yielded t x
yielded (Yields v) x h = record { v = v; is = refl; shows = h }
yielded (Traps e) x h = absurd h
yielded Fails x h = absurd h

pub trapped : (t : Try Content) (e : Trap) → IsMade t (Err e) → t ≡ Traps e
trapped (Yields v) e h = absurd h
trapped (Traps d) e h = ap Traps h
trapped Fails e h = absurd h

-- what was made is pushed
pub pushed_made : (s : Core) (below : List Entry) (w : World) (t : Try Content) (x : Word) (pile piled : List Word) → IsMade t (Ok x) → Stand below pile → piled ≡ x ∷ pile → GoesTo (pushed s below w t) s w (s.pc + 1) piled
pushed_made s below w t x pile piled m st e =
    let y = yielded t x m in
    record { stack = Val y.v ∷ below; is = ap (pushed s below w) y.is; stand = subst (Stand (Val y.v ∷ below)) (sym e) (y.shows, st) }

pub pushed_trap : (s : Core) (below : List Entry) (w : World) (t : Try Content) (e : Trap) → IsMade t (Err e) → pushed s below w t ≡ Halts (Ended (Trapped e s.frame.place)) w
pushed_trap s below w t e m = ap (pushed s below w) (trapped t e m)
