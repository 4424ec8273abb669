-- Values and spots that are taken off a stack lie in its buffer, one after another.
use Rattle.std.proofs.Common.{◌≡◌, ℕ, zero, suc, ◌+◌, ◌≤◌, ◌<◌, List, [], ◌∷◌, length, get_or, refl, ap, subst, arith}
use Rattle.std.proofs.lemmas.Option.{slice_get-get_or}
use Rattle.ground.specs.Content.{Content}
use Rattle.f66_tree.specs.World.{World, Out}
use Rattle.stack_code.specs.StackMachine.{Spot, Entry, Val, At, Core, take_values, take_spots}
use Rattle.stack_code.specs.Safety.{IsRight, AllWithin}
use Rattle.runner.specs.declared.words.Word.{Word}
use Rattle.runner.specs.Words.{Stand, Lies, blank, with_top, pile_of}

-- these were taken, from here on in the buffer, and this is left
pub record Taken {A : Type 0} (entry : A → Entry) (o : Out Core) (f : List A → List Entry → Out Core) (buffer : List Word) (n m top : ℕ) (es : List Entry) : Type 0 where
  pub got : List A
  pub rest : List Entry
  pub low : ℕ
  pub is : o ≡ f got rest
  pub long : length got ≡ n + m
  pub under : low + n ≡ top
  pub lies : Lies entry got buffer low
  pub stand : Stand rest (pile_of buffer low)
  pub within : (units : ℕ) → AllWithin units es → AllWithin units rest

module _ (buffer : List Word) where
  -- the word on top stands for the topmost entry
  top_word : (e : Entry) (es : List Entry) (top : ℕ) → top < length buffer → Stand (e ∷ es) (pile_of buffer (suc top)) → Stand (e ∷ es) (get_or buffer top blank ∷ pile_of buffer top)
  top_word e es top lt st = subst (λ o. Stand (e ∷ es) (with_top o (pile_of buffer top))) (slice_get-get_or buffer top blank lt) st

  module _ (P : Core → Type 0) (w : World) where
    pub taken_values : (n m : ℕ) (es : List Entry) (got : List Content) (f : List Content → List Entry → Out Core) (top : ℕ) → top ≤ length buffer → length got ≡ m → Stand es (pile_of buffer top) → Lies Val got buffer top → IsRight P (take_values w n es got f) → Taken Val (take_values w n es got f) f buffer n m top es
    taken_values zero m es got f top le e st lies h = record { got = got; rest = es; low = top; is = refl; long = let x = e in omega arith; under = omega arith; lies = lies; stand = st; within = λ units h1. h1 }
    taken_values (suc n) m [] got f top le e st lies h = absurd h
    taken_values (suc n) m (At p ∷ es) got f top le e st lies h = absurd h
    taken_values (suc n) m (Val v ∷ es) got f zero le e st lies h = absurd st
    taken_values (suc n) m (Val v ∷ es) got f (suc top) le e st lies h =
        let lt : top < length buffer = omega arith in
        let word = top_word (Val v) es top lt st in
        let t = taken_values n (suc m) es (v ∷ got) f top (omega arith) (ap suc e) word.1 (get_or buffer top blank, slice_get-get_or buffer top blank lt, word.0, lies) h in
        record { got = t.got; rest = t.rest; low = t.low; is = t.is; long = let l = t.long in omega arith; under = let u = t.under in omega arith; lies = t.lies; stand = t.stand; within = λ units h1. t.within units h1.1 }

    pub taken_spots : (n m : ℕ) (es : List Entry) (got : List Spot) (f : List Spot → List Entry → Out Core) (top : ℕ) → top ≤ length buffer → length got ≡ m → Stand es (pile_of buffer top) → Lies At got buffer top → IsRight P (take_spots w n es got f) → Taken At (take_spots w n es got f) f buffer n m top es
    taken_spots zero m es got f top le e st lies h = record { got = got; rest = es; low = top; is = refl; long = let x = e in omega arith; under = omega arith; lies = lies; stand = st; within = λ units h1. h1 }
    taken_spots (suc n) m [] got f top le e st lies h = absurd h
    taken_spots (suc n) m (Val v ∷ es) got f top le e st lies h = absurd h
    taken_spots (suc n) m (At p ∷ es) got f zero le e st lies h = absurd st
    taken_spots (suc n) m (At p ∷ es) got f (suc top) le e st lies h =
        let lt : top < length buffer = omega arith in
        let word = top_word (At p) es top lt st in
        let t = taken_spots n (suc m) es (p ∷ got) f top (omega arith) (ap suc e) word.1 (get_or buffer top blank, slice_get-get_or buffer top blank lt, word.0, lies) h in
        record { got = t.got; rest = t.rest; low = t.low; is = t.is; long = let l = t.long in omega arith; under = let u = t.under in omega arith; lies = t.lies; stand = t.stand; within = λ units h1. t.within units h1.1 }
