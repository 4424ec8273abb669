-- What the machine's store and spots stand for. The store of the units lies below a bound. Above it are units of the code's own,
-- of which those from a first one on hold what they held before.
use Rattle.std.proofs.Common.{◌≡◌, cond, nat_eq, ℕ, zero, suc, ◌<◌, ◌≤◌, true, false, List, [], ◌∷◌, refl, sym, ap, ◌∙◌, arith}
use Rattle.std.proofs.lemmas.Bool.{eq-eqb, ne_eqb}
use Rattle.ground.specs.declared.place.Place.{Place}
use Rattle.ground.specs.Content.{Content}
use Rattle.f66_tree.specs.World.{Store, put_in, World, End, Out, Halts, bind, Try, Yields, Traps, Fails, settle, holding, Shown, shown}
use Rattle.f66_tree.specs.Units as units
use Rattle.f66_tree.specs.Units.{Held, Lent, Linkage}
use Rattle.f66_tree.specs.Evaluation.{held, given}
use Rattle.stack_code.specs.StackMachine.{Spot, Core, Program, unit_of, dummy}
use Rattle.code_gen.specs.Layout.{size_in}
use Rattle.code_gen.specs.Coded.{IsLaid, IsOwn}
use Rattle.code_gen.proofs.Steps.{finish, Meets}

abbrev pub own_spot : Linkage → ℕ → List ℕ → ℕ → Spot
own_spot l u x o = record { first = l.number u x 0; size = size_in (l.context u) x; position = o; fixed = false }

abbrev pub lent_spot : ℕ → Spot
lent_spot q = record { first = q; size = 1; position = 0; fixed = true }

module _ (l : Linkage) (bound first : ℕ) (hold : Store) where
  pub record Seen (w m : World) : Type 0 where
    pub store : (q : ℕ) → q < bound → m.state.store q ≡ w.state.store q
    pub tape : m.state.tape ≡ w.state.tape
    pub left : m.left ≡ w.left
    pub count : m.count ≡ w.count
    pub kept : (q : ℕ) → first ≤ q → m.state.store q ≡ hold q

  abbrev pub SpotSeen : units.Spot → Spot → Type 0
  SpotSeen (Held u x o) e = (e ≡ own_spot l u x o) × (o < size_in (l.context u) x) × IsLaid l u bound × IsOwn l u x
  SpotSeen (Lent c) e = (q : ℕ) × (e ≡ lent_spot q) × (first ≤ q) × (hold q ≡ c)

  abbrev pub SpotsSeen : List units.Spot → List Spot → Type 0
  SpotsSeen [] [] = Unit {0}
  SpotsSeen [] (e ∷ es) = ⊥
  SpotsSeen (p ∷ ps) [] = ⊥
  SpotsSeen (p ∷ ps) (e ∷ es) = SpotSeen p e × SpotsSeen ps es

  pub seen_shown : (w m : World) → Seen w m → (e : End) → shown (Halts e m) ≡ shown (Halts e w)
  seen_shown w m h e = λ j. record { records = (h.tape j).written; end = e; work = h.count j }

  -- what a spot holds
  pub held_seen : (p : units.Spot) (e : Spot) (w m : World) → SpotSeen p e → Seen w m → m.state.store (unit_of e) ≡ held l p w.state.store
  held_seen (Held u x o) e w m h seen =
      let same : unit_of e ≡ l.number u x o = ap unit_of h.0 ∙ sym (h.2.runs x o h.3 h.1) in
      ap m.state.store same ∙ seen.store (l.number u x o) (h.2.below x o h.3 h.1)
  held_seen (Lent c) e w m h seen =
      let same : unit_of e ≡ h.0 = ap unit_of h.1 ∙ omega arith in
      ap m.state.store same ∙ seen.kept h.0 h.2 ∙ h.3

  -- an operation that both sides take
  pub settled : {A : Type 0} (c : Program) (place : Place) (w m : World) → Seen w m → (t : Try A) (f : A → World → Out Core) (k : A → World → Shown) → ((x : A) → Meets c (f x m) (k x w)) → Meets c (bind (settle place t m) f) (finish (settle place t w) k)
  settled c place w m h (Yields x) f k then = then x
  settled c place w m h (Traps t) f k then = seen_shown w m h _
  settled c place w m h Fails f k then = seen_shown w m h _

  pub settled_as : {A : Type 0} (c : Program) (place : Place) (w m : World) → Seen w m → (t : Try A) (f : A → World → Out Core) (k : A → World → Shown) → ((x : A) → t ≡ Yields x → Meets c (f x m) (k x w)) → Meets c (bind (settle place t m) f) (finish (settle place t w) k)
  settled_as c place w m h (Yields x) f k then = then x refl
  settled_as c place w m h (Traps t) f k then = seen_shown w m h _
  settled_as c place w m h Fails f k then = seen_shown w m h _

  pub dummy_meets : (c : Program) (place : Place) (w m : World) → Seen w m → (n : ℕ) (ps : List units.Spot) (es : List Spot) → SpotsSeen ps es → (f : Spot → World → Out Core) (k : units.Spot → World → Shown) → ((p : units.Spot) (e : Spot) → SpotSeen p e → Meets c (f e m) (k p w)) → Meets c (bind (settle place (dummy n es) m) f) (finish (settle place (given n ps) w) k)
  dummy_meets c place w m h n [] [] see f k then = seen_shown w m h _
  dummy_meets c place w m h n [] (e ∷ es) see f k then = absurd see
  dummy_meets c place w m h n (p ∷ ps) [] see f k then = absurd see
  dummy_meets c place w m h zero (p ∷ ps) (e ∷ es) see f k then = then p e see.0
  dummy_meets c place w m h (suc n) (p ∷ ps) (e ∷ es) see f k then = dummy_meets c place w m h n ps es see.1 f k then

pub put_same : (q r : ℕ) (v : Content) (a b : Store) → a r ≡ b r → put_in q v a r ≡ put_in q v b r
put_same q r v a b e = ap (cond (nat_eq r q) v) e

pub put_other : (q r : ℕ) (v : Content) (st : Store) → (r ≡ q → ⊥) → put_in q v st r ≡ st r
put_other q r v st ne = ap (λ b. cond b v (st r)) (ne_eqb r q ne)

pub put_here : (q : ℕ) (v : Content) (st : Store) → put_in q v st q ≡ v
put_here q v st = ap (λ b. cond b v (st q)) (eq-eqb q q refl)

module _ (l : Linkage) (bound first : ℕ) (hold : Store) (low : bound ≤ first) where
  pub seen_put : (w m : World) → Seen l bound first hold w m → (q : ℕ) → q < bound → (v : Content) → Seen l bound first hold (holding (put_in q v w.state.store) w) (holding (put_in q v m.state.store) m)
  seen_put w m h q lt v =
      record { store = λ r rl. put_same q r v m.state.store w.state.store (h.store r rl); tape = h.tape; left = h.left; count = h.count; kept = λ r rl. put_other q r v m.state.store (λ e. omega arith) ∙ h.kept r rl }

pub put_in_kept : (l : Linkage) (bound first : ℕ) (hold : Store) (w m : World) → Seen l bound first hold w m → (q : ℕ) → bound ≤ q → q < first → (v : Content) → Seen l bound first hold w (holding (put_in q v m.state.store) m)
put_in_kept l bound first hold w m h q above below v =
    record { store = λ r rl. put_other q r v m.state.store (λ e. omega arith) ∙ h.store r rl; tape = h.tape; left = h.left; count = h.count; kept = λ r rl. put_other q r v m.state.store (λ e. omega arith) ∙ h.kept r rl }

-- what is lent from a unit on is lent from a lower one on, where those units hold what they held
module _ (l : Linkage) (bound first lower : ℕ) (old new : Store) (below : lower ≤ first) (keeps : (q : ℕ) → first ≤ q → new q ≡ old q) where
  pub spot_low : (p : units.Spot) (e : Spot) → SpotSeen l bound first old p e → SpotSeen l bound lower new p e
  spot_low (Held r x o) e h = h
  spot_low (Lent a) e h = (h.0, h.1, omega (arith, h.2), keeps h.0 h.2 ∙ h.3)

  pub spots_low : (ps : List units.Spot) (es : List Spot) → SpotsSeen l bound first old ps es → SpotsSeen l bound lower new ps es
  spots_low [] [] h = h
  spots_low [] (e ∷ es) h = absurd h
  spots_low (p ∷ ps) [] h = absurd h
  spots_low (p ∷ ps) (e ∷ es) h = (spot_low p e h.0, spots_low ps es h.1)
