-- The two sides of lowering. The source has no value under a spare name; the target's store is the source's, with what the
-- spare units hold besides: the value of a switch in the storage unit of a spare name. So a world of the target is one of the
-- source and another store, which counts in the spare units alone.
use Rattle.std.proofs.Common.{◌≡◌, ℕ, ◌+◌, ◌≤◌, ◌<◌, Bool, true, false, true≢false, List, Some, refl, sym, ap, ◌∙◌, arith, eqb-true}
use Rattle.std.specs.Prelude.{nat_eq, if◌then◌else◌, ⊤}
use Rattle.ground.specs.Content.{Content}
use Rattle.f66_tree.specs.Syntax.{Text, Line}
use Rattle.f66_tree.specs.World.{Store, put_in, State, World, Out, counted, holding, Gives}
use Rattle.f66_tree.specs.Units.{name_of, Spot, Held, Lent, Linkage, Setting, Frame}
use Rattle.f66_tree.specs.Uses.{Using}
use Rattle.f66_tree.specs.Evaluation.{held, AFunction, sort_of}
use Rattle.f66_tree.specs.Execution.{nowhere}
use Rattle.f66_tree.proofs.Posts.{AllFair, IsScope}
use Rattle.f66_tree.proofs.Related.{SameNames}
use Rattle.f66_tree.proofs.Comes.{at, still}

-- A unit of a program in both linkages, with what its dummies are associated with: which names the source uses, which spots
-- may come of them, and that none of these is a spare unit. Units have ranks, and the spare units have their units' ranks.
pub record Lowering : Type 1 where
  pub target : Linkage
  pub source : Linkage
  pub codes : ℕ → List Line
  pub unit : ℕ
  pub actuals : List Spot
  pub spare : ℕ → Bool
  pub level : ℕ → ℕ
  pub rank : ℕ → ℕ
  pub K : ℕ → Text → Type 0
  pub Fair : Spot → Type 0
  pub scope : IsScope K Fair source
  pub same : SameNames K Fair target source
  pub numbers : (u : ℕ) (x : Text) (o : ℕ) → Fair (Held u x o) → target.number u x o ≡ source.number u x o
  pub apart : (u : ℕ) (x : Text) (o : ℕ) → Fair (Held u x o) → spare (source.number u x o) ≡ false
  pub fair : AllFair Fair actuals

-- the store h in the spare units, and st elsewhere
abbrev pub over : (ℕ → Bool) → Store → Store → Store
over spare h st q = if spare q then h q else st q

pub read_source : (spare : ℕ → Bool) (h st : Store) (q : ℕ) → spare q ≡ false → over spare h st q ≡ st q
read_source spare h st q e = ap (λ (v : Bool). if v then h q else st q) e

pub read_spare : (spare : ℕ → Bool) (h st : Store) (q : ℕ) → spare q ≡ true → over spare h st q ≡ h q
read_spare spare h st q e = ap (λ (v : Bool). if v then h q else st q) e

pub put_source : (spare : ℕ → Bool) (h st : Store) (p : ℕ) (a : Content) → spare p ≡ false → put_in p a (over spare h st) ≡ over spare h (put_in p a st)
put_source spare h st p a e = λ i q. by_units q (nat_eq q p) (spare q) refl refl i
  where
    by_units : (q : ℕ) (v u : Bool) → nat_eq q p ≡ v → spare q ≡ u → (if v then a else (if u then h q else st q)) ≡ (if u then h q else (if v then a else st q))
    by_units q true true e1 e2 = absurd (true≢false (sym e2 ∙ ap spare (eqb-true q p e1) ∙ e))
    by_units q true false e1 e2 = refl
    by_units q false true e1 e2 = refl
    by_units q false false e1 e2 = refl

pub put_spare : (spare : ℕ → Bool) (h st : Store) (p : ℕ) (a : Content) → spare p ≡ true → put_in p a (over spare h st) ≡ over spare (put_in p a h) st
put_spare spare h st p a e = λ i q. by_units q (nat_eq q p) (spare q) refl refl i
  where
    by_units : (q : ℕ) (v u : Bool) → nat_eq q p ≡ v → spare q ≡ u → (if v then a else (if u then h q else st q)) ≡ (if u then (if v then a else h q) else st q)
    by_units q true true e1 e2 = refl
    by_units q true false e1 e2 = absurd (true≢false (sym e ∙ sym (ap spare (eqb-true q p e1)) ∙ e2))
    by_units q false true e1 e2 = refl
    by_units q false false e1 e2 = refl

module _ (g : Lowering) where
  -- a world of the source where the spare units hold what h does
  abbrev pub spared : Store → World → World
  spared h w = holding (over g.spare h w.state.store) w

  abbrev pub near : Store → State → ℕ → ℕ → World
  near h s k c = spared h (at s k c)

  pub still_near : (h : Store) (s : State) (k c : ℕ) → near h s (0 + k) c ≡ near h s k (c + 0)
  still_near h s k c = ap (spared h) (still s k c)

  -- the spare units of the rank r and more hold what they held
  pub record Kept (r : ℕ) (h h1 : Store) : Type 0 where
    pub by : (q : ℕ) → r ≤ g.level q → h1 q ≡ h q

  pub kept_self : (r : ℕ) (h : Store) → Kept r h h
  kept_self r h = record { by = λ q le. refl }

  pub kept_on : {r : ℕ} {h0 h1 h2 : Store} → Kept r h0 h1 → Kept r h1 h2 → Kept r h0 h2
  kept_on a b = record { by = λ q le. b.by q le ∙ a.by q le }

  pub kept_more : {r r1 : ℕ} {h h1 : Store} → r ≤ r1 → Kept r h h1 → Kept r1 h h1
  kept_more le a = record { by = λ q lq. a.by q (omega arith) }

  -- the source reads the same
  pub same_held : (p : Spot) (h st : Store) → g.Fair p → held g.target p (over g.spare h st) ≡ held g.source p st
  same_held (Held u x o) h st fair = ap (over g.spare h st) (g.numbers u x o fair) ∙ read_source g.spare h st (g.source.number u x o) (g.apart u x o fair)
  same_held (Lent c) h st fair = refl

  -- the rank of the unit, its code and its frame
  abbrev pub own_rank : ℕ
  own_rank = g.rank g.unit

  abbrev pub code : List Line
  code = g.codes g.unit

  -- the name in its header
  abbrev pub own_name : Text
  own_name = name_of (g.source.context g.unit).header

  abbrev pub F : Frame
  F = record { unit = g.unit; actuals = g.actuals; place = nowhere }

  -- a name that leads to no unit but those of lesser rank; what holds of the names that are used in the unit u
  abbrev pub IsBelow : Text → Type 0
  IsBelow x = (v : ℕ) → g.source.find x ≡ Some v → g.rank v < own_rank

  abbrev pub Listed : ℕ → Text → Type 0
  Listed u x = g.K u x × (sort_of (g.source.context u) x ≡ AFunction → IsBelow x)

  abbrev pub Called : ℕ → Text → Type 0
  Called u x = g.K u x × IsBelow x

  abbrev pub Own : Using
  Own = record { alone = g.K g.unit; listed = Listed g.unit; called = Called g.unit }

  -- the setting of the source, with the work of a node
  abbrev pub Source : (ℕ → ℕ) → ℕ → (ℕ → List Spot → World → Out ⊤) → Setting
  Source tick b call = record { linked = g.source; call = call; begin = λ w. Gives tt (counted w); most = b; tick = tick }
