-- The two sides of the lowering of one procedure: its source, and its routes over a unit of FORTRAN. The target has each place of
-- the source in a cell of its own, and besides temporaries, which no place shares.
use Rattle.std.proofs.Common.{◌≡◌, ◌≢◌, ℕ, ◌+◌, ◌*◌, ◌≤◌, ◌<◌, List, [], None, refl, sym, ap, ◌∙◌, arith}
use Rattle.std.specs.Prelude.{⊤}
use Rattle.ground.specs.declared.place.Place.{Place}
use Rattle.ground.specs.declared.value.Kind.{Kind}
use Rattle.ground.specs.Content.{Content}
use Rattle.f66_tree.specs.Syntax.{Text, Formula}
use Rattle.f66_tree.specs.World.{Store, put_in, World, counted, holding, Out, Gives}
use Rattle.f66_tree.specs.Units.{position, dummies_of, kind_of, sizes_of, Spot, Held, Lent, Linkage, Setting, Frame, moved_to}
use Rattle.f66_tree.specs.Evaluation.{base, held, value_of}
use Rattle.f66_tree.proofs.Stores.{read_other}
use Rattle.efl_program.specs.Setting as efl
use Rattle.routes.specs.Routes.{Routes}
use Rattle.routes.specs.Running.{Flow, run_from}
use Rattle.efl_routes.specs.LoweredProgram.{Based, SameSpot}
use Rattle.efl_routes.proofs.Like.{Within}

-- both sides of one procedure
pub record Sides : Type 1 where
  pub source : efl.Setting
  pub from : efl.Frame
  pub linked : Linkage
  pub call : ℕ → List Spot → World → Out ⊤
  pub most : ℕ
  pub to : Frame
  pub home : ℕ → Text
  pub temp : Kind → ℕ → Text
  pub callee : ℕ → Text
  pub cell : ℕ → ℕ
  -- how many temporaries are declared
  pub room : ℕ
  -- the scalar variables of the procedure, by their types
  pub M : ℕ → Kind → Type 0
  -- the storage units of the source's variables and values
  pub Real : ℕ → Type 0
  pub one_cell : (q r : ℕ) → Real q → Real r → cell q ≡ cell r → q ≡ r
  pub temp_own : (k : Kind) (n : ℕ) → n < room → position (temp k n) (dummies_of (linked.context to.unit).header) ≡ None
  pub temp_kind : (k : Kind) (n : ℕ) → n < room → kind_of (linked.context to.unit) (temp k n) ≡ k
  pub temp_plain : (k : Kind) (n : ℕ) → n < room → sizes_of (temp k n) (linked.context to.unit).notes ≡ []
  pub temp_apart : (k j : Kind) (m n : ℕ) → m < room → n < room → m ≢ n → linked.number to.unit (temp k m) 0 ≢ linked.number to.unit (temp j n) 0
  pub temp_no_cell : (k : Kind) (n q : ℕ) → n < room → Real q → cell q ≢ linked.number to.unit (temp k n) 0
  -- the storage units that belong to the units further out
  pub Outer : ℕ → Type 0
  pub outer_temp : (k : Kind) (n j : ℕ) → n < room → Outer j → j ≢ linked.number to.unit (temp k n) 0
  pub outer_cell : (q j : ℕ) → Real q → Outer j → j ≢ cell q
  pub home_kind : (v : ℕ) (k : Kind) → M v k → kind_of (linked.context to.unit) (home v) ≡ k
  pub bases : (v : ℕ) (k : Kind) → M v k → Based cell Real source.linked linked (efl.base source from v) (base (record { linked = linked; call = call; begin = λ w. Gives tt (counted w); most = most; tick = λ n. n }) to (home v))

module _ (g : Sides) where
  -- the setting of the routes
  abbrev pub Target : Setting
  Target = record { linked = g.linked; call = g.call; begin = λ w. Gives tt (counted w); most = g.most; tick = λ n. n }

  abbrev pub there : Place → Frame
  there p = moved_to p g.to

  abbrev pub here : Place → efl.Frame
  here p = efl.moved_to p g.from

  abbrev pub run : Routes → World → Flow
  run rs w = run_from Target g.to g.most rs None w

  -- the cell of a temporary
  abbrev pub spare : Kind → ℕ → ℕ
  spare k n = g.linked.number g.to.unit (g.temp k n) 0

  -- each place has its content in its cell, and z more statements may begin
  pub record Near (z : ℕ) (w w1 : World) : Type 0 where
    pub tape : w1.state.tape ≡ w.state.tape
    pub cells : (q : ℕ) → g.Real q → w1.state.store (g.cell q) ≡ w.state.store q
    pub count : z + w1.count ≤ 32 * (w.count + 1)

  -- the first n temporaries hold the same, and what belongs to the units further out
  pub record Same (n : ℕ) (st st1 : Store) : Type 0 where
    pub by : (k : Kind) (i : ℕ) → i < n → i < g.room → st1 (spare k i) ≡ st (spare k i)
    pub outer : (j : ℕ) → g.Outer j → st1 j ≡ st j

  -- a formula has this value as long as the first m temporaries hold the same
  pub record Says (m : ℕ) (e : Formula) (v : Content) (st : Store) : Type 0 where
    pub by : (p : Place) (w : World) → Same m st w.state.store → value_of Target (there p) e w ≡ Gives v w

  pub same_self : (n : ℕ) (st : Store) → Same n st st
  same_self n st = record { by = λ k i lt fits. refl; outer = λ j is. refl }

  pub same_on : {n : ℕ} {a b c : Store} → Same n a b → Same n b c → Same n a c
  same_on h j = record { by = λ k i lt fits. j.by k i lt fits ∙ h.by k i lt fits; outer = λ q is. j.outer q is ∙ h.outer q is }

  pub same_less : {m n : ℕ} {a b : Store} → m ≤ n → Same n a b → Same m a b
  same_less le h = record { by = λ k i lt fits. h.by k i (omega arith) fits; outer = h.outer }

  -- a value that stays
  pub says_still : {m n : ℕ} {e : Formula} {v : Content} {a b : Store} → m ≤ n → Same n a b → Says m e v a → Says m e v b
  says_still le s h = record { by = λ p w s1. h.by p w (same_on (same_less le s) s1) }

  pub says_more : {m n : ℕ} {e : Formula} {v : Content} {a : Store} → m ≤ n → Says m e v a → Says n e v a
  says_more le h = record { by = λ p w s. h.by p w (same_less le s) }

  pub near_less : {y z : ℕ} {w w1 : World} → y ≤ z → Near z w w1 → Near y w w1
  near_less le h = record { tape = h.tape; cells = h.cells; count = omega (arith, h.count) }

  pub near_within : {z : ℕ} {w w1 : World} → Near z w w1 → Within w w1
  near_within h = record { tape = h.tape; count = omega (arith, h.count) }

  -- a node of the source
  pub near_counted : {z : ℕ} {w w1 : World} → Near z w w1 → Near (z + 32) (counted w) w1
  near_counted h = record { tape = h.tape; cells = h.cells; count = omega (arith, h.count) }

  -- a statement of the target
  pub near_begun : {z : ℕ} {w w1 : World} → Near (1 + z) w w1 → Near z w (counted w1)
  near_begun h = record { tape = h.tape; cells = h.cells; count = omega (arith, h.count) }

  -- a temporary is filled
  pub near_filled : {z : ℕ} {w w1 : World} (k : Kind) (n : ℕ) (v : Content) → n < g.room → Near z w w1 → Near z w (holding (put_in (spare k n) v w1.state.store) w1)
  near_filled {w1 = w1} k n v fits h = record { tape = h.tape; cells = λ q real. read_other (spare k n) (g.cell q) v w1.state.store (g.temp_no_cell k n q fits real) ∙ h.cells q real; count = h.count }

  pub same_filled : (m : ℕ) (k : Kind) (n : ℕ) (v : Content) (st : Store) → m ≤ n → n < g.room → Same m st (put_in (spare k n) v st)
  same_filled m k n v st le fits = record { by = λ j i lt fits1. read_other (spare k n) (spare j i) v st (g.temp_apart j k i n fits1 fits (omega arith)); outer = λ q is. read_other (spare k n) q v st (g.outer_temp k n q fits is) }

  -- the same is read on both sides
  pub same_held : {z : ℕ} {w w1 : World} (a : efl.Spot) (b : Spot) → SameSpot g.cell g.Real g.source.linked g.linked a b → Near z w w1 → held g.linked b w1.state.store ≡ efl.held g.source.linked a w.state.store
  same_held {w1 = w1} (efl.Held v k) (Held u x o) s h = ap w1.state.store s.0 ∙ h.cells (g.source.linked.number v k) s.2
  same_held (efl.Lent c) (Lent d) s h = sym s
  same_held (efl.Held v k) (Lent d) s h = absurd s
  same_held (efl.Lent c) (Held u x o) s h = absurd s
