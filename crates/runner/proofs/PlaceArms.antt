-- What the instructions on storage units do.
use Rattle.std.proofs.Common.{◌≡◌, ℕ, ◌+◌, ◌≤◌, ◌<◌, true, List, [], ◌∷◌, length, refl, sym, ap, ◌∙◌, subst, arith, slice_get}
use Rattle.std.specs.Prelude.{pos, Result, Ok, Err, Some, if◌then◌else◌}
use Rattle.ground.specs.declared.trap.Trap.{Trap}
use Rattle.ground.specs.declared.trap.Trap.TheVariants.{ValueArgument}
use Rattle.ground.specs.declared.value.Kind.{Kind}
use Rattle.ground.specs.Content.{Content, Nothing}
use Rattle.f66_tree.specs.Fields.{Fields}
use Rattle.f66_tree.specs.World.{World, Store, put_in, Trapped, Ended, Out, Gives, Halts, Yields, Traps, holding}
use Rattle.f66_tree.specs.Evaluation.{asked}
use Rattle.stack_code.specs.Instructions as i
use Rattle.stack_code.specs.Instructions.{Instruction}
use Rattle.stack_code.specs.StackMachine.{Spot, Entry, Val, At, Core, on_value, on_spot, pushed, changed, next, act, unit_of, load, store, spot}
use Rattle.stack_code.specs.Safety.{IsRight, AllWithin}
use Rattle.runner.specs.declared.words.Word.{Word}
use Rattle.runner.specs.declared.words.Cell.{Cell}
use Rattle.runner.specs.Words.{Shows, Stand, IsMade, IsSmall, Agrees, content_of, pile_of}
use Rattle.runner.specs.Work.{MayHold, GoesTo, GoesOver, IsFine, IsAtMost}
use Rattle.runner.proofs.Tops.{tall, OneValue, OneSpot, one_value, one_spot, pushed_made, pushed_trap}
use Rattle.runner.proofs.Cells.{asked_made, same_unit, unit_within, free_told, lent_told, shown_small, over_same}

-- ---- a spot is on top ----

abbrev pub AtSpot : (Spot → List Entry → Out Core) → Core → World → Out Core
AtSpot f s w = on_spot w s.stack f

pub spot_in : (P : Core → Type 0) (f : Spot → List Entry → Out Core) (s : Core) (w : World) → IsRight P (on_spot w s.stack f) → OneSpot s.stack
spot_in P f s w h = one_spot P w s.stack f h

pub spot_is : (f : Spot → List Entry → Out Core) (s : Core) (w : World) (t : OneSpot s.stack) → on_spot w s.stack f ≡ f t.p t.below
spot_is f s w t = ap (λ es. on_spot w es f) t.is

pub spot_stand : (es : List Entry) (t : OneSpot es) (pile below : List Word) (x : Word) → Stand es pile → pile ≡ x ∷ below → Stand (At t.p ∷ t.below) (x ∷ below)
spot_stand es t pile below x h e = subst (λ l. Stand l (x ∷ below)) t.is (subst (Stand es) e h)

module _ (i : Instruction) (buffer : List Word) (top : ℕ) (cells : List Cell) (m : MayHold i buffer top cells) (f : Spot → List Entry → Out Core) (is : act m.work.plans (Some i) m.work.core m.work.world ≡ on_spot m.work.world m.work.core.stack f) where
  the_spot : OneSpot m.work.core.stack
  the_spot = spot_in _ f m.work.core m.work.world (subst (IsRight (IsAtMost (length buffer))) is m.work.right)

  pub spot_tall : 1 ≤ top
  spot_tall =
      let e = ap length the_spot.is in
      let l = tall i buffer top m.work in
      omega arith

  pub spot_told : (below : List Word) (x : Word) → pile_of buffer top ≡ x ∷ below → (p : Spot) × Shows (At p) x
  spot_told below x e = (the_spot.p, (spot_stand m.work.core.stack the_spot (pile_of buffer top) below x m.work.stand e).0)

  pub spot_there : (below : List Word) (x : Word) (u : ℕ) → pile_of buffer top ≡ x ∷ below → pos u ≡ x.value → u < length cells
  unfolding the_spot spot_told
  spot_there below x u e told = unit_within (length cells) the_spot.p the_spot.below x u (subst (AllWithin (length cells)) the_spot.is m.spots) (spot_told below x e).1 told

-- ---- a unit is read ----

module _ (kind : Kind) (pile below : List Word) (x : Word) (e : pile ≡ x ∷ below) (cells : List Cell) (u : ℕ) (told : pos u ≡ x.value) (cell : Cell) (there : slice_get cells u ≡ Some cell) (r : Result Word Trap) (m : IsSmall (content_of cell) → IsMade (asked kind (content_of cell)) r) (plans : List Fields) (s : Core) (w : World) (st : Stand s.stack pile) (a : Agrees cells w.state.store) (fine : IsFine (act plans (Some (i.Load kind)) s w)) where
  abbrev loading : Spot → List Entry → Out Core
  loading p rest = pushed s rest w (load kind p w.state.store)

  loaded : OneSpot s.stack
  loaded = spot_in _ loading s w fine

  is_made : IsMade (load kind loaded.p w.state.store) r
  is_made = asked_made cells w.state.store kind u (unit_of loaded.p) cell r a there (same_unit loaded.p x u (spot_stand s.stack loaded pile below x st e).0 told) m

  pub load_works : (word : Word) (piled : List Word) → r ≡ Ok word → piled ≡ word ∷ below → GoesOver (act plans (Some (i.Load kind)) s w) s w (s.pc + 1) piled cells
  load_works word piled ok e1 =
      over_same _ s w (s.pc + 1) piled cells a (subst (λ o. GoesTo o s w (s.pc + 1) piled) (sym (spot_is loading s w loaded)) (pushed_made s loaded.below w (load kind loaded.p w.state.store) word below piled (subst (IsMade (load kind loaded.p w.state.store)) ok is_made) (spot_stand s.stack loaded pile below x st e).1 e1))

  pub load_traps : (trap : Trap) → r ≡ Err trap → act plans (Some (i.Load kind)) s w ≡ Halts (Ended (Trapped trap s.frame.place)) w
  load_traps trap err = spot_is loading s w loaded ∙ pushed_trap s loaded.below w (load kind loaded.p w.state.store) trap (subst (IsMade (load kind loaded.p w.state.store)) err is_made)

-- ---- a unit is written ----

-- a store into a spot goes on where the spot is not fixed
pub changed_works : (s : Core) (rest : List Entry) (w : World) (p : Spot) (v : Content) (x : Word) (pile : List Word) (cells : List Cell) → Shows (At p) x → (x.behind ≡ 0 → ⊥) → Stand rest pile → Agrees cells (put_in (unit_of p) v w.state.store) → GoesOver (changed s rest w (store p v w.state.store)) s w (s.pc + 1) pile cells
changed_works s rest w p v x pile cells sh free st a =
    record {
      stack = rest;
      store = put_in (unit_of p) v w.state.store;
      is = ap (λ b. changed s rest w (if b then Traps ValueArgument else Yields (put_in (unit_of p) v w.state.store))) (free_told p x sh free);
      stand = st;
      agrees = a;
    }

pub changed_traps : (s : Core) (rest : List Entry) (w : World) (p : Spot) (v : Content) (x : Word) → Shows (At p) x → x.behind ≡ 0 → changed s rest w (store p v w.state.store) ≡ Halts (Ended (Trapped ValueArgument s.frame.place)) w
changed_traps s rest w p v x sh lent = ap (λ b. changed s rest w (if b then Traps ValueArgument else Yields (put_in (unit_of p) v w.state.store))) (lent_told p x sh lent)

-- the unit that was written is the spot's, and holds what was meant
pub put_as : (cells cells1 : List Cell) (st : Store) (p : Spot) (x : Word) (u : ℕ) (c v : Content) → Agrees cells st → Shows (At p) x → pos u ≡ x.value → c ≡ v → IsSmall v → ((st : Store) → Agrees cells st → IsSmall c → Agrees cells1 (put_in u c st)) → Agrees cells1 (put_in (unit_of p) v st)
put_as cells cells1 st p x u c v a sh told same small put =
    Rattle.runner.proofs.Cells.agrees_as cells1 st u (unit_of p) c v (same_unit p x u sh told) same (put st a (subst IsSmall (sym same) small))

-- what is written is what the word stands for
pub keeps_word : (cells cells1 : List Cell) (u : ℕ) (word : Word) (c : Content) → ((v : Content) → Shows (Val v) word → c ≡ v) → ((st : Store) → Agrees cells st → IsSmall c → Agrees cells1 (put_in u c st)) → (v : Content) → Shows (Val v) word → (st : Store) → Agrees cells st → Agrees cells1 (put_in u v st)
keeps_word cells cells1 u word c is put v sh st a = subst (λ d. Agrees cells1 (put_in u d st)) (is v sh) (put st a (subst IsSmall (sym (is v sh)) (shown_small v word sh)))

-- ---- Store, Forget and Lend ----

pub record Stored (es : List Entry) : Type 0 where
  pub v : Content
  pub p : Spot
  pub below : List Entry
  pub is : es ≡ Val v ∷ At p ∷ below

abbrev storing : Core → World → Content → List Entry → Out Core
storing s w v rest = on_spot w rest (λ p below. changed s below w (store p v w.state.store))

stored_by : (P : Core → Type 0) (s : Core) (w : World) (es : List Entry) → IsRight P (on_value w es (storing s w)) → Stored es
stored_by P s w [] h = absurd h
stored_by P s w (At p ∷ es) h = absurd h
stored_by P s w (Val v ∷ []) h = absurd h
stored_by P s w (Val v ∷ Val u ∷ es) h = absurd h
stored_by P s w (Val v ∷ At p ∷ es) h = record { v = v; p = p; below = es; is = refl }

store_is : (plans : List Fields) (s : Core) (w : World) (t : Stored s.stack) → act plans (Some i.Store) s w ≡ changed s t.below w (store t.p t.v w.state.store)
store_is plans s w t = ap (λ es. on_value w es (storing s w)) t.is

stored_stand : (es : List Entry) (t : Stored es) (pile below : List Word) (x y : Word) → Stand es pile → pile ≡ y ∷ x ∷ below → Stand (Val t.v ∷ At t.p ∷ t.below) (y ∷ x ∷ below)
stored_stand es t pile below x y h e = subst (λ l. Stand l (y ∷ x ∷ below)) t.is (subst (Stand es) e h)

module _ (buffer : List Word) (top : ℕ) (cells : List Cell) (m : MayHold i.Store buffer top cells) where
  the_store : Stored m.work.core.stack
  the_store = stored_by _ m.work.core m.work.world m.work.core.stack m.work.right

  pub store_tall : 2 ≤ top
  store_tall =
      let e = ap length the_store.is in
      let l = tall i.Store buffer top m.work in
      omega arith

  pub store_told : (below : List Word) (x y : Word) → pile_of buffer top ≡ y ∷ x ∷ below → (p : Spot) × Shows (At p) x
  store_told below x y e = (the_store.p, (stored_stand m.work.core.stack the_store (pile_of buffer top) below x y m.work.stand e).1.0)

  pub store_there : (below : List Word) (x y : Word) (u : ℕ) → pile_of buffer top ≡ y ∷ x ∷ below → pos u ≡ x.value → u < length cells
  unfolding the_store store_told
  store_there below x y u e told = unit_within (length cells) the_store.p the_store.below x u (subst (AllWithin (length cells)) the_store.is m.spots).1 (store_told below x y e).1 told

module _ (pile below : List Word) (x y : Word) (e : pile ≡ y ∷ x ∷ below) (plans : List Fields) (s : Core) (w : World) (st : Stand s.stack pile) (fine : IsFine (act plans (Some i.Store) s w)) where
  kept : Stored s.stack
  kept = stored_by _ s w s.stack fine

  words : Stand (Val kept.v ∷ At kept.p ∷ kept.below) (y ∷ x ∷ below)
  words = stored_stand s.stack kept pile below x y st e

  pub store_works : (cells cells1 : List Cell) (u : ℕ) → Agrees cells w.state.store → pos u ≡ x.value → ((v : Content) → Shows (Val v) y → (st : Store) → Agrees cells st → Agrees cells1 (put_in u v st)) → (x.behind ≡ 0 → ⊥) → GoesOver (act plans (Some i.Store) s w) s w (s.pc + 1) below cells1
  store_works cells cells1 u a told put free =
      subst (λ o. GoesOver o s w (s.pc + 1) below cells1) (sym (store_is plans s w kept)) (changed_works s kept.below w kept.p kept.v x below cells1 words.1.0 free words.1.1 (put_as cells cells1 w.state.store kept.p x u kept.v kept.v a words.1.0 told refl (shown_small kept.v y words.0) (λ st a1 small. put kept.v words.0 st a1)))

  pub store_traps : x.behind ≡ 0 → act plans (Some i.Store) s w ≡ Halts (Ended (Trapped ValueArgument s.frame.place)) w
  store_traps lent = store_is plans s w kept ∙ changed_traps s kept.below w kept.p kept.v x words.1.0 lent

abbrev forgetting : Core → World → Spot → List Entry → Out Core
forgetting s w p rest = changed s rest w (store p Nothing w.state.store)

module _ (pile below : List Word) (x : Word) (e : pile ≡ x ∷ below) (plans : List Fields) (s : Core) (w : World) (st : Stand s.stack pile) (fine : IsFine (act plans (Some i.Forget) s w)) where
  left : OneSpot s.stack
  left = spot_in _ (forgetting s w) s w fine

  word : Stand (At left.p ∷ left.below) (x ∷ below)
  word = spot_stand s.stack left pile below x st e

  pub forget_works : (cells cells1 : List Cell) (u : ℕ) → Agrees cells w.state.store → pos u ≡ x.value → ((st : Store) → Agrees cells st → IsSmall Nothing → Agrees cells1 (put_in u Nothing st)) → (x.behind ≡ 0 → ⊥) → GoesOver (act plans (Some i.Forget) s w) s w (s.pc + 1) below cells1
  forget_works cells cells1 u a told put free =
      subst (λ o. GoesOver o s w (s.pc + 1) below cells1) (sym (spot_is (forgetting s w) s w left)) (changed_works s left.below w left.p Nothing x below cells1 word.0 free word.1 (put_as cells cells1 w.state.store left.p x u Nothing Nothing a word.0 told refl tt put))

  pub forget_traps : x.behind ≡ 0 → act plans (Some i.Forget) s w ≡ Halts (Ended (Trapped ValueArgument s.frame.place)) w
  forget_traps lent = spot_is (forgetting s w) s w left ∙ changed_traps s left.below w left.p Nothing x word.0 lent

abbrev lending : ℕ → Core → World → Content → List Entry → Out Core
lending q s w v rest = Gives (next s (At (spot q 1 true) ∷ rest)) (holding (put_in q v w.state.store) w)

lent_in : (P : Core → Type 0) (q : ℕ) (s : Core) (w : World) → IsRight P (on_value w s.stack (lending q s w)) → OneValue s.stack
lent_in P q s w h = one_value P w s.stack (lending q s w) h

lend_stand : (es : List Entry) (t : OneValue es) (pile below : List Word) (x : Word) → Stand es pile → pile ≡ x ∷ below → Stand (Val t.a ∷ t.below) (x ∷ below)
lend_stand es t pile below x h e = subst (λ l. Stand l (x ∷ below)) t.is (subst (Stand es) e h)

pub lend_tall : (q : ℕ) (buffer : List Word) (top : ℕ) (cells : List Cell) → MayHold (i.Lend q) buffer top cells → 1 ≤ top
lend_tall q buffer top cells m =
    let t = lent_in _ q m.work.core m.work.world m.work.right in
    let e = ap length t.is in
    let l = tall (i.Lend q) buffer top m.work in
    omega arith

pub lend_works : (q : ℕ) (pile below : List Word) (x made : Word) (piled : List Word) (cells cells1 : List Cell) → pile ≡ x ∷ below → piled ≡ made ∷ below → made.value ≡ pos q → made.behind ≡ 0 → ((v : Content) → Shows (Val v) x → (st : Store) → Agrees cells st → Agrees cells1 (put_in q v st)) → (plans : List Fields) (s : Core) (w : World) → Stand s.stack pile → Agrees cells w.state.store → IsFine (act plans (Some (i.Lend q)) s w) → GoesOver (act plans (Some (i.Lend q)) s w) s w (s.pc + 1) piled cells1
lend_works q pile below x made piled cells cells1 e e1 value behind put plans s w st a fine =
    let t = lent_in _ q s w fine in
    let g = lend_stand s.stack t pile below x st e in
    record {
      stack = At (spot q 1 true) ∷ t.below;
      store = put_in q t.a w.state.store;
      is = ap (λ es. on_value w es (lending q s w)) t.is;
      stand = subst (Stand (At (spot q 1 true) ∷ t.below)) (sym e1) (record { value = value; behind = behind; size = refl; position = refl }, g.1);
      agrees = put t.a g.0 w.state.store a;
    }
