-- Cells as stores, and the spots on top of a stack.
use Rattle.std.proofs.Common.{◌≡◌, ℕ, ◌<◌, Bool, true, false, nat_eq, List, ◌∷◌, length, Some, refl, sym, ap, ◌∙◌, subst, arith, slice_get, slice_set}
use Rattle.std.specs.Prelude.{pos, Result, if◌then◌else◌}
use Rattle.std.proofs.lemmas.Bool.{eqb-true, eqb-false}
use Rattle.ground.specs.declared.trap.Trap.{Trap}
use Rattle.ground.specs.declared.value.Kind.{Kind}
use Rattle.ground.specs.Content.{Content, Nothing, Whole, Truth}
use Rattle.f66_tree.specs.World.{World, Store, put_in, Out}
use Rattle.f66_tree.specs.Evaluation.{asked}
use Rattle.stack_code.specs.StackMachine.{Spot, Entry, Val, At, Core, unit_of}
use Rattle.stack_code.specs.Safety.{AllWithin}
use Rattle.stack_code.proofs.FactsLemmas.{get_set_same, get_set_other}
use Rattle.runner.specs.declared.words.Word.{Word}
use Rattle.runner.specs.declared.words.Cell.{Cell}
use Rattle.runner.specs.Words.{Shows, IsSpotWord, IsMade, IsSmall, Agrees, content_of, content_in}
use Rattle.runner.specs.Work.{GoesTo, GoesOver}

-- ---- stores ----

not_same : (q u : ℕ) → nat_eq q u ≡ false → q ≡ u → ⊥
not_same q u e same = eqb-false q u e same

pub agrees_put : (cells : List Cell) (u : ℕ) (x : Cell) (st : Store) → u < length cells → Agrees cells st → IsSmall (content_of x) → Agrees (slice_set cells u x) (put_in u (content_of x) st)
agrees_put cells u x st h a small = record { same = λ q. same_by q (nat_eq q u) refl; small = λ q. small_by q (nat_eq q u) }
  where
    same_by : (q : ℕ) (t : Bool) → nat_eq q u ≡ t → (if t then content_of x else st q) ≡ content_in (slice_get (slice_set cells u x) q)
    same_by q true e = ap content_in (sym (ap (slice_get (slice_set cells u x)) (eqb-true q u e) ∙ get_set_same cells u x h))
    same_by q false e = a.same q ∙ ap content_in (sym (get_set_other cells u q x (λ same. not_same q u e (sym same))))

    small_by : (q : ℕ) (t : Bool) → IsSmall (if t then content_of x else st q)
    small_by q true = small
    small_by q false = a.small q

pub agrees_as : (cells : List Cell) (st : Store) (u q : ℕ) (a v : Content) → u ≡ q → a ≡ v → Agrees cells (put_in u a st) → Agrees cells (put_in q v st)
agrees_as cells st u q a v e1 e2 h = subst (λ n. Agrees cells (put_in n v st)) e1 (subst (λ c. Agrees cells (put_in u c st)) e2 h)

-- what a cell shows is what is asked of the store there
pub asked_made : (cells : List Cell) (st : Store) (kind : Kind) (u q : ℕ) (x : Cell) (r : Result Word Trap) → Agrees cells st → slice_get cells u ≡ Some x → u ≡ q → (IsSmall (content_of x) → IsMade (asked kind (content_of x)) r) → IsMade (asked kind (st q)) r
asked_made cells st kind u q x r a e same m =
    let k : st q ≡ content_of x = ap st (sym same) ∙ a.same u ∙ ap content_in e in
    subst (λ c. IsMade (asked kind c) r) (sym k) (m (subst IsSmall k (a.small q)))

-- ---- spots ----

-- a word that stands for a spot tells its unit
pub unit_told : (p : Spot) (x : Word) → Shows (At p) x → x.value ≡ pos (unit_of p)
unit_told p x h = by p.fixed h
  where
    by : (fixed : Bool) → IsSpotWord fixed p x → x.value ≡ pos (unit_of p)
    by true h = let e : p.first ≡ unit_of p = let z = h.position in omega arith in h.value ∙ ap pos e
    by false h = h.value

pub same_pos : (m n : ℕ) → pos m ≡ pos n → m ≡ n
same_pos m n e = cc

pub same_unit : (p : Spot) (x : Word) (u : ℕ) → Shows (At p) x → pos u ≡ x.value → u ≡ unit_of p
same_unit p x u h e = same_pos u (unit_of p) (e ∙ unit_told p x h)

pub unit_within : (units : ℕ) (p : Spot) (below : List Entry) (x : Word) (u : ℕ) → AllWithin units (At p ∷ below) → Shows (At p) x → pos u ≡ x.value → u < units
unit_within units p below x u h sh e =
    let a = h.0.last in
    let b = h.0.place in
    let same = same_unit p x u sh e in
    omega arith

-- a spot may be stored into where its word has a unit behind it
pub free_told : (p : Spot) (x : Word) → Shows (At p) x → (x.behind ≡ 0 → ⊥) → p.fixed ≡ false
free_told p x h some = by p.fixed refl h
  where
    by : (fixed : Bool) → p.fixed ≡ fixed → IsSpotWord fixed p x → p.fixed ≡ false
    by true e h1 = absurd (some h1.behind)
    by false e h1 = e

pub lent_told : (p : Spot) (x : Word) → Shows (At p) x → x.behind ≡ 0 → p.fixed ≡ true
lent_told p x h none = by p.fixed refl h
  where
    by : (fixed : Bool) → p.fixed ≡ fixed → IsSpotWord fixed p x → p.fixed ≡ true
    by true e h1 = e
    by false e h1 = let z = h1.behind in let lt = h1.inside in absurd (omega arith)

-- a value that a word shows is small
pub shown_small : (v : Content) (x : Word) → Shows (Val v) x → IsSmall v
shown_small (Whole z) x h = h.small
shown_small (Truth b) x h = tt
shown_small Nothing x h = tt

-- over the same store
pub over_same : (o : Out Core) (s : Core) (w : World) (to : ℕ) (pile : List Word) (cells : List Cell) → Agrees cells w.state.store → GoesTo o s w to pile → GoesOver o s w to pile cells
over_same o s w to pile cells a g = record { stack = g.stack; store = w.state.store; is = g.is; stand = g.stand; agrees = a }
