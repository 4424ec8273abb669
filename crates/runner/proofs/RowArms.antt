-- All units of an array are items.
use Rattle.std.proofs.Common.{◌≡◌, ℕ, zero, suc, ◌+◌, ◌*◌, ◌-◌, ◌≤◌, List, [], ◌∷◌, length, Option, Some, None, refl, sym, ap, ◌∙◌, subst, arith}
use Rattle.std.specs.Prelude.{Err}
use Rattle.std.proofs.lemmas.List.{append-nil}
use Rattle.ground.specs.declared.place.Place.{Place}
use Rattle.ground.specs.declared.trap.Trap.TheVariants.{Subscript}
use Rattle.ground.specs.declared.value.Kind.{Kind}
use Rattle.ground.specs.Content.{Content}
use Rattle.f66_tree.specs.declared.editing.Way.{Way}
use Rattle.f66_tree.specs.Fields.{Fields}
use Rattle.f66_tree.specs.Statements.{extent}
use Rattle.f66_tree.specs.Turns.{Hand}
use Rattle.f66_tree.specs.World.{World, Out, Gives, Halts, Ended, Trapped, bind, settle, Try, Yields, Traps, Fails}
use Rattle.record_flow.specs.declared.flow.Stop.TheVariants as stops
use Rattle.record_flow.specs.Flows as flows
use Rattle.record_flow.proofs.Taking.{flows_nothing}
use Rattle.stack_code.specs.Instructions as i
use Rattle.stack_code.specs.Instructions.{Instruction}
use Rattle.stack_code.specs.Safety.{IsRight, AllWithin}
use Rattle.stack_code.specs.StackMachine.{Spot, Entry, At, Core, act, next, row, on_spot}
use Rattle.stack_code.specs.ValidCode.{Open}
use Rattle.runner.specs.declared.words.Word.{Word}
use Rattle.runner.specs.declared.words.Cell.{Cell}
use Rattle.runner.specs.Words.{Stand, pile_of}
use Rattle.runner.specs.Work.{MayHold, IsFine, IsGiven}
use Rattle.runner.specs.Reaching.{product, exactly, IsProduct, Alike, Same}
use Rattle.runner.specs.Recording.{LacksAct, IsActed}
use Rattle.runner.specs.Exchanges.{IsSpot}
use Rattle.runner.proofs.Extents.{product_is, extent_is}
use Rattle.runner.proofs.ItemArms.{Spotted}
use Rattle.runner.proofs.Takes.{taken_values}
use Rattle.runner.proofs.Tops.{one_spot}

abbrev rowing : Way → Kind → Core → World → List Content → Spot → List Entry → Out Core
rowing way k s w ds p below = bind (settle s.frame.place (extent ds) w) (λ m w1. bind (row s.frame.place way k p m 0 w1) (λ _ w2. Gives (next s below) w2))

pub record ARow (o : Out Core) (way : Way) (k : Kind) (s : Core) (w : World) (n : ℕ) (buffer : List Word) (top : ℕ) : Type 0 where
  pub ds : List Content
  pub p : Spot
  pub under : List Entry
  pub low : ℕ
  pub is : o ≡ rowing way k s w ds p under
  pub high : low + n ≡ top
  pub extent_is : extent ds ≡ exactly buffer low n
  pub stand : Stand (At p ∷ under) (pile_of buffer low)
  pub within : (units : ℕ) → AllWithin units s.stack → AllWithin units (At p ∷ under)

first_given : (P : Core → Type 0) (place : Place) (t : Try ℕ) (w : World) (f : ℕ → World → Out Core) → IsRight P (bind (settle place t w) f) → IsGiven t
first_given P place (Yields m) w f h = tt
first_given P place (Traps e) w f h = tt
first_given P place Fails w f h = h

low_some : (e : Entry) (es : List Entry) (buffer : List Word) (low : ℕ) → Stand (e ∷ es) (pile_of buffer low) → 1 ≤ low
low_some e es buffer zero h = absurd h
low_some e es buffer (suc low) h = omega arith

module _ (way : Way) (k : Kind) (n : ℕ) (buffer : List Word) (top : ℕ) (le : top ≤ length buffer) where
  pub a_row : (P : Core → Type 0) (plans : List Fields) (s : Core) (w : World) → Stand s.stack (pile_of buffer top) → IsRight P (act plans (Some (i.Row way k n)) s w) → ARow (act plans (Some (i.Row way k n)) s w) way k s w n buffer top
  a_row P plans s w st h =
      let a = taken_values buffer P w n 0 s.stack [] (λ ds rest. on_spot w rest (rowing way k s w ds)) top le refl st tt h in
      let h1 = subst (IsRight P) a.is h in
      let c = one_spot P w a.rest (rowing way k s w a.got) h1 in
      let e = ap (λ es. on_spot w es (rowing way k s w a.got)) c.is in
      let g = first_given P s.frame.place (extent a.got) w _ (subst (IsRight P) e h1) in
      record {
        ds = a.got;
        p = c.p;
        under = c.below;
        low = a.low;
        is = a.is ∙ e;
        high = a.under;
        extent_is = extent_is buffer a.got n a.low (let l = a.long in omega arith) a.lies g;
        stand = subst (λ es. Stand es (pile_of buffer a.low)) c.is a.stand;
        within = λ units all. subst (AllWithin units) c.is (a.within units all);
      }

  pub row_tall : (cells : List Cell) (m : MayHold (i.Row way k n) buffer top cells) → n + 1 ≤ top
  row_tall cells m = let x = a_row _ m.work.plans m.work.core m.work.world m.work.stand m.work.right in let l = low_some (At x.p) x.under buffer x.low x.stand in let e = x.high in omega arith

  module _ (at : ℕ) (at_is : at ≡ top - n) where
    here : (o : Out Core) (s : Core) (w : World) (x : ARow o way k s w n buffer top) → x.low ≡ at
    here o s w x = let e = x.high in omega arith

    extent_here : (o : Out Core) (s : Core) (w : World) (x : ARow o way k s w n buffer top) → extent x.ds ≡ exactly buffer at n
    extent_here o s w x = x.extent_is ∙ ap (λ l. exactly buffer l n) (here o s w x)

    pub row_none : exactly buffer at n ≡ Traps Subscript → (plans : List Fields) (s : Core) (w : World) → Stand s.stack (pile_of buffer top) → IsFine (act plans (Some (i.Row way k n)) s w) → act plans (Some (i.Row way k n)) s w ≡ Halts (Ended (Trapped Subscript s.frame.place)) w
    row_none e plans s w st fine =
        let x = a_row _ plans s w st fine in
        x.is ∙ ap (λ y. bind (settle s.frame.place y w) (λ m1 w1. bind (row s.frame.place way k x.p m1 0 w1) (λ _ w2. Gives (next s x.under) w2))) (extent_here _ s w x ∙ e)

    module _ (word : Word) (words : pile_of buffer at ≡ word ∷ pile_of buffer (at - 1)) where
      stand_here : (o : Out Core) (s : Core) (w : World) (x : ARow o way k s w n buffer top) → Stand (At x.p ∷ x.under) (word ∷ pile_of buffer (at - 1))
      stand_here o s w x = subst (Stand (At x.p ∷ x.under)) (ap (pile_of buffer) (here o s w x) ∙ words) x.stand

      pub row_spot : (cells : List Cell) (m : MayHold (i.Row way k n) buffer top cells) → IsSpot cells word
      row_spot cells m =
          let x = a_row _ m.work.plans m.work.core m.work.world m.work.stand m.work.right in
          record { spot = x.p; shows = (stand_here _ m.work.core m.work.world x).0; within = (x.within (length cells) m.spots).0 }

      pub row_spotted : (m : ℕ) → exactly buffer at n ≡ Yields m → (plans : List Fields) (s : Core) (w : World) → Stand s.stack (pile_of buffer top) → IsFine (act plans (Some (i.Row way k n)) s w) → Spotted (act plans (Some (i.Row way k n)) s w) (λ p place. row place way k p m 0) word (pile_of buffer (at - 1)) s w
      row_spotted m e plans s w st fine =
          let x = a_row _ plans s w st fine in
          let t = stand_here _ s w x in
          record { spot = x.p; below = x.under; shows = t.0; stand = t.1; is = x.is ∙ ap (λ y. bind (settle s.frame.place y w) (λ m1 w1. bind (row s.frame.place way k x.p m1 0 w1) (λ _ w2. Gives (next s x.under) w2))) (extent_here _ s w x ∙ e) }

-- ---- how many ----

pub record Many (x : Try ℕ) (far : ℕ) : Type 0 where
  pub m : ℕ
  pub is : x ≡ Yields m
  pub alike : Alike far m

many_by : (x : Try ℕ) (far : ℕ) → IsProduct x (Some far) 1 → Many x far
many_by (Yields m) far h = record { m = m; is = refl; alike = subst (Alike far) (let e : 1 * m ≡ m = omega arith in e) h }
many_by (Traps t) far h = absurd h
many_by Fails far h = absurd h

none_by : (x : Try ℕ) → IsProduct x None 1 → x ≡ Traps Subscript
none_by (Yields m) h = absurd h
none_by (Traps t) h = ap Traps h
none_by Fails h = absurd h

module _ (buffer : List Word) (at n : ℕ) where
  pub many : (far : ℕ) → Some far ≡ product 1 buffer at n → Many (exactly buffer at n) far
  many far e = many_by (exactly buffer at n) far (subst (λ o. IsProduct (exactly buffer at n) o 1) (sym e) (product_is buffer n at 1 1 (Same refl)))

  pub none : None ≡ product 1 buffer at n → exactly buffer at n ≡ Traps Subscript
  none e = none_by (exactly buffer at n) (subst (λ o. IsProduct (exactly buffer at n) o 1) (sym e) (product_is buffer n at 1 1 (Same refl)))

-- no place is there, and nothing comes or goes
pub row_outside : {S K : Type 0} (left : S → Option (List ℕ)) (puts : K → List ℕ → K → Type 0) (faults : S → ℕ) (failures : K → ℕ) (nothing : (s : K) → puts s [] s) (i : S) (o : K) (plans : List Fields) (j : Instruction) (after : Open) (hand : Hand) (old : flows.State) (buffer : List Word) (top : ℕ) (cells : List Cell) → ((s : Core) (w : World) → Stand s.stack (pile_of buffer top) → IsFine (act plans (Some j) s w) → act plans (Some j) s w ≡ Halts (Ended (Trapped Subscript s.frame.place)) w) → IsActed left puts faults failures i i o o plans j after hand old old buffer top cells buffer cells (Err (stops.Trapped Subscript))
row_outside left puts faults failures nothing i o plans j after hand old buffer top cells is = (
  [],
  [],
  flows_nothing left puts (LacksAct plans j hand buffer top cells) nothing i o old.intake,
  record { input = refl; out = refl },
  λ s w unread written m f. record { state = w.state; is = is s w f.stand f.fine; shows = ap (λ t. t.written) f.taped ∙ sym (append-nil written) },
)
