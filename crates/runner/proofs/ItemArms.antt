-- An instruction that does something at a spot, with the records.
use Rattle.std.proofs.Common.{◌≡◌, ℕ, ◌<◌, ◌++◌, false, List, [], ◌∷◌, length, get_or, Some, sym, ap, ◌∙◌, subst}
use Rattle.std.specs.Prelude.{Ok, Err, ⊤}
use Rattle.std.proofs.lemmas.Option.{get_or_from_slice_get, slice_get_within}
use Rattle.std.specs.declared.option.Option.{Option}
use Rattle.ground.specs.declared.place.Place.{Place}
use Rattle.ground.specs.declared.value.Kind.{Kind}
use Rattle.f66_tree.specs.declared.editing.Way.{Way}
use Rattle.f66_tree.specs.Fields.{Fields}
use Rattle.f66_tree.specs.Turns.{Hand, is_over}
use Rattle.f66_tree.specs.World.{Record, World, Out, Gives, Halts, bind}
use Rattle.format_io.specs.Places.{Stand as Standing, hand_of}
use Rattle.record_flow.specs.declared.flow.Stop.{Stop}
use Rattle.record_flow.specs.declared.flow.Stop.TheVariants as stops
use Rattle.record_flow.specs.Flows as flows
use Rattle.stack_code.specs.Instructions as i
use Rattle.stack_code.specs.Instructions.{Instruction}
use Rattle.stack_code.specs.Safety.{AllWithin}
use Rattle.stack_code.specs.StackMachine.{Spot, Entry, At, Core, act, next, edited}
use Rattle.stack_code.specs.ValidCode.{Open}
use Rattle.runner.specs.declared.words.Word.{Word}
use Rattle.runner.specs.declared.words.Cell.{Cell}
use Rattle.runner.specs.Words.{Shows, Stand, pile_of}
use Rattle.runner.specs.Work.{MayHold, IsFine}
use Rattle.record_flow.proofs.Taking.{reads_by, flows_by}
use Rattle.runner.specs.Recording.{tape_at, Faces, InHand, IsInHand, HasWritten, LacksAct, IsActed, MayAct}
use Rattle.runner.specs.Exchanges.{IsSpot, GoesRight, Meets, AreWritten, LacksItem, IsExchange}
use Rattle.runner.proofs.Opening.{IsAmong, open_item}
use Rattle.runner.proofs.PlaceArms.{spot_in, spot_is, spot_stand}

-- the instruction does this at a spot that a word shows, and leaves this stack
pub record Spotted (o : Out Core) (go : Spot → Place → World → Out ⊤) (word : Word) (pile : List Word) (s : Core) (w : World) : Type 0 where
  pub spot : Spot
  pub below : List Entry
  pub shows : Shows (At spot) word
  pub stand : Stand below pile
  pub is : o ≡ bind (go spot s.frame.place w) (λ _ w1. Gives (next s below) w1)

right_first : (o : Out ⊤) (f : ⊤ → World → Out Core) → IsFine (bind o f) → GoesRight o
right_first (Gives a w) f h = tt
right_first (Halts e w) f h = h

written_first : (ws : List Record) (o : Out ⊤) (s : Core) → AreWritten ws o → HasWritten ws (bind o (λ _ w1. Gives s w1))
written_first ws (Gives a w) s h = h
written_first ws (Halts e w) s h = h

module _ {S K : Type 0} (left : S → Option (List ℕ)) (puts : K → List ℕ → K → Type 0) (faults : S → ℕ) (failures : K → ℕ) (i0 i1 : S) (o0 o1 : K) (plans : List Fields) (plan : ℕ) (j : Instruction) (go : Spot → Place → World → Out ⊤) (word : Word) (fs : Fields) (old new : flows.State) (buffer : List Word) (top top1 : ℕ) (cells cells1 : List Cell) (spotted : (s : Core) (w : World) → Stand s.stack (pile_of buffer top) → IsFine (act plans (Some j) s w) → Spotted (act plans (Some j) s w) go word (pile_of buffer top1) s w) (after : Open) (hand : Hand) (hand_is : hand ≡ hand_of fs old.stand) where
  meets : (s : Core) (w : World) (unread written : List Record) (f : Faces plans j buffer top cells (tape_at hand written unread) s w) → Meets (go (spotted s w f.stand f.fine).spot s.frame.place) cells (tape_at (hand_of fs old.stand) written unread) w
  meets s w unread written f =
      let r = spotted s w f.stand f.fine in
      record { agrees = f.agrees; taped = f.taped ∙ ap (λ h. tape_at h written unread) hand_is; right = right_first (go r.spot s.frame.place w) (λ _ w1. Gives (next s r.below) w1) (subst IsFine r.is f.fine) }

  lacks_at_spot : (rs : List Record) → LacksItem go word fs old.stand cells rs → LacksAct plans j hand buffer top cells rs
  lacks_at_spot rs lacks s w written f =
      let r = spotted s w f.stand f.fine in
      let c = lacks r.spot s.frame.place w written r.shows (meets s w rs written f) in
      (c.0, record { state = c.1.state; is = r.is ∙ ap (λ o. bind o (λ _ w1. Gives (next s r.below) w1)) c.1.is; shows = c.1.shows })

  pub spot_goes : InHand plans after (hand_of fs new.stand) new.stand plan → IsExchange left puts faults failures i0 i1 o0 o1 go word fs old new cells cells1 (Ok tt) → IsActed left puts faults failures i0 i1 o0 o1 plans j after hand old new buffer top cells buffer cells1 (Ok (top1, plan))
  spot_goes held x = (
    x.0,
    x.1,
    hand_of fs new.stand,
    flows_by left puts lacks_at_spot x.2,
    x.3,
    held,
    λ s w unread written f.
        let r = spotted s w f.stand f.fine in
        let c = x.4 r.spot s.frame.place w unread written r.shows (meets s w (x.0 ++ unread) written f) in
        record { stack = r.below; store = c.store; is = r.is ∙ ap (λ o. bind o (λ _ w1. Gives (next s r.below) w1)) c.is; stand = r.stand; agrees = c.agrees },
  )

  pub spot_stops : (stop : Stop) → IsExchange left puts faults failures i0 i1 o0 o1 go word fs old new cells cells1 (Err stop) → IsActed left puts faults failures i0 i1 o0 o1 plans j after hand old new buffer top cells buffer cells1 (Err stop)
  spot_stops (stops.Trapped e) x = (
    x.0,
    x.1,
    flows_by left puts lacks_at_spot x.2,
    x.3,
    λ s w unread written m f.
        let r = spotted s w f.stand f.fine in
        let c = x.4 r.spot s.frame.place w unread written m r.shows (meets s w (x.0 ++ unread) written f) in
        record { state = c.state; is = r.is ∙ ap (λ o. bind o (λ _ w1. Gives (next s r.below) w1)) c.is; shows = c.shows },
  )
  spot_stops stops.Input x = (
    x.0,
    x.1,
    flows_by left puts lacks_at_spot x.2,
    x.3,
    x.4,
    x.5,
    λ s w written f.
        let r = spotted s w f.stand f.fine in
        let c = x.6 r.spot s.frame.place w written r.shows (meets s w (x.0 ++ []) written f) in
        record { state = c.state; is = r.is ∙ ap (λ o. bind o (λ _ w1. Gives (next s r.below) w1)) c.is; shows = c.shows },
  )
  spot_stops stops.Output x = (
    x.0,
    x.1,
    reads_by left lacks_at_spot x.2,
    x.3,
    x.4,
    x.5,
    λ s w unread written f.
        let r = spotted s w f.stand f.fine in
        let c = x.6 r.spot s.frame.place w unread written r.shows (meets s w (x.0 ++ unread) written f) in
        subst (HasWritten (written ++ x.1)) (sym r.is) (written_first (written ++ x.1) (go r.spot s.frame.place w) (next s r.below) c),
    x.7,
  )

-- ---- the statement that is open ----

module _ (plans : List Fields) (plan : ℕ) (way : Way) (among after : Open) (hand : Hand) (stand : Standing) (held : InHand plans among hand stand plan) (is_among : IsAmong way among after) where
  open_there : IsInHand plans plan is_among.plan way hand stand
  open_there = subst (λ x. InHand plans x hand stand plan) is_among.is held

  pub open_way : stand.way ≡ way
  open_way = open_there.way_is

  pub open_plan : plan < length plans
  open_plan = slice_get_within plans plan open_there.fields open_there.there

  pub open_hand : (fs : Fields) → fs ≡ get_or plans plan fs → hand ≡ hand_of fs stand
  open_hand fs read = open_there.is ∙ ap (λ f. hand_of f stand) (sym (read ∙ get_or_from_slice_get plans plan open_there.fields fs open_there.there))

  pub open_after : (fs : Fields) → fs ≡ get_or plans plan fs → (new : Standing) → new.way ≡ way → is_over new.mark ≡ false → InHand plans after (hand_of fs new) new plan
  open_after fs read new way_is going =
      let same : fs ≡ open_there.fields = read ∙ get_or_from_slice_get plans plan open_there.fields fs open_there.there in
      subst (λ x. InHand plans x (hand_of fs new) new plan) (sym (is_among.stays ∙ is_among.is)) (record { number = open_there.number; fields = open_there.fields; there = open_there.there; is = ap (λ f. hand_of f new) same; way_is = way_is; going = going })

-- ---- one item ----

abbrev itemizing : Way → Kind → Core → World → Spot → List Entry → Out Core
itemizing way k s w p rest = bind (edited s.frame.place way k p w) (λ _ w1. Gives (next s rest) w1)

module _ (way : Way) (k : Kind) (buffer : List Word) (top : ℕ) where
  pub item_spot : (cells : List Cell) (m : MayHold (i.Item way k) buffer top cells) (below : List Word) (x : Word) → pile_of buffer top ≡ x ∷ below → IsSpot cells x
  item_spot cells m below x e =
      let o = spot_in _ (itemizing way k m.work.core m.work.world) m.work.core m.work.world m.work.right in
      record { spot = o.p; shows = (spot_stand m.work.core.stack o (pile_of buffer top) below x m.work.stand e).0; within = (subst (AllWithin (length cells)) o.is m.spots).0 }

  pub item_spotted : (top1 : ℕ) (x : Word) → pile_of buffer top ≡ x ∷ pile_of buffer top1 → (plans : List Fields) (s : Core) (w : World) → Stand s.stack (pile_of buffer top) → IsFine (act plans (Some (i.Item way k)) s w) → Spotted (act plans (Some (i.Item way k)) s w) (λ p place. edited place way k p) x (pile_of buffer top1) s w
  item_spotted top1 x e plans s w stand fine =
      let o = spot_in _ (itemizing way k s w) s w fine in
      let there = spot_stand s.stack o (pile_of buffer top) (pile_of buffer top1) x stand e in
      record { spot = o.p; below = o.below; shows = there.0; stand = there.1; is = spot_is (itemizing way k s w) s w o }

pub item_among : (way : Way) (k : Kind) (plans : List Fields) (plan : ℕ) (stand : Standing) (m : MayAct plans (i.Item way k) plan stand) → IsAmong way m.among m.after
item_among way k plans plan stand m = open_item way k m.among m.after m.opened
