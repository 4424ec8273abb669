-- What the beginning of a DO and the end of its turns do.
use Rattle.std.proofs.Common.{◌≡◌, ℕ, ◌+◌, ◌≤◌, ◌<◌, Bool, true, false, List, [], ◌∷◌, length, refl, sym, ap, ◌∙◌, subst, arith, slice_get}
use Rattle.std.specs.Prelude.{ℤ, pos, ◌+ℤ◌, int_le, Some, None, if◌then◌else◌}
use Rattle.std.proofs.lemmas.Option.{none-some, same_Some}
use Rattle.ground.specs.declared.trap.Trap.TheVariants.{BadDo, ValueArgument, Undefined}
use Rattle.ground.specs.declared.value.Kind.TheVariants.{Integer}
use Rattle.ground.specs.Arithmetic.{IsInRange}
use Rattle.ground.specs.Content.{Content, Nothing, Whole, Truth}
use Rattle.f66_tree.specs.Fields.{Fields}
use Rattle.f66_tree.specs.World.{World, Store, put_in, Trapped, Ended, Out, Gives, Halts, bind, settle, Yields, Traps, holding}
use Rattle.f66_tree.specs.Evaluation.{asked}
use Rattle.stack_code.specs.Instructions as i
use Rattle.stack_code.specs.StackMachine.{Spot, Entry, Val, At, Core, on_spot, take_values, next, jump, act, unit_of, load, store, changed, loop_start, loop_turn, loop_in, limit_in, step_in, keep_loop}
use Rattle.stack_code.specs.Safety.{IsRight, AllWithin}
use Rattle.runner.specs.declared.words.Word.{Word}
use Rattle.runner.specs.declared.words.Cell.{Cell}
use Rattle.runner.specs.Words.{Shows, Stand, IsSmall, Agrees, content_of, content_in, pile_of}
use Rattle.runner.specs.Work.{MayHold, GoesOver, IsFine, fits, next_in}
use Rattle.runner.proofs.Tops.{tall, OneSpot}
use Rattle.runner.proofs.Cells.{agrees_as, same_unit, unit_within, free_told, lent_told}
use Rattle.runner.proofs.PlaceArms.{spot_in, spot_is, spot_stand, put_as}

-- ---- a DO begins ----

abbrev starting : ℕ → ℕ → Core → World → List Content → List Entry → Out Core
starting limit step s w vs rest = on_spot w rest (λ p below. loop_start s limit step p below w vs)

pub record Starting (es : List Entry) : Type 0 where
  pub first : ℤ
  pub last : ℤ
  pub step : ℤ
  pub p : Spot
  pub below : List Entry
  pub is : es ≡ Val (Whole step) ∷ Val (Whole last) ∷ Val (Whole first) ∷ At p ∷ below

whole_by : (P : Core → Type 0) (limit step : ℕ) (s : Core) (w : World) (p : Spot) (below : List Entry) (a b c : Content) → IsRight P (loop_start s limit step p below w (a ∷ b ∷ c ∷ [])) → Starting (Val c ∷ Val b ∷ Val a ∷ At p ∷ below)
whole_by P limit step s w p below (Whole a) (Whole b) (Whole c) h = record { first = a; last = b; step = c; p = p; below = below; is = refl }
whole_by P limit step s w p below (Whole a) (Whole b) (Truth c) h = absurd h
whole_by P limit step s w p below (Whole a) (Whole b) Nothing h = absurd h
whole_by P limit step s w p below (Whole a) (Truth b) c h = absurd h
whole_by P limit step s w p below (Whole a) Nothing c h = absurd h
whole_by P limit step s w p below (Truth a) b c h = absurd h
whole_by P limit step s w p below Nothing b c h = absurd h

start_by : (P : Core → Type 0) (limit step : ℕ) (s : Core) (w : World) (es : List Entry) → IsRight P (take_values w 3 es [] (starting limit step s w)) → Starting es
start_by P limit step s w [] h = absurd h
start_by P limit step s w (At p ∷ es) h = absurd h
start_by P limit step s w (Val c ∷ []) h = absurd h
start_by P limit step s w (Val c ∷ At p ∷ es) h = absurd h
start_by P limit step s w (Val c ∷ Val b ∷ []) h = absurd h
start_by P limit step s w (Val c ∷ Val b ∷ At p ∷ es) h = absurd h
start_by P limit step s w (Val c ∷ Val b ∷ Val a ∷ []) h = absurd h
start_by P limit step s w (Val c ∷ Val b ∷ Val a ∷ Val d ∷ es) h = absurd h
start_by P limit step s w (Val c ∷ Val b ∷ Val a ∷ At p ∷ es) h = whole_by P limit step s w p es a b c h

start_stand : (es : List Entry) (t : Starting es) (pile below : List Word) (x y z d : Word) → Stand es pile → pile ≡ z ∷ y ∷ x ∷ d ∷ below → Stand (Val (Whole t.step) ∷ Val (Whole t.last) ∷ Val (Whole t.first) ∷ At t.p ∷ t.below) (z ∷ y ∷ x ∷ d ∷ below)
start_stand es t pile below x y z d h e = subst (λ l. Stand l (z ∷ y ∷ x ∷ d ∷ below)) t.is (subst (Stand es) e h)

module _ (limit step : ℕ) (buffer : List Word) (top : ℕ) (cells : List Cell) (m : MayHold (i.LoopStart limit step) buffer top cells) where
  the_start : Starting m.work.core.stack
  the_start = start_by _ limit step m.work.core m.work.world m.work.core.stack m.work.right

  pub start_tall : 4 ≤ top
  start_tall =
      let e = ap length the_start.is in
      let l = tall (i.LoopStart limit step) buffer top m.work in
      omega arith

  module _ (below : List Word) (x y z d : Word) (e : pile_of buffer top ≡ z ∷ y ∷ x ∷ d ∷ below) where
    start_words : Stand (Val (Whole the_start.step) ∷ Val (Whole the_start.last) ∷ Val (Whole the_start.first) ∷ At the_start.p ∷ the_start.below) (z ∷ y ∷ x ∷ d ∷ below)
    start_words = start_stand m.work.core.stack the_start (pile_of buffer top) below x y z d m.work.stand e

    pub start_told : (p : Spot) × Shows (At p) d
    start_told = (the_start.p, start_words.1.1.1.0)

    pub start_there : (u : ℕ) → pos u ≡ d.value → u < length cells
    unfolding start_told
    start_there u told = unit_within (length cells) the_start.p the_start.below d u (subst (AllWithin (length cells)) the_start.is m.spots).1.1.1 start_told.1 told

-- what the test of the parameters comes to
start_is : (limit step : ℕ) (s : Core) (w : World) (p : Spot) (below : List Entry) (a b c : ℤ) (t : Bool) → fits a b c ≡ t → loop_start s limit step p below w (Whole a ∷ Whole b ∷ Whole c ∷ []) ≡ bind (settle s.frame.place (if t then Yields (record { limit = b; step = c }) else Traps BadDo) w) (λ k w1. bind (settle s.frame.place (store p (Whole a) w1.state.store) w1) (λ st w2. Gives (next s below) (holding (keep_loop limit step k st) w2)))
start_is limit step s w p below a b c t e = ap (λ x. bind (settle s.frame.place (if x then Yields (record { limit = b; step = c }) else Traps BadDo) w) (λ k w1. bind (settle s.frame.place (store p (Whole a) w1.state.store) w1) (λ st w2. Gives (next s below) (holding (keep_loop limit step k st) w2)))) e

kept_start : (limit step : ℕ) (s : Core) (w : World) (p : Spot) (below : List Entry) (a b c : ℤ) (t : Bool) → p.fixed ≡ t → bind (settle s.frame.place (store p (Whole a) w.state.store) w) (λ st w2. Gives (next s below) (holding (keep_loop limit step (record { limit = b; step = c }) st) w2)) ≡ bind (settle s.frame.place (if t then Traps ValueArgument else Yields (put_in (unit_of p) (Whole a) w.state.store)) w) (λ st w2. Gives (next s below) (holding (keep_loop limit step (record { limit = b; step = c }) st) w2))
kept_start limit step s w p below a b c t e = ap (λ x. bind (settle s.frame.place (if x then Traps ValueArgument else Yields (put_in (unit_of p) (Whole a) w.state.store)) w) (λ st w2. Gives (next s below) (holding (keep_loop limit step (record { limit = b; step = c }) st) w2))) e

module _ (limit step : ℕ) (pile below : List Word) (x y z d : Word) (e : pile ≡ z ∷ y ∷ x ∷ d ∷ below) (plans : List Fields) (s : Core) (w : World) (st : Stand s.stack pile) (fine : IsFine (act plans (Some (i.LoopStart limit step)) s w)) where
  begun : Starting s.stack
  begun = start_by _ limit step s w s.stack fine

  words : Stand (Val (Whole begun.step) ∷ Val (Whole begun.last) ∷ Val (Whole begun.first) ∷ At begun.p ∷ begun.below) (z ∷ y ∷ x ∷ d ∷ below)
  words = start_stand s.stack begun pile below x y z d st e

  by_values : act plans (Some (i.LoopStart limit step)) s w ≡ loop_start s limit step begun.p begun.below w (Whole x.value ∷ Whole y.value ∷ Whole z.value ∷ [])
  by_values =
      ap (λ es. take_values w 3 es [] (starting limit step s w)) begun.is ∙ ap (λ n. loop_start s limit step begun.p begun.below w (Whole n ∷ Whole begun.last ∷ Whole begun.step ∷ [])) (sym words.1.1.0.value)
      ∙ ap (λ n. loop_start s limit step begun.p begun.below w (Whole x.value ∷ Whole n ∷ Whole begun.step ∷ [])) (sym words.1.0.value) ∙ ap (λ n. loop_start s limit step begun.p begun.below w (Whole x.value ∷ Whole y.value ∷ Whole n ∷ [])) (sym words.0.value)

  fitting : fits x.value y.value z.value ≡ true → act plans (Some (i.LoopStart limit step)) s w ≡ bind (settle s.frame.place (store begun.p (Whole x.value) w.state.store) w) (λ st1 w2. Gives (next s begun.below) (holding (keep_loop limit step (record { limit = y.value; step = z.value }) st1) w2))
  fitting h = by_values ∙ start_is limit step s w begun.p begun.below x.value y.value z.value true h

  pub start_unfit : fits x.value y.value z.value ≡ false → act plans (Some (i.LoopStart limit step)) s w ≡ Halts (Ended (Trapped BadDo s.frame.place)) w
  start_unfit h = by_values ∙ start_is limit step s w begun.p begun.below x.value y.value z.value false h

  pub start_lent : fits x.value y.value z.value ≡ true → d.behind ≡ 0 → act plans (Some (i.LoopStart limit step)) s w ≡ Halts (Ended (Trapped ValueArgument s.frame.place)) w
  start_lent h lent = fitting h ∙ kept_start limit step s w begun.p begun.below x.value y.value z.value true (lent_told begun.p d words.1.1.1.0 lent)

  small_as : (n k : ℤ) → n ≡ k → IsSmall (Whole k) → IsSmall (Whole n)
  small_as n k e1 h = subst (λ m. IsSmall (Whole m)) (sym e1) h

  put_whole : (before behind : List Cell) (u : ℕ) (a : Content) (n : ℤ) (st1 : Store) → a ≡ Whole n → Agrees before st1 → IsSmall (Whole n) → ((st2 : Store) → Agrees before st2 → IsSmall a → Agrees behind (put_in u a st2)) → Agrees behind (put_in u (Whole n) st1)
  put_whole before behind u a n st1 e1 h small put = agrees_as behind st1 u u a (Whole n) refl e1 (put st1 h (subst IsSmall (sym e1) small))

  pub start_works : (cells cells1 cells2 cells3 : List Cell) (u : ℕ) (ca cb cc : Content) → ca ≡ Whole x.value → cb ≡ Whole y.value → cc ≡ Whole z.value → Agrees cells w.state.store → pos u ≡ d.value → fits x.value y.value z.value ≡ true → (d.behind ≡ 0 → ⊥)
      → ((st1 : Store) → Agrees cells st1 → IsSmall ca → Agrees cells1 (put_in u ca st1))
      → ((st1 : Store) → Agrees cells1 st1 → IsSmall cb → Agrees cells2 (put_in limit cb st1))
      → ((st1 : Store) → Agrees cells2 st1 → IsSmall cc → Agrees cells3 (put_in step cc st1))
      → GoesOver (act plans (Some (i.LoopStart limit step)) s w) s w (s.pc + 1) below cells3
  start_works cells cells1 cells2 cells3 u ca cb cc ea eb ec a told h free put1 put2 put3 =
      let first = put_as cells cells1 w.state.store begun.p d u ca (Whole x.value) a words.1.1.1.0 told ea (small_as x.value begun.first words.1.1.0.value words.1.1.0.small) put1 in
      let last = put_whole cells1 cells2 limit cb y.value (put_in (unit_of begun.p) (Whole x.value) w.state.store) eb first (small_as y.value begun.last words.1.0.value words.1.0.small) put2 in
      record {
        stack = begun.below;
        store = put_in step (Whole z.value) (put_in limit (Whole y.value) (put_in (unit_of begun.p) (Whole x.value) w.state.store));
        is = fitting h ∙ kept_start limit step s w begun.p begun.below x.value y.value z.value false (free_told begun.p d words.1.1.1.0 free);
        stand = words.1.1.1.1;
        agrees = put_whole cells2 cells3 step cc z.value (put_in limit (Whole y.value) (put_in (unit_of begun.p) (Whole x.value) w.state.store)) ec last (small_as z.value begun.step words.0.value words.0.small) put3;
      }

-- ---- a turn ends ----

next_some : (x : ℤ) (t : Bool) (n : ℤ) → (if t then Some x else None) ≡ Some n → (t ≡ true) × (x ≡ n)
next_some x true n e = (refl, same_Some _ _ e)
next_some x false n e = absurd (none-some n e)

next_none : (x : ℤ) (t : Bool) → (if t then Some x else None) ≡ None → t ≡ false
next_none x true e = absurd (none-some x (sym e))
next_none x false e = refl

pub cell_small : (cells : List Cell) (st : Store) → Agrees cells st → (u : ℕ) (x : Cell) → slice_get cells u ≡ Some x → IsSmall (content_of x)
cell_small cells st a u x e = subst IsSmall (a.same u ∙ ap content_in e) (a.small u)

pub turn_small : (cells : List Cell) (st : Store) → Agrees cells st → (u : ℕ) (x : Cell) → slice_get cells u ≡ Some x → (z : ℤ) → content_of x ≡ Whole z → IsInRange z
turn_small cells st a u x e z whole = subst IsSmall whole (cell_small cells st a u x e)

abbrev turning : ℕ → ℕ → ℕ → Core → World → Spot → List Entry → Out Core
turning limit step to s w p rest = bind (settle s.frame.place (load Integer p w.state.store) w) (λ v w1. loop_turn s to p rest w1 (loop_in limit step w1.state.store) v)

turn_is : (s : Core) (to : ℕ) (p : Spot) (rest : List Entry) (w : World) (n most : ℤ) (t : Bool) → int_le n most ≡ t → (if int_le n most then bind (settle s.frame.place (store p (Whole n) w.state.store) w) (λ st w1. Gives (jump s to rest) (holding st w1)) else changed s rest w (store p Nothing w.state.store)) ≡ (if t then bind (settle s.frame.place (store p (Whole n) w.state.store) w) (λ st w1. Gives (jump s to rest) (holding st w1)) else changed s rest w (store p Nothing w.state.store))
turn_is s to p rest w n most t e = ap (λ b. if b then bind (settle s.frame.place (store p (Whole n) w.state.store) w) (λ st w1. Gives (jump s to rest) (holding st w1)) else changed s rest w (store p Nothing w.state.store)) e

module _ (limit step to : ℕ) (pile below : List Word) (x : Word) (e : pile ≡ x ∷ below) (cells : List Cell) (u : ℕ) (told : pos u ≡ x.value) (c : Cell) (there : slice_get cells u ≡ Some c) (plans : List Fields) (s : Core) (w : World) (st : Stand s.stack pile) (a : Agrees cells w.state.store) (fine : IsFine (act plans (Some (i.LoopTurn limit step to)) s w)) where
  turned : OneSpot s.stack
  turned = spot_in _ (turning limit step to s w) s w fine

  word : Stand (At turned.p ∷ turned.below) (x ∷ below)
  word = spot_stand s.stack turned pile below x st e

  held : w.state.store (unit_of turned.p) ≡ content_of c
  held = ap w.state.store (sym (same_unit turned.p x u word.0 told)) ∙ a.same u ∙ ap content_in there

  read_is : act plans (Some (i.LoopTurn limit step to)) s w ≡ bind (settle s.frame.place (asked Integer (content_of c)) w) (λ v w1. loop_turn s to turned.p turned.below w1 (loop_in limit step w1.state.store) v)
  read_is = spot_is (turning limit step to s w) s w turned ∙ ap (λ v. bind (settle s.frame.place (asked Integer v) w) (λ v1 w1. loop_turn s to turned.p turned.below w1 (loop_in limit step w1.state.store) v1)) held

  pub turn_undefined : asked Integer (content_of c) ≡ Traps Undefined → act plans (Some (i.LoopTurn limit step to)) s w ≡ Halts (Ended (Trapped Undefined s.frame.place)) w
  turn_undefined none = read_is ∙ ap (λ t. bind (settle s.frame.place t w) (λ v1 w1. loop_turn s to turned.p turned.below w1 (loop_in limit step w1.state.store) v1)) none

  module _ (z : ℤ) (whole : content_of c ≡ Whole z) where
    by_whole : act plans (Some (i.LoopTurn limit step to)) s w ≡ loop_turn s to turned.p turned.below w (loop_in limit step w.state.store) (Whole z)
    by_whole = read_is ∙ ap (λ v. bind (settle s.frame.place (asked Integer v) w) (λ v1 w1. loop_turn s to turned.p turned.below w1 (loop_in limit step w1.state.store) v1)) whole

    pub turn_lent : x.behind ≡ 0 → act plans (Some (i.LoopTurn limit step to)) s w ≡ Halts (Ended (Trapped ValueArgument s.frame.place)) w
    turn_lent lent = by (int_le n (loop_in limit step w.state.store).limit) refl
      where
        n : ℤ
        n = z +ℤ (loop_in limit step w.state.store).step

        fixed : turned.p.fixed ≡ true
        fixed = lent_told turned.p x word.0 lent

        by : (t : Bool) → int_le n (loop_in limit step w.state.store).limit ≡ t → act plans (Some (i.LoopTurn limit step to)) s w ≡ Halts (Ended (Trapped ValueArgument s.frame.place)) w
        by true h = by_whole ∙ turn_is s to turned.p turned.below w n (loop_in limit step w.state.store).limit true h ∙ ap (λ b. bind (settle s.frame.place (if b then Traps ValueArgument else Yields (put_in (unit_of turned.p) (Whole n) w.state.store)) w) (λ st w1. Gives (jump s to turned.below) (holding st w1))) fixed
        by false h = by_whole ∙ turn_is s to turned.p turned.below w n (loop_in limit step w.state.store).limit false h ∙ ap (λ b. changed s turned.below w (if b then Traps ValueArgument else Yields (put_in (unit_of turned.p) Nothing w.state.store))) fixed

  module _ (z : ℤ) (whole : content_of c ≡ Whole z) (cl cs : Cell) (at_limit : slice_get cells limit ≡ Some cl) (at_step : slice_get cells step ≡ Some cs) where
    abbrev after : ℤ
    after = z +ℤ step_in (content_of cs)

    by_cells : act plans (Some (i.LoopTurn limit step to)) s w ≡ loop_turn s to turned.p turned.below w (record { limit = limit_in (content_of cl); step = step_in (content_of cs) }) (Whole z)
    by_cells =
        by_whole z whole ∙ ap (λ v. loop_turn s to turned.p turned.below w (record { limit = limit_in v; step = step_in (w.state.store step) }) (Whole z)) (a.same limit ∙ ap content_in at_limit)
        ∙ ap (λ v. loop_turn s to turned.p turned.below w (record { limit = limit_in (content_of cl); step = step_in v }) (Whole z)) (a.same step ∙ ap content_in at_step)

    going : (t : Bool) → int_le after (limit_in (content_of cl)) ≡ t → act plans (Some (i.LoopTurn limit step to)) s w ≡ (if t then bind (settle s.frame.place (store turned.p (Whole after) w.state.store) w) (λ st w1. Gives (jump s to turned.below) (holding st w1)) else changed s turned.below w (store turned.p Nothing w.state.store))
    going t h = by_cells ∙ turn_is s to turned.p turned.below w after (limit_in (content_of cl)) t h

    pub turn_on : (n : ℤ) (k : Content) (cells1 : List Cell) → k ≡ Whole n → next_in z cl cs ≡ Some n → (x.behind ≡ 0 → ⊥) → IsSmall (Whole n) → ((st1 : Store) → Agrees cells st1 → IsSmall k → Agrees cells1 (put_in u k st1)) → GoesOver (act plans (Some (i.LoopTurn limit step to)) s w) s w to below cells1
    turn_on n k cells1 same is free small put =
        let m = next_some after (int_le after (limit_in (content_of cl))) n is in
        record {
          stack = turned.below;
          store = put_in (unit_of turned.p) (Whole n) w.state.store;
          is =
              going true m.0 ∙ ap (λ b. bind (settle s.frame.place (if b then Traps ValueArgument else Yields (put_in (unit_of turned.p) (Whole after) w.state.store)) w) (λ st w1. Gives (jump s to turned.below) (holding st w1))) (free_told turned.p x word.0 free)
              ∙ ap (λ v. Gives (jump s to turned.below) (holding (put_in (unit_of turned.p) (Whole v) w.state.store) w)) m.1;
          stand = word.1;
          agrees = put_as cells cells1 w.state.store turned.p x u k (Whole n) a word.0 told same small put;
        }

    pub turn_past : (cells1 : List Cell) → next_in z cl cs ≡ None → (x.behind ≡ 0 → ⊥) → ((st1 : Store) → Agrees cells st1 → IsSmall Nothing → Agrees cells1 (put_in u Nothing st1)) → (pc : ℕ) → s.pc ≡ pc → GoesOver (act plans (Some (i.LoopTurn limit step to)) s w) s w (pc + 1) below cells1
    turn_past cells1 is free put pc here =
        let k = next_none after (int_le after (limit_in (content_of cl))) is in
        record {
          stack = turned.below;
          store = put_in (unit_of turned.p) Nothing w.state.store;
          is =
              going false k ∙ ap (λ b. changed s turned.below w (if b then Traps ValueArgument else Yields (put_in (unit_of turned.p) Nothing w.state.store))) (free_told turned.p x word.0 free)
              ∙ ap (λ m. Gives (jump s (m + 1) turned.below) (holding (put_in (unit_of turned.p) Nothing w.state.store) w)) here;
          stand = word.1;
          agrees = put_as cells cells1 w.state.store turned.p x u Nothing Nothing a word.0 told refl tt put;
        }
