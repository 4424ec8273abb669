-- Units of an array come or go one after the other.
use Rattle.std.proofs.Common.{◌≡◌, ℕ, suc, ◌+◌, ◌-◌, ◌^◌, ◌<◌, ◌≤◌, ◌++◌, Bool, true, false, List, [], ◌∷◌, length, Some, None, refl, sym, ap, ◌∙◌, subst, append_assoc, arith, nat_lt}
use Rattle.std.specs.Prelude.{Ok, Err, ⊤, if◌then◌else◌}
use Rattle.std.proofs.lemmas.List.{append-nil}
use Rattle.std.proofs.lemmas.Bool.{ltb-true}
use Rattle.std.proofs.lemmas.Grind.{flat_map-append}
use Rattle.std.specs.declared.option.Option.{Option}
use Rattle.ground.specs.declared.place.Place.{Place}
use Rattle.ground.specs.declared.trap.Trap.{Trap}
use Rattle.ground.specs.declared.trap.Trap.TheVariants.{EndOfInput, Subscript}
use Rattle.ground.specs.declared.value.Kind.{Kind}
use Rattle.f66_tree.specs.declared.editing.Way.{Way}
use Rattle.f66_tree.specs.Fields.{Fields}
use Rattle.f66_tree.specs.World.{Record, Store, World, Out, Gives, Halts, bind, settle, Try, Yields, Traps, Fails}
use Rattle.ports.proofs.PutsInARow.{puts_on}
use Rattle.ports.specs.Causes.{Rose}
use Rattle.ports.specs.Records.{output_bytes}
use Rattle.record_flow.specs.declared.flow.Stop.{Stop}
use Rattle.record_flow.specs.declared.flow.Stop.TheVariants as stops
use Rattle.format_io.specs.Places.{Stand as Standing}
use Rattle.record_flow.specs.Flows as flows
use Rattle.record_flow.specs.Flows.{tape, Flows, AreSteady}
use Rattle.record_flow.proofs.Taking.{reads_by, reads_on, flows_by, flows_on, flows_nothing}
use Rattle.record_flow.proofs.Puts.{none_behind}
use Rattle.stack_code.specs.Safety.{IsWithin}
use Rattle.stack_code.specs.StackMachine.{Spot, At, shift, edited, row}
use Rattle.runner.specs.declared.words.Word.{Word}
use Rattle.runner.specs.declared.words.Cell.{Cell}
use Rattle.runner.specs.Reaching.{Alike, Same, Many, IsShifted}
use Rattle.runner.specs.Words.{Shows, IsSpotWord, Agrees}
use Rattle.runner.specs.Blocks.{MovesUnits}
use Rattle.runner.specs.Exchanges.{IsSpot, Trips, GoesRight, Meets, AreWritten, LacksItem, IsExchange}
use Rattle.runner.proofs.Exchanging.{still}
use Rattle.runner.proofs.Keeping.{row_stays}

-- the world after a step with the store and the records
abbrev later : World → Store → flows.State → Fields → List Record → List Record → World
later w st now fs unread written = record { state = record { store = st; tape = tape fs now.stand unread written }; left = w.left; count = w.count }

-- what a row has come to at one of its units
pub record Reached (way : Way) (k : Kind) (index : ℕ) (p : Spot) (place : Place) (w : World) (fs : Fields) (now : flows.State) (cells : List Cell) (unread written : List Record) (total n : ℕ) : Type 0 where
  pub store : Store
  pub agrees : Agrees cells store
  pub is : row place way k p total 0 w ≡ row place way k p n index (later w store now fs unread written)

-- over these records alone one is lacking for a row of so many units or more
abbrev pub LacksRow : Way → Kind → Word → Fields → Standing → List Cell → ℕ → List Record → Type 0
LacksRow way k word fs stand cells index rs = (m : ℕ) → index ≤ m → LacksItem (λ p place. row place way k p m 0) word fs stand cells rs

pub record RowSince {S K : Type 0} (left : S → Option (List ℕ)) (puts : K → List ℕ → K → Type 0) (faults : S → ℕ) (failures : K → ℕ) (i0 i1 : S) (o0 o1 : K) (way : Way) (k : Kind) (word : Word) (fs : Fields) (old now : flows.State) (cells cells1 : List Cell) (index : ℕ) : Type 0 where
  pub taken : List Record
  pub put : List Record
  pub flows : Flows left puts (LacksRow way k word fs old.stand cells index) i0 i1 o0 o1 old.intake now.intake taken put
  pub steady : AreSteady faults failures i0 i1 o0 o1
  pub few : index < 2 ^ 31
  pub goes : (p : Spot) (place : Place) (w : World) (unread written : List Record) → Shows (At p) word → Agrees cells w.state.store → w.state.tape ≡ tape fs old.stand (taken ++ unread) written → (total n : ℕ) → total ≡ index + n → GoesRight (row place way k p total 0 w) → Reached way k index p place w fs now cells1 unread (written ++ put) total n

-- ---- one more place ----

pub record Shifted (p : Spot) (index : ℕ) (at : Word) : Type 0 where
  pub spot : Spot
  pub is : shift p index ≡ Yields spot
  pub shows : Shows (At spot) at
  pub inside : p.position + index < p.size
  pub first : spot.first ≡ p.first
  pub size : spot.size ≡ p.size
  pub position : spot.position ≡ p.position + index

pub shifted_to : (p : Spot) (index : ℕ) (at : Word) → IsShifted (shift p index) (Some at) → Shifted p index at
shifted_to p index at h = by (nat_lt (p.position + index) p.size) refl h
  where
    moved : Spot
    moved = record { first = p.first; size = p.size; position = p.position + index; fixed = p.fixed }

    by : (b : Bool) → nat_lt (p.position + index) p.size ≡ b → IsShifted (if b then Yields moved else Traps Subscript) (Some at) → Shifted p index at
    by true e s = record { spot = moved; is = ap (λ b. if b then Yields moved else Traps Subscript) e; shows = s; inside = ltb-true (p.position + index) p.size e; first = refl; size = refl; position = refl }
    by false e s = absurd s

pub not_shifted : (p : Spot) (index : ℕ) → IsShifted (shift p index) None → shift p index ≡ Traps Subscript
not_shifted p index h = by (shift p index) h
  where
    by : (t : Try Spot) → IsShifted t None → t ≡ Traps Subscript
    by (Yields q) s = absurd s
    by (Traps e) s = ap Traps s
    by Fails s = absurd s

small_size : (p : Spot) (word : Word) → Shows (At p) word → p.size < 2 ^ 31
small_size p word h = by p.fixed h
  where
    by : (b : Bool) → IsSpotWord b p word → p.size < 2 ^ 31
    by true s = let e = s.size in omega arith
    by false s = let e = s.behind in let f = s.few in omega arith

pub shifted_spot : (cells : List Cell) (word at : Word) (index : ℕ) (s : IsSpot cells word) → IsShifted (shift s.spot index) (Some at) → IsSpot cells at
shifted_spot cells word at index s h =
    let x = shifted_to s.spot index at h in
    let inside = x.inside in
    let last = s.within.last in
    let e1 = x.first in
    let e2 = x.size in
    let e3 = x.position in
    record { spot = x.spot; shows = x.shows; within = record { last = omega arith; place = omega arith } }

-- and so of as many cells
pub spot_in_all : (cells cells1 : List Cell) (word : Word) → length cells1 ≡ length cells → IsSpot cells word → IsSpot cells1 word
spot_in_all cells cells1 word same s = record { spot = s.spot; shows = s.shows; within = subst (λ n. IsWithin n s.spot) (sym same) s.within }

pub next_few : (cells : List Cell) (word at : Word) (index : ℕ) (s : IsSpot cells word) → IsShifted (shift s.spot index) (Some at) → index + 1 < 2 ^ 31
next_few cells word at index s h =
    let inside = (shifted_to s.spot index at h).inside in
    let small = small_size s.spot word s.shows in
    omega arith

pub reach_more : (index count m : ℕ) → index < count → count ≤ 2 ^ 31 → Alike count m → m ≡ index + suc (m - (index + 1))
reach_more index count m lt most (Same e) = omega arith
reach_more index count m lt most (Many a b) = omega arith

-- what is written stays while the row goes on
written_on : (ws : List Record) (o : Out ⊤) (place : Place) (way : Way) (k : Kind) (p : Spot) (n at : ℕ) → AreWritten ws o → AreWritten ws (bind o (λ _ w2. row place way k p n at w2))
written_on ws (Gives a w) place way k p n at h = still ws w (row place way k p n at w) h (row_stays place way k p n at w)
written_on ws (Halts e w) place way k p n at h = h

first_right : (o : Out ⊤) (f : ⊤ → World → Out ⊤) → GoesRight (bind o f) → GoesRight o
first_right (Gives a w) f h = tt
first_right (Halts e w) f h = h

module _ {S K : Type 0} (left : S → Option (List ℕ)) (puts : K → List ℕ → K → Type 0) (faults : S → ℕ) (failures : K → ℕ) (nothing : (s : K) → puts s [] s) (in_a_row : (a b c : K) (xs ys : List ℕ) → puts a xs b → puts b ys c → puts a (xs ++ ys) c) (way : Way) (k : Kind) (word : Word) (fs : Fields) where
  pub row_begun : (i : S) (o : K) (old : flows.State) (cells : List Cell) → RowSince left puts faults failures i i o o way k word fs old old cells cells 0
  row_begun i o old cells =
      record {
        taken = [];
        put = [];
        flows = flows_nothing left puts (LacksRow way k word fs old.stand cells 0) nothing i o old.intake;
        steady = record { input = refl; out = refl };
        few = omega arith;
        goes = λ p place w unread written shows agrees taped total n e right. record {
          store = w.state.store;
          agrees = agrees;
          is = let same : total ≡ n = omega arith in ap (λ t. row place way k p t 0 w) same ∙ ap (λ t. row place way k p n 0 (record { state = record { store = w.state.store; tape = t }; left = w.left; count = w.count })) (taped ∙ ap (λ ws. tape fs old.stand unread ws) (sym (append-nil written)));
        };
      }

  module _ (i0 i1 i2 : S) (o0 o1 o2 : K) (old now new : flows.State) (cells cells1 cells2 : List Cell) (index : ℕ) (s : RowSince left puts faults failures i0 i1 o0 o1 way k word fs old now cells cells1 index) where
    -- a longer row lacks what this one does
    lacks_longer : (at : ℕ) → index ≤ at → (rs : List Record) → LacksRow way k word fs old.stand cells index rs → LacksRow way k word fs old.stand cells at rs
    lacks_longer at le rs lacks m more = lacks m (omega (arith, le, more))

    lacks_whole : (m : ℕ) → index ≤ m → (rs : List Record) → LacksRow way k word fs old.stand cells index rs → LacksItem (λ p place. row place way k p m 0) word fs old.stand cells rs
    lacks_whole m le rs lacks = lacks m le

    -- the row ends
    pub row_done : (count m : ℕ) → index ≡ count → Alike count m → IsExchange left puts faults failures i0 i1 o0 o1 (λ p place. row place way k p m 0) word fs old now cells cells1 (Ok tt)
    row_done count m at (Same e) = (
      s.taken,
      s.put,
      flows_by left puts (lacks_whole m (omega arith)) s.flows,
      s.steady,
      λ p place w unread written shows f. let r = s.goes p place w unread written shows f.agrees f.taped m 0 (omega arith) f.right in record { store = r.store; is = r.is; agrees = r.agrees },
    )
    row_done count m at (Many a b) = absurd (let few = s.few in omega arith)

    -- a unit is not there
    pub row_past : (count m : ℕ) → index < count → count ≤ 2 ^ 31 → Alike count m → ((p : Spot) → Shows (At p) word → IsShifted (shift p index) None) → IsExchange left puts faults failures i0 i1 o0 o1 (λ p place. row place way k p m 0) word fs old now cells cells1 (Err (stops.Trapped Subscript))
    row_past count m lt most alike none = (
      s.taken,
      s.put,
      flows_by left puts (lacks_whole m (let e = reach_more index count m lt most alike in omega (arith, e))) s.flows,
      s.steady,
      λ p place w unread written may shows f.
          let r = s.goes p place w unread written shows f.agrees f.taped m (suc (m - (index + 1))) (reach_more index count m lt most alike) f.right in
          let v = later w r.store now fs unread (written ++ s.put) in
          record { state = v.state; is = r.is ∙ ap (λ t. bind (settle place t v) (λ q w1. bind (edited place way k q w1) (λ _ w2. row place way k p (m - (index + 1)) (index + 1) w2))) (not_shifted p index (none p shows)); shows = refl },
    )

    -- so many units come or go at once
    pub row_moves : (moved at : ℕ) → at ≡ index + moved → index + moved < 2 ^ 31 → new.intake ≡ now.intake → MovesUnits way k word index moved fs now.stand new.stand cells1 cells2 → RowSince left puts faults failures i0 i1 o0 o1 way k word fs old new cells cells2 at
    row_moves moved at is few intake m =
        record {
          taken = s.taken;
          put = s.put;
          flows = subst (λ c. Flows left puts (LacksRow way k word fs old.stand cells at) i0 i1 o0 o1 old.intake c s.taken s.put) (sym intake) (flows_by left puts (lacks_longer at (omega (arith, is))) s.flows);
          steady = s.steady;
          few = subst (λ v. v < 2 ^ 31) (sym is) few;
          goes = λ p place w unread written shows agrees taped total n e right.
              let r = s.goes p place w unread written shows agrees taped total (moved + n) (omega arith) right in
              let v = later w r.store now fs unread (written ++ s.put) in
              let a = m p place v unread (written ++ s.put) n shows r.agrees refl in
              record { store = a.store; agrees = a.agrees; is = r.is ∙ a.is ∙ ap (λ v. row place way k p n v (later w a.store new fs unread (written ++ s.put))) (sym is) };
        }

    module _ (at : Word) (made : (p : Spot) → Shows (At p) word → IsShifted (shift p index) (Some at)) where
      -- the unit is there
      record Inside (p : Spot) (place : Place) (w : World) (unread written : List Record) (total n : ℕ) : Type 0 where
        pub store : Store
        pub spot : Spot
        pub shows : Shows (At spot) at
        pub is : row place way k p total 0 w ≡ bind (edited place way k spot (later w store now fs unread written)) (λ _ w2. row place way k p n (index + 1) w2)
        pub meets : Meets (edited place way k spot) cells1 (tape fs now.stand unread written) (later w store now fs unread written)

      inside : (p : Spot) (place : Place) (w : World) (unread written : List Record) → Shows (At p) word → Agrees cells w.state.store → w.state.tape ≡ tape fs old.stand (s.taken ++ unread) written → (total n : ℕ) → total ≡ index + suc n → GoesRight (row place way k p total 0 w) → Inside p place w unread (written ++ s.put) total n
      inside p place w unread written shows agrees taped total n e right =
          let r = s.goes p place w unread written shows agrees taped total (suc n) e right in
          let v = later w r.store now fs unread (written ++ s.put) in
          let x = shifted_to p index at (made p shows) in
          let is : row place way k p total 0 w ≡ bind (edited place way k x.spot v) (λ _ w2. row place way k p n (index + 1) w2) =
          r.is ∙ ap (λ t. bind (settle place t v) (λ q w1. bind (edited place way k q w1) (λ _ w2. row place way k p n (index + 1) w2))) x.is in
          record {
            store = r.store;
            spot = x.spot;
            shows = x.shows;
            is = is;
            meets = record { agrees = r.agrees; taped = refl; right = first_right (edited place way k x.spot v) (λ _ w2. row place way k p n (index + 1) w2) (subst GoesRight is right) };
          }

      together : (t unread : List Record) (w : World) (written : List Record) → w.state.tape ≡ tape fs old.stand ((s.taken ++ t) ++ unread) written → w.state.tape ≡ tape fs old.stand (s.taken ++ (t ++ unread)) written
      together t unread w written e = e ∙ ap (λ l. tape fs old.stand l written) (append_assoc s.taken t unread)

      -- a record that is lacking for this unit is lacking for the row
      lacks_in_row : (m : ℕ) → index < m → (rs : List Record) → LacksItem (λ p place. edited place way k p) at fs now.stand cells1 rs → LacksItem (λ p place. row place way k p m 0) word fs old.stand cells (s.taken ++ rs)
      lacks_in_row m lt rs lacks p place w written shows f =
          let n = m - (index + 1) in
          let x = inside p place w rs written shows f.agrees f.taped m n (omega (arith, lt)) f.right in
          let c = lacks x.spot place (later w x.store now fs rs (written ++ s.put)) (written ++ s.put) x.shows x.meets in
          (c.0, record { state = c.1.state; is = x.is ∙ ap (λ o. bind o (λ _ w2. row place way k p n (index + 1) w2)) c.1.is; shows = c.1.shows })

      pub row_on : index + 1 < 2 ^ 31 → IsExchange left puts faults failures i1 i2 o1 o2 (λ p place. edited place way k p) at fs now new cells1 cells2 (Ok tt) → RowSince left puts faults failures i0 i2 o0 o2 way k word fs old new cells cells2 (index + 1)
      row_on few t =
          record {
            taken = s.taken ++ t.0;
            put = s.put ++ t.1;
            flows = flows_on left puts in_a_row i0 i1 i2 o0 o1 o2 old.intake now.intake new.intake s.taken t.0 s.put t.1 (λ rs lacks m le. lacks_in_row m (omega (arith, le)) rs lacks) (flows_by left puts (lacks_longer (index + 1) (omega arith)) s.flows) t.2;
            steady = record { input = t.3.input ∙ s.steady.input; out = t.3.out ∙ s.steady.out };
            few = few;
            goes = λ p place w unread written shows agrees taped total n e right.
                let x = inside p place w (t.0 ++ unread) written shows agrees (together t.0 unread w written taped) total n (omega arith) right in
                let c = t.4 x.spot place (later w x.store now fs (t.0 ++ unread) (written ++ s.put)) unread (written ++ s.put) x.shows x.meets in
                record { store = c.store; agrees = c.agrees; is = x.is ∙ ap (λ o. bind o (λ _ w2. row place way k p n (index + 1) w2)) c.is ∙ ap (λ ws. row place way k p n (index + 1) (later w c.store new fs unread ws)) (append_assoc written s.put t.1) };
          }

      module _ (count m : ℕ) (lt : index < count) (most : count ≤ 2 ^ 31) (alike : Alike count m) where
        abbrev rest : ℕ
        rest = m - (index + 1)

        inside_row : index < m
        inside_row = let e = reach_more index count m lt most alike in omega (arith, e)

        stopped_in : (p : Spot) (place : Place) (w : World) (unread written : List Record) (e : Trap) (ws : List Record) (x : Inside p place w unread written m rest) → Trips (edited place way k x.spot (later w x.store now fs unread written)) place (later w x.store now fs unread written) e ws → Trips (row place way k p m 0 w) place w e ws
        stopped_in p place w unread written e ws x c = record { state = c.state; is = x.is ∙ ap (λ o. bind o (λ _ w2. row place way k p rest (index + 1) w2)) c.is; shows = c.shows }

        pub row_stops : (stop : Stop) → IsExchange left puts faults failures i1 i2 o1 o2 (λ p place. edited place way k p) at fs now new cells1 cells2 (Err stop) → IsExchange left puts faults failures i0 i2 o0 o2 (λ p place. row place way k p m 0) word fs old new cells cells2 (Err stop)
        row_stops (stops.Trapped e) t = (
          s.taken ++ t.0,
          s.put ++ t.1,
          flows_on left puts in_a_row i0 i1 i2 o0 o1 o2 old.intake now.intake new.intake s.taken t.0 s.put t.1 (lacks_in_row m inside_row) (flows_by left puts (lacks_whole m (omega (arith, inside_row))) s.flows) t.2,
          record { input = t.3.input ∙ s.steady.input; out = t.3.out ∙ s.steady.out },
          λ p place w unread written may shows f.
              let x = inside p place w (t.0 ++ unread) written shows f.agrees (together t.0 unread w written f.taped) m rest (reach_more index count m lt most alike) f.right in
              let c = t.4 x.spot place (later w x.store now fs (t.0 ++ unread) (written ++ s.put)) unread (written ++ s.put) may x.shows x.meets in
              stopped_in p place w (t.0 ++ unread) (written ++ s.put) e (written ++ (s.put ++ t.1)) x (subst (Trips (edited place way k x.spot (later w x.store now fs (t.0 ++ unread) (written ++ s.put))) place (later w x.store now fs (t.0 ++ unread) (written ++ s.put)) e) (append_assoc written s.put t.1) c),
        )
        row_stops stops.Input t = (
          s.taken ++ t.0,
          s.put ++ t.1,
          flows_on left puts in_a_row i0 i1 i2 o0 o1 o2 old.intake now.intake new.intake s.taken t.0 s.put t.1 (lacks_in_row m inside_row) (flows_by left puts (lacks_whole m (omega (arith, inside_row))) s.flows) t.2,
          subst (λ n. Rose n (faults i2)) s.steady.input t.3,
          t.4 ∙ s.steady.out,
          t.5,
          λ p place w written shows f.
              let x = inside p place w (t.0 ++ []) written shows f.agrees (together t.0 [] w written f.taped) m rest (reach_more index count m lt most alike) f.right in
              let c = t.6 x.spot place (later w x.store now fs (t.0 ++ []) (written ++ s.put)) (written ++ s.put) x.shows x.meets in
              stopped_in p place w (t.0 ++ []) (written ++ s.put) EndOfInput (written ++ (s.put ++ t.1)) x (subst (Trips (edited place way k x.spot (later w x.store now fs (t.0 ++ []) (written ++ s.put))) place (later w x.store now fs (t.0 ++ []) (written ++ s.put)) EndOfInput) (append_assoc written s.put t.1) c),
        )
        row_stops stops.Output t = (
          s.taken ++ t.0,
          s.put ++ t.1,
          reads_on left i0 i1 i2 old.intake now.intake new.intake s.taken t.0 (lacks_in_row m inside_row) (reads_by left (lacks_whole m (omega (arith, inside_row))) s.flows.reads) t.2,
          puts_on puts in_a_row o0 o1 o2 (output_bytes s.put) (output_bytes t.1) [] (output_bytes (s.put ++ t.1)) s.flows.sent t.3 (flat_map-append (λ record_bytes. record_bytes ++ 10 ∷ []) s.put t.1 ∙ ap (λ (l : List ℕ). output_bytes s.put ++ l) (sym (append-nil (output_bytes t.1)))),
          t.4 ∙ s.steady.input,
          subst (λ n. Rose n (failures o2)) s.steady.out t.5,
          λ p place w unread written shows f.
              let x = inside p place w (t.0 ++ unread) written shows f.agrees (together t.0 unread w written f.taped) m rest (reach_more index count m lt most alike) f.right in
              let v = later w x.store now fs (t.0 ++ unread) (written ++ s.put) in
              let c = t.6 x.spot place v unread (written ++ s.put) x.shows x.meets in
              subst (AreWritten (written ++ (s.put ++ t.1))) (sym x.is) (written_on (written ++ (s.put ++ t.1)) (edited place way k x.spot v) place way k p rest (index + 1) (subst (λ ws. AreWritten ws (edited place way k x.spot v)) (append_assoc written s.put t.1) c)),
          λ none. t.7 (none_behind s.put t.1 none),
        )
