-- What a record that comes in does, or that none comes.
use Rattle.std.proofs.Common.{◌≡◌, ℕ, ◌<◌, ◌≤◌, Bool, true, false, List, [], ◌∷◌, ◌++◌, length, take, drop, refl, sym, ap, ◌∙◌, subst, arith, nat_le, if◌then◌else◌}
use Rattle.std.specs.Prelude.{Result, Ok, Err}
use Rattle.std.proofs.lemmas.Bool.Decides.{nat_tests}
use Rattle.std.proofs.lemmas.List.{length-take-le, append-nil}
use Rattle.std.specs.declared.option.Option.{Option}
use Rattle.std.specs.Io.KnownBytes.{Consumes, IsAtEnd}
use Rattle.ground.specs.declared.trap.Trap.TheVariants.{EndOfInput, LongRecord}
use Rattle.f66_tree.specs.declared.editing.Way.TheVariants.{Reading, Writing}
use Rattle.f66_tree.specs.Fields.{Fields}
use Rattle.f66_tree.specs.Turns.{started, with_record}
use Rattle.f66_tree.specs.Editing.{Files, next_record, arrived, changed_by}
use Rattle.f66_tree.specs.Records.{read_begun}
use Rattle.f66_tree.specs.World.{Record, Tape, files_of, Moves}
use Rattle.format_io.specs.Places.{Stand, hand_of}
use Rattle.ports.specs.Causes.{Rose}
use Rattle.ports.specs.Puts.{PutsPrefix}
use Rattle.record_intake.specs.Intakes.{Content, Grows, Gets, IsNone, IsRecord, HasLong, IsLong, IsOver}
use Rattle.record_flow.specs.declared.flow.Stop.{Stop}
use Rattle.record_flow.specs.declared.flow.Stop.TheVariants as stops
use Rattle.record_flow.specs.Flows.{State, files, MayFollow, Reads}
use Rattle.record_flow.specs.Steps.{IsFetched, LacksRecord, IsChanged, LacksFirst, IsOpened}
use Rattle.record_flow.proofs.Taking.{takes_none, takes_one, follows_none, reads_nothing, reads_by, flows_put}

long_is : (r : Record) (rs : List Record) (f : Files) → 65535 < length r → next_record (r ∷ rs) f ≡ Err LongRecord
long_is r rs f long =
    let no : nat_le (length r) 65535 ≡ false = grind (arith, nat_tests, long) in
    ap (λ (b : Bool). if b then Ok (r, record { unread = rs; written = f.written }) else Err LongRecord) no

next_is : (r : Record) (rs : List Record) (f : Files) → nat_le (length r) 65535 ≡ true → next_record (r ∷ rs) f ≡ Ok (r, record { unread = rs; written = f.written })
next_is r rs f fits = ap (λ (b : Bool). if b then Ok (r, record { unread = rs; written = f.written }) else Err LongRecord) fits

long_by : (unread : List Record) (f : Files) → HasLong unread → next_record unread f ≡ Err LongRecord
long_by unread f h = ap (λ rs. next_record rs f) h.is ∙ long_is h.first h.others f h.long

-- ---- what was found ----

module _ {S : Type 0} (left : S → Option (List ℕ)) where
  -- a source that has told its end is there
  abbrev EndsWith : S → S → Content → Content → Type 0
  EndsWith i j old new = (old.ended ≡ true → IsAtEnd (left i)) → new.ended ≡ true → IsAtEnd (left j)

  pub reads_none : (i j : S) (old new : Content) → (got : List ℕ) × Grows old new got × Consumes (left i) (left j) got × Gets IsNone i j old got → EndsWith i j old new → Reads left IsNone i j old new []
  reads_none i j old new g ends = record { got = g.0; takes = takes_none old new g.0 g.1; consumes = g.2; gets = g.3; at_end = ends }

  pub reads_one : (i j : S) (old mid new : Content) (size next : ℕ) → (got : List ℕ) × Grows old mid got × Consumes (left i) (left j) got × Gets IsNone i j old got → EndsWith i j old mid → IsRecord mid size next → new.hand ≡ drop next mid.hand → new.ended ≡ mid.ended → Reads left IsNone i j old new (take size mid.hand ∷ [])
  reads_one i j old mid new size next g ends is hand ended = record { got = g.0; takes = takes_one old mid new g.0 size next g.1 is hand ended; consumes = g.2; gets = g.3; at_end = λ h e. ends h (sym ended ∙ e) }

pub record_fits : (c : Content) (size next : ℕ) → IsRecord c size next → size ≤ 65535 → nat_le (length (take size c.hand)) 65535 ≡ true
record_fits c size next is le =
    let order = is.order in
    let within = is.within in
    let long = length-take-le size c.hand (omega arith) in
    let short : length (take size c.hand) ≤ 65535 = omega arith in
    grind (arith, nat_tests, short)

pub record_is_long : (c : Content) (size next : ℕ) → IsRecord c size next → 65535 < size → (unread : List Record) (f : Files) → MayFollow c unread → next_record unread f ≡ Err LongRecord
record_is_long c size next is lt unread f m =
    let order = is.order in
    let within = is.within in
    let long = length-take-le size c.hand (omega arith) in
    ap (λ rs. next_record rs f) (m.is ∙ is.first m.failed m.later m.may) ∙ long_is _ _ f (omega arith)

pub long_comes : (c : Content) → IsLong c → (unread : List Record) (f : Files) → MayFollow c unread → next_record unread f ≡ Err LongRecord
long_comes c is unread f m = long_by unread f (subst HasLong (sym m.is) (is.first m.failed m.later))

pub none_comes : (c : Content) → IsOver c → (unread : List Record) (f : Files) → MayFollow c unread → next_record unread f ≡ Err EndOfInput
none_comes c over unread f m = ap (λ rs. next_record rs f) (follows_none c unread over m)

-- ---- a statement begins ----

-- without a record none is first
pub lacks_first : (fs : Fields) (rs : List Record) → IsNone rs → LacksFirst Reading fs rs
lacks_first fs rs none hand written =
    let t : Tape = record { unread = rs; written = written; hand = hand } in
    (t, ap (λ (l : List Record). read_begun fs t (next_record l (files_of t))) none)

module _ {S : Type 0} (left : S → Option (List ℕ)) (faults : S → ℕ) (i j : S) where
  opened_by : (fs : Fields) (intake : Content) (stand0 stand : Stand) (new : State) (r : Result (Unit {0}) Stop) → hand_of fs stand ≡ started Reading fs → IsFetched left faults i j (record { intake = intake; stand = stand }) new r → IsOpened left faults i j Reading fs (record { intake = intake; stand = stand0 }) new r
  opened_by fs intake stand0 stand new (Ok u) begun h = (
    h.0 ∷ [],
    reads_by left (lacks_first fs) h.1,
    h.2,
    λ hand unread written.
        ap (read_begun fs (record { unread = h.0 ∷ unread; written = written; hand = hand })) (next_is h.0 unread (files (h.0 ∷ unread) written) h.3)
        ∙ ap (λ x. Moves (record { unread = unread; written = written; hand = x })) (ap (λ x. with_record x h.0) (sym begun) ∙ sym (h.4 fs)),
  )
  opened_by fs intake stand0 stand new (Err (stops.Trapped e)) begun h = (reads_by left (lacks_first fs) h.0, h.1, λ hand unread written m. ap (read_begun fs (record { unread = unread; written = written; hand = hand })) (h.2 unread (files unread written) m))
  opened_by fs intake stand0 stand new (Err stops.Input) begun h = (reads_by left (lacks_first fs) h.0, h.1, h.2, λ hand written. refl)
  opened_by fs intake stand0 stand new (Err stops.Output) begun h = h

  pub opened_read : (fs : Fields) (intake : Content) (stand0 stand : Stand) (old new : State) (r : Result (Unit {0}) Stop) → record { intake = intake; stand = stand0 } ≡ old → hand_of fs stand ≡ started Reading fs → IsFetched left faults i j (record { intake = intake; stand = stand }) new r → IsOpened left faults i j Reading fs old new r
  opened_read fs intake stand0 stand old new r same begun h = subst (λ o. IsOpened left faults i j Reading fs o new r) same (opened_by fs intake stand0 stand new r begun h)

-- ---- a record changes ----

-- without a record none comes next
lacks_record : (s : Stand) → s.way ≡ Reading → (rs : List Record) → IsNone rs → LacksRecord s rs
lacks_record s reading rs none fs written = ap (λ w. changed_by w (hand_of fs s) (files rs written)) reading ∙ ap (λ (l : List Record). arrived (hand_of fs s) (next_record l (files rs written))) none

module _ {S K : Type 0} (left : S → Option (List ℕ)) (puts : K → List ℕ → K → Type 0) (faults : S → ℕ) (failures : K → ℕ) (nothing : (s : K) → puts s [] s) (i j : S) (o : K) where
  pub change_read : (old new : State) (r : Result (Unit {0}) Stop) → old.stand.way ≡ Reading → IsFetched left faults i j old new r → IsChanged left puts faults failures i j o o old new r
  change_read old new (Ok u) reading h = (
    h.0 ∷ [],
    [],
    record { reads = reads_by left (lacks_record old.stand reading) h.1; sent = nothing o },
    record { input = h.2; out = refl },
    λ fs unread written.
        ap (λ w. changed_by w (hand_of fs old.stand) (files (h.0 ∷ unread) written)) reading
        ∙ ap (arrived (hand_of fs old.stand)) (next_is h.0 unread (files (h.0 ∷ unread) written) h.3)
        ∙ (λ k. Ok (sym (h.4 fs) k, record { unread = unread; written = sym (append-nil written) k })),
  )
  change_read old new (Err (stops.Trapped e)) reading h = (
    record { reads = reads_by left (lacks_record old.stand reading) h.0; sent = nothing o },
    record { input = h.1; out = refl },
    λ fs unread written m. ap (λ w. changed_by w (hand_of fs old.stand) (files unread written)) reading ∙ ap (arrived (hand_of fs old.stand)) (h.2 unread (files unread written) m),
  )
  change_read old new (Err stops.Input) reading h = (
    record { reads = reads_by left (lacks_record old.stand reading) h.0; sent = nothing o },
    h.1,
    refl,
    h.2,
    λ fs written. ap (λ w. changed_by w (hand_of fs old.stand) (files [] written)) reading,
  )
  change_read old new (Err stops.Output) reading h = absurd h

-- the record in hand goes out
module _ {S K : Type 0} (left : S → Option (List ℕ)) (puts : K → List ℕ → K → Type 0) (faults : S → ℕ) (failures : K → ℕ) (i : S) (o q : K) where
  pub change_written : (old new : State) → old.stand.way ≡ Writing → new ≡ old → puts o (old.stand.line ++ 10 ∷ []) q → failures q ≡ failures o → IsChanged left puts faults failures i i o q old new (Ok tt)
  change_written old new writing same put steady = subst (λ n. IsChanged left puts faults failures i i o q old n (Ok tt)) (sym same) (
    [],
    old.stand.line ∷ [],
    flows_put left puts (LacksRecord old.stand) i o q old.intake old.stand.line put,
    record { input = refl; out = steady },
    λ fs unread written. ap (λ w. changed_by w (hand_of fs old.stand) (files unread written)) writing,
  )

  pub change_unput : (old new : State) → old.stand.way ≡ Writing → new ≡ old → PutsPrefix puts o (old.stand.line ++ 10 ∷ []) q → Rose (failures o) (failures q) → IsChanged left puts faults failures i i o q old new (Err stops.Output)
  change_unput old new writing same put rose = subst (λ n. IsChanged left puts faults failures i i o q old n (Err stops.Output)) (sym same) (
    reads_nothing left (LacksRecord old.stand) i old.intake,
    subst (λ l. PutsPrefix puts o l q) (sym (append-nil (old.stand.line ++ 10 ∷ []))) put,
    refl,
    rose,
    writing,
  )
