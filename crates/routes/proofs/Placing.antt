-- In a unit whose lines are declarations and those of routes each label leads to its place, so it is a unit of routes.
use Rattle.std.proofs.Common.{◌≡◌, ℕ, ◌+◌, ◌≤◌, Bool, true, false, true≢false, List, [], ◌∷◌, ◌++◌, Option, Some, None, refl, sym, ap, ◌∙◌, arith, append_assoc}
use Rattle.std.specs.Prelude.{if◌then◌else◌}
use Rattle.ground.specs.declared.place.Place.{Place}
use Rattle.f66_tree.specs.declared.editing.Way.TheVariants.{Reading, Writing}
use Rattle.f66_tree.specs.Fields.{Fields}
use Rattle.f66_tree.specs.Syntax.{Act, Assign, Goto, Computed, Sign, When, Loop, Invoke, Continue, Stop, Return, Read, Write, Format, Typed, Dimension, Common, Equivalence, Preset, Line, labelled_line}
use Rattle.f66_tree.specs.Units.{is_note, Note, notes_of, format_by, format_of}
use Rattle.f66_tree.specs.Execution.{runnable, has_label, from_label, Closer, closers, closer_of}
use Rattle.routes.specs.Routes.{Route, Plain, BreakIf, Break, Ring, Cycle, Block, InTurn, Labelled, Transfer, Routes, NoRoute, AndRoute}
use Rattle.routes.specs.Code.{Behind, jump, here, labels, all_labels, code_of, all_code}
use Rattle.routes.specs.Placed.{IsPlain, Placed, AllPlaced}
use Rattle.routes.specs.Units.{ending}
use Rattle.routes.specs.Numbered.{bit, IsNumbered, OnlyPlain, AllPlain}
use Rattle.routes.specs.PlacedUnit.{AreDeclarations, is_do, AreUnlabelled, formats, all_formats, IsPlacedUnit}
use Rattle.routes.proofs.Distinct.{same_number, occurs, occurs_append, AreUnique, distinct}

-- ---- one statement ----

closer_none : (l : ℕ) (a : Act) (rest : List Line) (found : List Closer) → is_do a ≡ false → closer_of l a rest found ≡ found
closer_none l (Loop m y i1 i2 i3) rest found is = absurd (true≢false is)
closer_none l (Assign y e) rest found is = refl
closer_none l (Goto m) rest found is = refl
closer_none l (Computed ms y) rest found is = refl
closer_none l (Sign e i1 i2 i3) rest found is = refl
closer_none l (When e a) rest found is = refl
closer_none l (Invoke y es) rest found is = refl
closer_none l Continue rest found is = refl
closer_none l (Stop i) rest found is = refl
closer_none l Return rest found is = refl
closer_none l (Read i m es) rest found is = refl
closer_none l (Write i m es) rest found is = refl
closer_none l (Format fs) rest found is = refl
closer_none l (Typed t es) rest found is = refl
closer_none l (Dimension es) rest found is = refl
closer_none l (Common es) rest found is = refl
closer_none l (Equivalence es) rest found is = refl
closer_none l (Preset es) rest found is = refl

note_no_do : (a : Act) → is_note a ≡ true → is_do a ≡ false
note_no_do (Loop m y i1 i2 i3) is = absurd (true≢false (sym is))
note_no_do (Assign y e) is = refl
note_no_do (Goto m) is = refl
note_no_do (Computed ms y) is = refl
note_no_do (Sign e i1 i2 i3) is = refl
note_no_do (When e a) is = refl
note_no_do (Invoke y es) is = refl
note_no_do Continue is = refl
note_no_do (Stop i) is = refl
note_no_do Return is = refl
note_no_do (Read i m es) is = refl
note_no_do (Write i m es) is = refl
note_no_do (Format fs) is = refl
note_no_do (Typed t es) is = refl
note_no_do (Dimension es) is = refl
note_no_do (Common es) is = refl
note_no_do (Equivalence es) is = refl
note_no_do (Preset es) is = refl

-- a plain statement is executed, and is no DO
plain_is : (a : Act) → IsPlain a → (is_note a ≡ false) × (is_do a ≡ false)
plain_is (Assign y e) is = (refl, refl)
plain_is (Goto m) is = (refl, refl)
plain_is (Computed ms y) is = (refl, refl)
plain_is (Sign e i1 i2 i3) is = (refl, refl)
plain_is (Invoke y es) is = (refl, refl)
plain_is Continue is = (refl, refl)
plain_is (Stop i) is = (refl, refl)
plain_is Return is = (refl, refl)
plain_is (When e a) is = absurd is
plain_is (Loop m y i1 i2 i3) is = absurd is
plain_is (Read i m es) is = absurd is
plain_is (Write i m es) is = absurd is
plain_is (Format fs) is = absurd is
plain_is (Typed t es) is = absurd is
plain_is (Dimension es) is = absurd is
plain_is (Common es) is = absurd is
plain_is (Equivalence es) is = absurd is
plain_is (Preset es) is = absurd is

-- a format with another label
format_other : (l : ℕ) (o : Option ℕ) (a : Act) (other : Option Fields) → has_label l o ≡ false → format_by l o a other ≡ other
format_other l None a other is = refl
format_other l (Some q) (Format fs) other is = ap (λ v. if v then Some fs else other) is
format_other l (Some q) (Assign y e) other is = refl
format_other l (Some q) (Goto m) other is = refl
format_other l (Some q) (Computed ms y) other is = refl
format_other l (Some q) (Sign e i1 i2 i3) other is = refl
format_other l (Some q) (When e a) other is = refl
format_other l (Some q) (Loop m y i1 i2 i3) other is = refl
format_other l (Some q) (Invoke y es) other is = refl
format_other l (Some q) Continue other is = refl
format_other l (Some q) (Stop i) other is = refl
format_other l (Some q) Return other is = refl
format_other l (Some q) (Read i m es) other is = refl
format_other l (Some q) (Write i m es) other is = refl
format_other l (Some q) (Typed t es) other is = refl
format_other l (Some q) (Dimension es) other is = refl
format_other l (Some q) (Common es) other is = refl
format_other l (Some q) (Equivalence es) other is = refl
format_other l (Some q) (Preset es) other is = refl

-- ---- the lines from one place on, within all ----

record Within (rest code : List Line) : Type 0 where
  before : List Line
  is : before ++ rest ≡ code

within_self : (rest : List Line) → Within rest rest
within_self rest = record { before = []; is = refl }

within_in : {a b c : List Line} → Within a b → Within b c → Within a c
within_in {a} h k = record { before = k.before ++ h.before; is = append_assoc k.before h.before a ∙ ap (λ l. k.before ++ l) h.is ∙ k.is }

within_cons : {a b : List Line} (s : Line) → Within a b → Within a (s ∷ b)
within_cons s h = record { before = s ∷ h.before; is = ap (λ l. s ∷ l) h.is }

within_tail : {a c : List Line} (s : Line) → Within (s ∷ a) c → Within a c
within_tail {a} s h = within_in (within_cons s (within_self a)) h

-- a label that stands once is not that of a line before its place
unlike_before : (l : ℕ) (s t : Line) (pre rest : List Line) → has_label l t.label ≡ true → occurs l (s ∷ pre ++ t ∷ rest) ≤ 1 → has_label l s.label ≡ false
unlike_before l s t pre rest is le = go (has_label l s.label) refl
  where
    go : (b : Bool) → has_label l s.label ≡ b → b ≡ false
    go true e = absurd (omega (arith, le, ap bit e, ap bit is, occurs_append l pre (t ∷ rest)))
    go false e = refl

-- the place of a label
found_after : (l : ℕ) (t : Line) (rest pre : List Line) → has_label l t.label ≡ true → occurs l (pre ++ t ∷ rest) ≤ 1 → from_label l (pre ++ t ∷ rest) ≡ t ∷ rest
found_after l t rest [] is le = ap (λ b. if b then (t ∷ rest) else from_label l rest) is
found_after l t rest (s ∷ pre) is le =
    ap (λ b. if b then (s ∷ pre ++ t ∷ rest) else from_label l (pre ++ t ∷ rest)) (unlike_before l s t pre rest is le) ∙ found_after l t rest pre is (omega (arith, le))

found : {code rest : List Line} (l : ℕ) (p : Place) → AreUnique code → Within (here l p ∷ rest) code → from_label l code ≡ here l p ∷ rest
found {code} {rest} l p unique h =
    let le : occurs l (h.before ++ here l p ∷ rest) ≤ 1 = omega (arith, ap (occurs l) h.is, unique l) in
    ap (from_label l) (sym h.is) ∙ found_after l (here l p) rest h.before (same_number l) le

-- the format of a label
format_after : (l : ℕ) (p : Place) (fs : Fields) (rest pre : List Line) → occurs l (pre ++ labelled_line l p (Format fs) ∷ rest) ≤ 1 → format_of l (notes_of (pre ++ labelled_line l p (Format fs) ∷ rest)) ≡ Some fs
format_after l p fs rest [] le = ap (λ b. if b then Some fs else format_of l (notes_of rest)) (same_number l)
format_after l p fs rest (s ∷ pre) le = go (is_note s.act) (format_after l p fs rest pre (omega (arith, le)))
  where
    unlike : has_label l s.label ≡ false
    unlike = unlike_before l s (labelled_line l p (Format fs)) pre rest (same_number l) le

    later : List Note
    later = notes_of (pre ++ labelled_line l p (Format fs) ∷ rest)

    go : (b : Bool) → format_of l later ≡ Some fs → format_of l (if b then (record { label = s.label; act = s.act } ∷ later) else later) ≡ Some fs
    go true e = format_other l s.label s.act (format_of l later) unlike ∙ e
    go false e = e

found_format : {code rest : List Line} (l : ℕ) (p : Place) (fs : Fields) → AreUnique code → Within (labelled_line l p (Format fs) ∷ rest) code → format_of l (notes_of code) ≡ Some fs
found_format {code} {rest} l p fs unique h =
    let le : occurs l (h.before ++ labelled_line l p (Format fs) ∷ rest) ≤ 1 = omega (arith, ap (occurs l) h.is, unique l) in
    ap (λ c. format_of l (notes_of c)) (sym h.is) ∙ format_after l p fs rest h.before le

-- ---- before and behind the routes ----

runs_declared : (before rest : List Line) → AreDeclarations before → runnable (before ++ rest) ≡ runnable rest
runs_declared [] rest is = refl
runs_declared (s ∷ before) rest is = ap (λ b. if b then runnable (before ++ rest) else (s ∷ before ++ rest)) is.1 ∙ runs_declared before rest is.2

closers_declared : (m : ℕ) (before rest : List Line) → AreDeclarations before → closers m (before ++ rest) ≡ closers m rest
closers_declared m [] rest is = refl
closers_declared m (s ∷ before) rest is = closer_none m s.act (before ++ rest) (closers m (before ++ rest)) (note_no_do s.act is.1) ∙ closers_declared m before rest is.2

closers_unlabelled : (m : ℕ) (next : List Line) → AreUnlabelled next → closers m next ≡ []
closers_unlabelled m [] is = refl
closers_unlabelled m (s ∷ next) is = closer_none m s.act next (closers m next) is.1 ∙ closers_unlabelled m next is.2

notes_declared : (before rest : List Line) → AreDeclarations before → notes_of (before ++ rest) ≡ notes_of before ++ notes_of rest
notes_declared [] rest is = refl
notes_declared (s ∷ before) rest is =
    ap (λ b. if b then (record { label = s.label; act = s.act } ∷ notes_of (before ++ rest)) else notes_of (before ++ rest)) is.1
    ∙ ap (λ q. record { label = s.label; act = s.act } ∷ q) (notes_declared before rest is.2)
    ∙ ap (λ b. (if b then (record { label = s.label; act = s.act } ∷ notes_of before) else notes_of before) ++ notes_of rest) (sym is.1)

module _ (made : ℕ → ℕ) where
  mutual
    within_route : (r : Route) (n : ℕ) (ls : Behind) (next : List Line) → Within next (code_of made r n ls next)
    within_route (Plain p a) n ls next = within_cons _ (within_self next)
    within_route (BreakIf p e k) n ls next = within_cons _ (within_self next)
    within_route (Break p k) n ls next = within_cons _ (within_self next)
    within_route (Ring p rs) n ls next = within_in (within_cons _ (within_self next)) (within_all rs (n + 1) (made n ∷ ls) (here (made n) p ∷ next))
    within_route (Cycle p top rest) n ls next =
        let out = jump p (made n) ∷ here (made (n + 1)) p ∷ next in
        let second = all_code made rest (n + 2 + all_labels top) (made (n + 1) ∷ ls) out in
        within_cons _ (within_in (within_in (within_cons _ (within_cons _ (within_self next))) (within_all rest (n + 2 + all_labels top) (made (n + 1) ∷ ls) out)) (within_all top (n + 2) (made (n + 1) ∷ ls) second))
    within_route (Block rs) n ls next = within_all rs n ls next
    within_route (InTurn rs) n ls next = within_all rs n ls next
    within_route (Labelled m p r) n ls next = within_cons _ (within_route r n ls next)
    within_route (Transfer p way u fs es) n ls next = within_cons _ (within_cons _ (within_self next))

    within_all : (rs : Routes) (n : ℕ) (ls : Behind) (next : List Line) → Within next (all_code made rs n ls next)
    within_all NoRoute n ls next = within_self next
    within_all (AndRoute r rs) n ls next = within_in (within_all rs (n + labels r) ls next) (within_route r n ls (all_code made rs (n + labels r) ls next))

  -- no line of routes is a DO
  mutual
    closers_route : (m : ℕ) (r : Route) (n : ℕ) (ls : Behind) (next : List Line) → OnlyPlain r → closers m (code_of made r n ls next) ≡ closers m next
    closers_route m (Plain p a) n ls next is = closer_none m a next (closers m next) (plain_is a is).1
    closers_route m (BreakIf p e k) n ls next is = refl
    closers_route m (Break p k) n ls next is = refl
    closers_route m (Ring p rs) n ls next is = closers_all m rs (n + 1) (made n ∷ ls) (here (made n) p ∷ next) is
    closers_route m (Cycle p top rest) n ls next is =
        let out = jump p (made n) ∷ here (made (n + 1)) p ∷ next in
        let second = all_code made rest (n + 2 + all_labels top) (made (n + 1) ∷ ls) out in
        closers_all m top (n + 2) (made (n + 1) ∷ ls) second is.0 ∙ closers_all m rest (n + 2 + all_labels top) (made (n + 1) ∷ ls) out is.1
    closers_route m (Block rs) n ls next is = closers_all m rs n ls next is
    closers_route m (InTurn rs) n ls next is = closers_all m rs n ls next is
    closers_route m (Labelled q p r) n ls next is = closers_route m r n ls next is
    closers_route m (Transfer p Reading u fs es) n ls next is = refl
    closers_route m (Transfer p Writing u fs es) n ls next is = refl

    closers_all : (m : ℕ) (rs : Routes) (n : ℕ) (ls : Behind) (next : List Line) → AllPlain rs → closers m (all_code made rs n ls next) ≡ closers m next
    closers_all m NoRoute n ls next is = refl
    closers_all m (AndRoute r rs) n ls next is = closers_route m r n ls (all_code made rs (n + labels r) ls next) is.0 ∙ closers_all m rs (n + labels r) ls next is.1

  -- no line of routes is a note but their formats
  mutual
    notes_route : (r : Route) (n : ℕ) (ls : Behind) (next : List Line) → OnlyPlain r → notes_of (code_of made r n ls next) ≡ formats made r n (notes_of next)
    notes_route (Plain p a) n ls next is = ap (λ b. if b then (record { label = None; act = a } ∷ notes_of next) else notes_of next) (plain_is a is).0
    notes_route (BreakIf p e k) n ls next is = refl
    notes_route (Break p k) n ls next is = refl
    notes_route (Ring p rs) n ls next is = notes_all rs (n + 1) (made n ∷ ls) (here (made n) p ∷ next) is
    notes_route (Cycle p top rest) n ls next is =
        let out = jump p (made n) ∷ here (made (n + 1)) p ∷ next in
        let second = all_code made rest (n + 2 + all_labels top) (made (n + 1) ∷ ls) out in
        notes_all top (n + 2) (made (n + 1) ∷ ls) second is.0 ∙ ap (all_formats made top (n + 2)) (notes_all rest (n + 2 + all_labels top) (made (n + 1) ∷ ls) out is.1)
    notes_route (Block rs) n ls next is = notes_all rs n ls next is
    notes_route (InTurn rs) n ls next is = notes_all rs n ls next is
    notes_route (Labelled m p r) n ls next is = notes_route r n ls next is
    notes_route (Transfer p Reading u fs es) n ls next is = refl
    notes_route (Transfer p Writing u fs es) n ls next is = refl

    notes_all : (rs : Routes) (n : ℕ) (ls : Behind) (next : List Line) → AllPlain rs → notes_of (all_code made rs n ls next) ≡ all_formats made rs n (notes_of next)
    notes_all NoRoute n ls next is = refl
    notes_all (AndRoute r rs) n ls next is =
        notes_route r n ls (all_code made rs (n + labels r) ls next) is.0 ∙ ap (formats made r n) (notes_all rs (n + labels r) ls next is.1)

  -- each label leads to its place
  module _ (code : List Line) (unique : AreUnique code) where
    mutual
      placed_route : (r : Route) (n : ℕ) (ls : Behind) (next : List Line) → OnlyPlain r → Within (code_of made r n ls next) code → Placed made (notes_of code) code r n ls next
      placed_route (Plain p a) n ls next is h = is
      placed_route (BreakIf p e k) n ls next is h = tt
      placed_route (Break p k) n ls next is h = tt
      placed_route (Ring p rs) n ls next is h =
          (found (made n) p unique (within_in (within_all rs (n + 1) (made n ∷ ls) (here (made n) p ∷ next)) h), placed_all rs (n + 1) (made n ∷ ls) (here (made n) p ∷ next) is h)
      placed_route (Cycle p top rest) n ls next is h =
          let out = jump p (made n) ∷ here (made (n + 1)) p ∷ next in
          let second = all_code made rest (n + 2 + all_labels top) (made (n + 1) ∷ ls) out in
          let at_top = within_tail _ h in
          let at_rest = within_in (within_all top (n + 2) (made (n + 1) ∷ ls) second) at_top in
          let at_end = within_tail _ (within_in (within_all rest (n + 2 + all_labels top) (made (n + 1) ∷ ls) out) at_rest) in
          (found (made n) p unique h, found (made (n + 1)) p unique at_end, placed_all top (n + 2) (made (n + 1) ∷ ls) second is.0 at_top, placed_all rest (n + 2 + all_labels top) (made (n + 1) ∷ ls) out is.1 at_rest)
      placed_route (Block rs) n ls next is h = placed_all rs n ls next is h
      placed_route (InTurn rs) n ls next is h = placed_all rs n ls next is h
      placed_route (Labelled m p r) n ls next is h = (found m p unique h, placed_route r n ls next is (within_tail _ h))
      placed_route (Transfer p way u fs es) n ls next is h = found_format (made n) p fs unique (within_tail _ h)

      placed_all : (rs : Routes) (n : ℕ) (ls : Behind) (next : List Line) → AllPlain rs → Within (all_code made rs n ls next) code → AllPlaced made (notes_of code) code rs n ls next
      placed_all NoRoute n ls next is h = tt
      placed_all (AndRoute r rs) n ls next is h = (
        placed_route r n ls (all_code made rs (n + labels r) ls next) is.0 h,
        placed_all rs (n + labels r) ls next is.1 (within_in (within_route r n ls (all_code made rs (n + labels r) ls next)) h),
      )

-- the end of a unit
pub ending_unlabelled : (main : Bool) (p : Place) → AreUnlabelled (ending main p)
ending_unlabelled true p = (refl, refl, tt)
ending_unlabelled false p = (refl, refl, tt)

-- a unit of declarations and then the lines of routes is placed
pub placed_unit : (made : ℕ → ℕ) (rs : Routes) (before next : List Line) → IsNumbered made rs → AllPlain rs → AreDeclarations before → AreUnlabelled next →
    IsPlacedUnit made rs next (notes_of (before ++ all_code made rs 0 [] next)) (before ++ all_code made rs 0 [] next)
placed_unit made rs before next ok plain declared unlabelled = record {
  executed = runs_declared before (all_code made rs 0 [] next) declared;
  placed = placed_all made (before ++ all_code made rs 0 [] next) (distinct made rs before next ok declared unlabelled) rs 0 [] next plain (record { before = before; is = refl });
  no_do = λ m. closers_declared m before (all_code made rs 0 [] next) declared ∙ closers_all made m rs 0 [] next plain ∙ closers_unlabelled m next unlabelled;
}

-- the notes of such a unit are its declarations and its formats
pub unit_notes : (made : ℕ → ℕ) (rs : Routes) (before next : List Line) → AllPlain rs → AreDeclarations before →
    notes_of (before ++ all_code made rs 0 [] next) ≡ notes_of before ++ all_formats made rs 0 (notes_of next)
unit_notes made rs before next plain declared = notes_declared before (all_code made rs 0 [] next) declared ∙ ap (λ q. notes_of before ++ q) (notes_all made rs 0 [] next plain)

-- under a number that no run enters an end alone may stand, whatever its notes
pub idle_unit : (made : ℕ → ℕ) (next : List Line) (notes : List Note) → AreUnlabelled next → IsPlacedUnit made NoRoute next notes next
idle_unit made next notes unlabelled = record { executed = refl; placed = tt; no_do = λ m. closers_unlabelled m next unlabelled }
