-- The code of units one behind the other, with its marks: where each unit stands, and that each of its instructions is kept.
use Rattle.std.proofs.Common.{◌≡◌, cond, ◌⊎◌, inl, inr, ⊎_elim, ℕ, zero, suc, ◌+◌, ◌≤◌, Bool, true, false, true≢false, List, [], ◌∷◌, ◌++◌, length, Some, None, refl, sym, ap, ◌∙◌, subst, arith, length-append, slice_get}
use Rattle.std.proofs.lemmas.Option.{slice_get_within, slice_get-get_or}
use Rattle.f66_tree.specs.Fields.{Fields}
use Rattle.f66_tree.specs.Syntax.{Line}
use Rattle.f66_tree.specs.Units.{Context, is_note, is_main, dummies_of}
use Rattle.f66_tree.specs.Execution.{runnable}
use Rattle.linked_soundness.proofs.ActLemmas.{FitLines}
use Rattle.stack_code.specs.declared.fact.Fact.{Fact}
use Rattle.stack_code.specs.Instructions as i
use Rattle.stack_code.specs.Instructions.{Instruction}
use Rattle.stack_code.specs.ValidCode.{root, ways, IsIn, is_begin}
use Rattle.code_gen.specs.Layout.{Layout}
use Rattle.code_gen.specs.Statements.{leave, leave_code, body_code, first_code, prologue_code, unit_size, unit_code, units_code, act_code, turns_place, turns_code, enders}
use Rattle.code_gen.specs.Coded.{top, HasRoom}
use Rattle.code_gen.specs.Behaves.{HavePlans, IsAmong, AreEntered, AreBelow}
use Rattle.code_gen.proofs.Standing.{line_code}
use Rattle.code_gen.proofs.Steps.{HasAt, has_back}
use Rattle.code_validity.proofs.Marks as m
use Rattle.code_validity.proofs.Marks.{Mark, mark}
use Rattle.code_validity.proofs.Places.{Site, MayCall}
use Rattle.code_validity.proofs.Bodies as bodies
use Rattle.code_validity.proofs.Bodies.{AreSmall, prologue_length, unit_length}
use Rattle.code_validity.proofs.Tails.{IsTail, runnable_tail, StartsRunning, starts_running}
use Rattle.code_validity.proofs.Scans as scans
use Rattle.code_validity.proofs.Scans.{scanned, scanned_length, Marked, marked_at, marked_back, marked_behind, marked_here, has_to, has_behind, has_here, EndsIn, ends_append, last_at}
use Rattle.code_validity.proofs.Sits as sits
use Rattle.code_validity.proofs.Wires as wires
use Rattle.code_validity.proofs.Pieces.{Fine}

abbrev pub dummies : Layout → ℕ → ℕ
dummies y u = length (dummies_of (y.linked.context u).header)

abbrev pub unit_marks : Layout → ℕ → List Mark
unit_marks y u = scanned u (unit_code y u) (root (dummies y u))

abbrev pub all_marks : Layout → List ℕ → List Mark
all_marks y [] = []
all_marks y (u ∷ us) = unit_marks y u ++ all_marks y us

-- ---- lists one behind the other ----

pub has_get : (code : List Instruction) (pc : ℕ) (is : List Instruction) → HasAt code pc is → (k : ℕ) (j : Instruction) → slice_get is k ≡ Some j → slice_get code (pc + k) ≡ Some j
has_get code pc [] h k j e = absurd (let q : ⊥ = cc in q)
has_get code pc (i ∷ is) h zero j e = subst (λ p. slice_get code p ≡ Some j) (omega arith) (h.0 ∙ e)
has_get code pc (i ∷ is) h (suc k) j e = subst (λ p. slice_get code p ≡ Some j) (omega arith) (has_get code (pc + 1) is h.1 k j e)

split : (a b : List Mark) (k : ℕ) (x : Mark) → slice_get (a ++ b) k ≡ Some x → (slice_get a k ≡ Some x) ⊎ ((j : ℕ) × (k ≡ length a + j) × (slice_get b j ≡ Some x))
split [] b k x e = inr (k, omega arith, e)
split (y ∷ a) b zero x e = inl e
split (y ∷ a) b (suc k) x e = ⊎_elim inl (λ r. let s = r.1 in inr (r.0, omega (arith, s), r.2)) (split a b k x e)

-- ---- each unit ----

module _ (y : Layout) where
  -- a unit's code and its marks stand so far on
  record Placed (code : List Instruction) (marks : List Mark) (at u : ℕ) : Type 0 where
    on : ℕ
    here : at + on ≡ y.entry u
    has : HasAt code on (unit_code y u)
    marked : Marked marks u on (unit_code y u) (root (dummies y u))

  placed : (us : List ℕ) (at : ℕ) → AreEntered y at us → (u : ℕ) → IsAmong u us → Placed (units_code y us) (all_marks y us) at u
  placed [] at entered u among = absurd among
  placed (v ∷ us) at entered u (inl e) =
      let here = entered.0 in
      subst (Placed (units_code y (v ∷ us)) (all_marks y (v ∷ us)) at) (sym e) (record {
        on = 0;
        here = omega (arith, here);
        has = has_here (unit_code y v) (units_code y us);
        marked = marked_here v (unit_code y v) (root (dummies y v)) (all_marks y us);
      })
  placed (v ∷ us) at entered u (inr among) =
      let p = placed us (at + unit_size y v) entered.1 u among in
      let here = p.here in
      let long = unit_length y v in
      let same : length (unit_marks y v) + p.on ≡ length (unit_code y v) + p.on = ap (λ k. k + p.on) (scanned_length v (unit_code y v) (root (dummies y v))) in
      record {
        on = length (unit_code y v) + p.on;
        here = omega (arith, here, long);
        has = has_behind (unit_code y v) (units_code y us) p.on (unit_code y u) p.has;
        marked = marked_at (all_marks y (v ∷ us)) u (length (unit_marks y v) + p.on) (length (unit_code y v) + p.on) (unit_code y u) (root (dummies y u)) same (marked_behind (unit_marks y v) (all_marks y us) u p.on (unit_code y u) (root (dummies y u)) p.marked);
      }

  -- the unit that a mark is of
  record Found (us : List ℕ) (at k : ℕ) (x : Mark) : Type 0 where
    unit : ℕ
    among : IsAmong unit us
    index : ℕ
    here : at + k ≡ y.entry unit + index
    is : slice_get (unit_marks y unit) index ≡ Some x

  found : (us : List ℕ) (at : ℕ) → AreEntered y at us → (k : ℕ) (x : Mark) → slice_get (all_marks y us) k ≡ Some x → Found us at k x
  found [] at entered k x e = absurd (let q : ⊥ = cc in q)
  found (v ∷ us) at entered k x e = ⊎_elim (first at entered k x) (λ r. others at k x r (found us (at + unit_size y v) entered.1 r.0 x r.2)) (split (unit_marks y v) (all_marks y us) k x e)
    where
      first : (at : ℕ) → AreEntered y at (v ∷ us) → (k : ℕ) (x : Mark) → slice_get (unit_marks y v) k ≡ Some x → Found (v ∷ us) at k x
      first at entered k x h = let here = entered.0 in record { unit = v; among = inl refl; index = k; here = omega (arith, here); is = h }

      others : (at k : ℕ) (x : Mark) (r : (j : ℕ) × (k ≡ length (unit_marks y v) + j) × (slice_get (all_marks y us) j ≡ Some x)) → Found us (at + unit_size y v) r.0 x → Found (v ∷ us) at k x
      others at k x r f =
          let here = f.here in
          let long = unit_length y v in
          let same = scanned_length v (unit_code y v) (root (dummies y v)) in
          let there = r.1 in
          record { unit = f.unit; among = inr f.among; index = f.index; here = omega (arith, here, long, same, there); is = f.is }

  marks_length : (us : List ℕ) → length (all_marks y us) ≡ length (units_code y us)
  marks_length [] = refl
  marks_length (u ∷ us) =
      let ih = marks_length us in
      omega (arith, ih, length-append (unit_marks y u) (all_marks y us), length-append (unit_code y u) (units_code y us), scanned_length u (unit_code y u) (root (dummies y u)))

  -- ---- the first and the last instruction of a unit ----

  body_ends : (u : ℕ) (rest : List Line) → EndsIn (leave_code y u) (body_code y u rest)
  body_ends u [] = refl
  body_ends u (s ∷ rest) = by_note (is_note s.act) (body_ends u rest)
    where
      by_note : (b : Bool) → EndsIn (leave_code y u) (body_code y u rest) → EndsIn (leave_code y u) (cond b (body_code y u rest) (line_code y u s rest))
      by_note true h = h
      by_note false h =
          let a = act_code y u (length rest) (turns_place y u s rest) s.place s.act in
          let t = turns_code y u (enders y u s) in
          ends_append (leave_code y u) (i.Begin s.place ∷ a) (t ++ body_code y u rest) (ends_append (leave_code y u) t (body_code y u rest) h)

  pub unit_ends : (u : ℕ) → EndsIn (leave_code y u) (unit_code y u)
  unit_ends u = ends_append (leave_code y u) (prologue_code y u (first_code y u) (runnable (y.lines u))) (body_code y u (y.lines u)) (body_ends u (y.lines u))

  no_ways : (b : Bool) (pc : ℕ) → ways (leave b) pc ≡ []
  no_ways true pc = refl
  no_ways false pc = refl

  -- a unit with a statement that is executed begins with a Begin
  abbrev pub Runs : ℕ → Type 0
  Runs u = (s : Line) × (rest : List Line) × (runnable (y.lines u) ≡ s ∷ rest)

  body_begins : (u : ℕ) (lines : List Line) (s : Line) (rest : List Line) → runnable lines ≡ s ∷ rest → is_begin (slice_get (body_code y u lines) 0) ≡ true
  body_begins u [] s rest e = absurd (let q : ⊥ = cc in q)
  body_begins u (t ∷ lines) s rest e = by_note (is_note t.act) (body_begins u lines s rest) e
    where
      by_note : (b : Bool) → (runnable lines ≡ s ∷ rest → is_begin (slice_get (body_code y u lines) 0) ≡ true) → cond b (runnable lines) (t ∷ lines) ≡ s ∷ rest → is_begin (slice_get (cond b (body_code y u lines) (line_code y u t lines)) 0) ≡ true
      by_note true h e1 = h e1
      by_note false h e1 = refl

  pub unit_begins : (u : ℕ) → Runs u → is_begin (slice_get (unit_code y u) 0) ≡ true
  unit_begins u r = by_first (first_code y u) (runnable (y.lines u)) r.2
    where
      by_first : (is : List Instruction) (xs : List Line) → xs ≡ r.0 ∷ r.1 → is_begin (slice_get (prologue_code y u is xs ++ body_code y u (y.lines u)) 0) ≡ true
      by_first [] xs e = body_begins u (y.lines u) r.0 r.1 r.2
      by_first (j ∷ is) [] e = absurd (let q : ⊥ = cc in q)
      by_first (j ∷ is) (s ∷ rest) e = refl

  module _ (us : List ℕ) (entered : AreEntered y 0 us) where
    abbrev pub code : List Instruction
    code = units_code y us

    abbrev pub marks : List Mark
    marks = all_marks y us

    record Stands (u : ℕ) : Type 0 where
      has : HasAt code (y.entry u) (unit_code y u)
      marked : Marked marks u (y.entry u) (unit_code y u) (root (dummies y u))

    stands : (u : ℕ) → IsAmong u us → Stands u
    stands u among =
        let p = placed us 0 entered u among in
        let here : p.on ≡ y.entry u = let e = p.here in omega (arith, e) in
        record { has = has_to code p.on (y.entry u) (unit_code y u) here p.has; marked = marked_at marks u p.on (y.entry u) (unit_code y u) (root (dummies y u)) here p.marked }

    first_of : (u : ℕ) (is : List Instruction) → is_begin (slice_get is 0) ≡ true → HasAt code (y.entry u) is → Marked marks u (y.entry u) is (root (dummies y u)) → (is_begin (slice_get code (y.entry u)) ≡ true) × (slice_get marks (y.entry u) ≡ Some (mark (root (dummies y u)) u))
    first_of u [] e h k = absurd (true≢false (sym e))
    first_of u (j ∷ is) e h k = (ap is_begin h.0 ∙ e, k.0)

    -- what stands at a unit's entry
    pub at_entry : (u : ℕ) → IsAmong u us → Runs u → (is_begin (slice_get code (y.entry u)) ≡ true) × (slice_get marks (y.entry u) ≡ Some (mark (root (dummies y u)) u))
    at_entry u among runs = let s = stands u among in first_of u (unit_code y u) (unit_begins u runs) s.has s.marked

    module _ (depth : ℕ → ℕ) (plans : List Fields) (units bound : ℕ) (low : bound ≤ units) (below : AreBelow bound y.presets) (values : AreSmall y.presets) where
      abbrev main : ℕ → Bool
      main v = is_main (y.linked.context v).header

      abbrev pub Callee : ℕ → ℕ → ℕ → Type 0
      Callee u = wires.IsCallee code marks depth main (length plans) units u

      -- where a mark is followed by one that fits, all to which its instruction leads do
      leads_on : (u k : ℕ) (j : Instruction) (b : Fact) → slice_get (unit_code y u) k ≡ Some j → (slice_get (unit_code y u) (suc k) ≡ None) ⊎ (slice_get marks (y.entry u + k + 1) ≡ Some (mark b u)) →
          (to : ℕ) → IsIn to (ways j (y.entry u + k)) → (to ≡ y.entry u + k + 1) ⊎ (slice_get marks to ≡ Some (mark b u)) → slice_get marks to ≡ Some (mark b u)
      leads_on u k j b is next to w (inr marked) = marked
      leads_on u k j b is (inr marked) to w (inl there) = subst (λ p. slice_get marks p ≡ Some (mark b u)) (sym there) marked
      leads_on u k j b is (inl none) to w (inl there) =
          let last : j ≡ leave_code y u = last_at (leave_code y u) (unit_code y u) k j (unit_ends u) is none in
          absurd (wires.in_none to (subst (IsIn to) (ap (λ i. ways i (y.entry u + k)) last ∙ no_ways (main u) (y.entry u + k)) w))

      kept_as : (u : ℕ) (context : Context) (k : ℕ) (f : Fact) → HasAt code (y.entry u) (unit_code y u) →
          scans.Known (wires.Granted code marks depth plans units (dummies y u) y u context) (wires.Right code marks depth plans units (dummies y u) y u context) marks u (unit_code y u) (y.entry u) k f →
          m.Stands code marks depth main (length plans) units (y.entry u + k) (mark f u)
      kept_as u context k f has t = record {
        instruction = t.instruction;
        stands = has_get code (y.entry u) (unit_code y u) has k t.instruction t.stands;
        kept = record {
          behind = t.then;
          gives = t.gives;
          range = t.right.range;
          there = λ to w. leads_on u k t.instruction t.then t.stands t.next to w (t.right.leads to w);
          calls = λ to j c. let q = t.right.calls to j c in (q.unit, q.marked, q.beneath);
          returns = t.right.returns;
        };
      }

      kept_by : (u : ℕ) (context : Context) (k : ℕ) (x : Mark) → HasAt code (y.entry u) (unit_code y u) → x ≡ mark x.fact u →
          scans.Known (wires.Granted code marks depth plans units (dummies y u) y u context) (wires.Right code marks depth plans units (dummies y u) y u context) marks u (unit_code y u) (y.entry u) k x.fact →
          m.Stands code marks depth main (length plans) units (y.entry u + k) x
      kept_by u context k x has of t = subst (m.Stands code marks depth main (length plans) units (y.entry u + k)) (sym of) (kept_as u context k x.fact has t)

      -- what is asked of a unit
      pub record IsSound (u : ℕ) : Type 0 where
        pub context : Context
        pub site : Site (Callee u) (length plans) units (dummies y u) y u context
        pub planned : HavePlans y u plans
        pub wide : top y u ≤ units
        pub fit : FitLines (MayCall (Callee u) (length plans) units y) context (y.linked.context u) (y.lines u)
        pub room : HasRoom y u (y.lines u)

      module _ (u : ℕ) (among : IsAmong u us) (sound : IsSound u) where
        abbrev n : ℕ
        n = dummies y u

        abbrev pro : List Instruction
        pro = prologue_code y u (first_code y u) (runnable (y.lines u))

        abbrev body : List Instruction
        body = body_code y u (y.lines u)

        abbrev Trivial : ℕ → Instruction → Fact → Type 0
        Trivial at j f = Unit {0}

        any_enters : (rest : List Line) → bodies.EntersBody plans (Callee u) units n y u sound.context sound.site Trivial Trivial (λ at j b h. tt) (λ at turn limit step f r l1 l2. tt) sound.planned sound.wide rest
        any_enters [] = tt
        any_enters (s ∷ rest) = λ at lt. tt

        goes : scans.Goes (y.entry u) pro (root n) (root n)
        goes = bodies.entry_fine plans (Callee u) units n y u sound.context sound.site Trivial Trivial (λ at j b h. tt) (λ at turn limit step f r l1 l2. tt) sound.planned sound.wide bound low below values (any_enters (runnable (y.lines u)))

        sits_here : sits.Sits code marks plans (Callee u) units n y u sound.context sound.site sound.planned sound.wide (y.entry u + length pro) (y.lines u)
        sits_here =
            let s = stands u among in
            let long = prologue_length y u (first_code y u) (runnable (y.lines u)) in
            record {
              has = has_back code (y.entry u) pro body s.has;
              marked = marked_back marks u (y.entry u) (y.entry u) pro body (root n) (root n) goes s.marked;
              ends = omega (arith, long);
              fit = sound.fit;
              room = sound.room;
            }

        abbrev Granted : ℕ → Instruction → Fact → Type 0
        Granted = wires.Granted code marks depth plans units n y u sound.context

        abbrev Right : ℕ → Instruction → Fact → Type 0
        Right = wires.Right code marks depth plans units n y u sound.context

        enters : (rest : List Line) → IsTail rest (y.lines u) → StartsRunning rest →
            bodies.EntersBody plans (Callee u) units n y u sound.context sound.site Granted Right (wires.fit code marks depth plans units n y u sound.context sound.site sound.planned sound.wide (y.entry u + length pro) sits_here) (wires.back code marks depth plans units n y u sound.context sound.site sound.planned sound.wide (y.entry u + length pro) sits_here) sound.planned sound.wide rest
        enters [] tail starts = tt
        enters (s ∷ rest) tail starts = wires.enters_good code marks depth plans units n y u sound.context sound.site sound.planned sound.wide (y.entry u + length pro) sits_here s rest tail starts

        fine : Fine Granted Right (y.entry u) (unit_code y u) (root n) (root n)
        fine =
            bodies.unit_fine plans (Callee u) units n y u sound.context sound.site Granted Right (wires.fit code marks depth plans units n y u sound.context sound.site sound.planned sound.wide (y.entry u + length pro) sits_here) (wires.back code marks depth plans units n y u sound.context sound.site sound.planned sound.wide (y.entry u + length pro) sits_here) sound.planned sound.wide
            bound low below values (wires.all_ways code marks depth plans units n y u sound.context sound.site sound.planned sound.wide (y.entry u + length pro) sits_here) (enters (runnable (y.lines u)) (runnable_tail (y.lines u)) (starts_running (y.lines u))) sound.fit sound.room

        grants : (k : ℕ) (j : Instruction) (f : Fact) → slice_get (unit_code y u) k ≡ Some j → slice_get marks (y.entry u + k) ≡ Some (mark f u) → Granted (y.entry u + k) j f
        grants k j f e g =
            let s = stands u among in
            let within = slice_get_within (unit_code y u) k j e in
            let long = unit_length y u in
            (has_get code (y.entry u) (unit_code y u) s.has k j e, g, omega (arith, within, long))

        -- each instruction of the unit fits
        pub unit_kept : (k : ℕ) (x : Mark) → slice_get (unit_marks y u) k ≡ Some x → m.Stands code marks depth main (length plans) units (y.entry u + k) x
        unit_kept k x e =
            let s = stands u among in
            let known = scans.known_at Granted Right marks u (unit_code y u) (y.entry u) (root n) (root n) fine s.marked grants k x e in
            kept_by u sound.context k x s.has known.0 known.1

      -- the code of these units, the first of which is a main, is valid
      pub all_kept : (first : ℕ) → IsAmong first us → y.entry first ≡ 0 → dummies y first ≡ 0 → main first ≡ true → Runs first → ((u : ℕ) → IsAmong u us → IsSound u) → ((u : ℕ) → depth u ≤ length code) → m.AreKept code marks depth main (length plans) units
      all_kept first among here none is_first runs sound deep =
          let entry = at_entry first among runs in
          record {
            begins = subst (λ p. is_begin (slice_get code p) ≡ true) here entry.0;
            first = (first, subst (λ k. slice_get marks 0 ≡ Some (mark (root k) first)) none (subst (λ p. slice_get marks p ≡ Some (mark (root (dummies y first)) first)) here entry.1), is_first);
            marked = λ pc j e.
                let within = slice_get_within code pc j e in
                let same = marks_length us in
                (_, slice_get-get_or marks pc (mark (root 0) first) (omega (arith, within, same)));
            each = λ pc x e.
                let f = found us 0 entered pc x e in
                let there : y.entry f.unit + f.index ≡ pc = let h = f.here in omega (arith, h) in
                subst (λ p. m.Stands code marks depth main (length plans) units p x) there (unit_kept f.unit f.among (sound f.unit f.among) f.index x f.is);
            deep = deep;
          }
