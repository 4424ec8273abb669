-- Where the code of statements sits in the whole code, and that at each such place nothing is on the stack and no record statement is
-- open.
use Rattle.std.proofs.Common.{◌≡◌, cond, ◌⊎◌, inl, inr, ℕ, suc, ◌+◌, ◌≤◌, Bool, true, false, List, [], ◌∷◌, ◌++◌, length, Some, None, refl, sym, ap, subst, arith, slice_get}
use Rattle.f66_tree.specs.Fields.{Fields}
use Rattle.f66_tree.specs.Syntax.{Line}
use Rattle.f66_tree.specs.Units.{Context, is_note}
use Rattle.f66_program.specs.Mentions.{Mention}
use Rattle.linked_soundness.proofs.ActLemmas.{FitLines}
use Rattle.stack_code.specs.declared.shape.EntryKind.{EntryKind}
use Rattle.stack_code.specs.declared.fact.Fact.{Fact}
use Rattle.stack_code.specs.Instructions as i
use Rattle.stack_code.specs.Instructions.{Instruction}
use Rattle.stack_code.specs.ValidCode.{is_counted}
use Rattle.code_gen.specs.Layout.{Layout}
use Rattle.code_gen.specs.Statements.{leave_code, act_size, act_code, enders, turns_size, turns_code, turns_place, line_size, body_size, body_code, stop, place_of}
use Rattle.code_gen.specs.Coded.{top, HasRoom}
use Rattle.code_gen.specs.Behaves.{HavePlans}
use Rattle.code_gen.proofs.Lengths.{act_length, turns_length}
use Rattle.code_gen.proofs.Standing.{line_code}
use Rattle.code_gen.proofs.Steps.{HasAt, has_back}
use Rattle.code_validity.proofs.Marks.{Mark, mark}
use Rattle.code_validity.proofs.Plain.{fact}
use Rattle.code_validity.proofs.Places.{Site, MayCall}
use Rattle.code_validity.proofs.Bodies as bodies
use Rattle.code_validity.proofs.Tails.{IsTail, itself, tail_of}
use Rattle.code_validity.proofs.Scans.{Marked, marked_at, marked_back, has_to}

abbrev NotEmpty : List Instruction → Type 0
NotEmpty [] = ⊥
NotEmpty (j ∷ is) = Unit {0}

not_empty_append : (a b : List Instruction) → NotEmpty b → NotEmpty (a ++ b)
not_empty_append [] b h = h
not_empty_append (j ∷ a) b h = tt

not_empty_body : (y : Layout) (u : ℕ) (rest : List Line) → NotEmpty (body_code y u rest)
not_empty_body y u [] = tt
not_empty_body y u (s ∷ rest) = by_note (is_note s.act) (not_empty_body y u rest)
  where
    by_note : (b : Bool) → NotEmpty (body_code y u rest) → NotEmpty (cond b (body_code y u rest) (line_code y u s rest))
    by_note true h = h
    by_note false h = tt

module _ (code : List Instruction) (marks : List Mark) (plans : List Fields) (callee : ℕ → ℕ → Type 0) (units n : ℕ) (y : Layout) (u : ℕ) (c : Context)
    (site : Site callee (length plans) units n y u c) (planned : HavePlans y u plans) (wide : top y u ≤ units) where
  abbrev on : List EntryKind → Fact
  on s = fact n None s

  abbrev May : Mention → Type 0
  May = MayCall callee (length plans) units y

  -- an instruction stands here, and before it nothing is on the stack
  pub record Seam (to : ℕ) : Type 0 where
    pub instruction : Instruction
    pub stands : slice_get code to ≡ Some instruction
    pub marked : slice_get marks to ≡ Some (mark (on []) u)

  seam : (to : ℕ) (is : List Instruction) → NotEmpty is → HasAt code to is → Marked marks u to is (on []) → Seam to
  seam to [] e h m = absurd e
  seam to (j ∷ is) e h m = record { instruction = j; stands = h.0; marked = m.0 }

  -- and it begins a statement, or is the unit's last
  pub record IsPlace (to : ℕ) : Type 0 where
    pub here : Seam to
    pub kind : (is_counted (slice_get code to) ≡ true) ⊎ ((suc to ≡ stop y u) × (slice_get code to ≡ Some (leave_code y u)))

  abbrev Trivial : ℕ → Instruction → Fact → Type 0
  Trivial at j f = Unit {0}

  abbrev Ways : Type 0
  Ways = bodies.Ways plans callee units n y u c site Trivial Trivial (λ at j b h. tt) (λ at turn limit step f r lt1 lt2. tt) planned wide

  any_ways : Ways
  any_ways = record {
    branches = record { jump = λ at l f r. tt; table = λ at ls f r. tt; sign = λ at l m k f r. tt; leave = λ at. tt; halt = λ at m. tt };
    skip = λ s rest tail note p lt. tt;
    turn = λ at k tail f r. tt;
  }

  pub record Sits (pc : ℕ) (rest : List Line) : Type 0 where
    pub has : HasAt code pc (body_code y u rest)
    pub marked : Marked marks u pc (body_code y u rest) (on [])
    pub ends : pc + body_size y u rest ≡ stop y u
    pub fit : FitLines May c (y.linked.context u) rest
    pub room : HasRoom y u rest

  record SitsLine (pc : ℕ) (s : Line) (rest : List Line) : Type 0 where
    begins : slice_get code pc ≡ Some (i.Begin s.place)
    marked : slice_get marks pc ≡ Some (mark (on []) u)
    inside : Seam (pc + 1)
    next : Seam (turns_place y u s rest)
    then : Sits (turns_place y u s rest + turns_size (enders y u s)) rest

  line_sits : (pc : ℕ) (s : Line) (rest : List Line) → IsTail (s ∷ rest) (y.lines u) → is_note s.act ≡ false → HasAt code pc (line_code y u s rest) → Marked marks u pc (line_code y u s rest) (on []) → pc + (line_size y u s + body_size y u rest) ≡ stop y u →
      FitLines May c (y.linked.context u) (s ∷ rest) → HasRoom y u (s ∷ rest) → SitsLine pc s rest
  line_sits pc s rest tail note has marked end fit room =
      let a = act_code y u (length rest) (turns_place y u s rest) s.place s.act in
      let t = turns_code y u (enders y u s) in
      let b = body_code y u rest in
      let next = turns_place y u s rest in
      let la : length a ≡ act_size y u s.act = act_length y u (length rest) next s.place s.act in
      let lt : length t ≡ turns_size (enders y u s) = turns_length y u (enders y u s) in
      let e1 : pc + 1 + act_size y u s.act ≡ next = omega (arith, end) in
      let e2 : pc + 1 + length a ≡ next = omega (arith, la, e1) in
      let e3 : next + length t ≡ next + turns_size (enders y u s) = omega (arith, lt) in
      let e4 : next + turns_size (enders y u s) + body_size y u rest ≡ stop y u = omega (arith, e1, end) in
      let both = bodies.act_turns_fine plans callee units n y u c site Trivial Trivial (λ at j b h. tt) (λ at turn limit step f r lt1 lt2. tt) planned wide any_ways s rest (pc + 1) tail note fit room e1 in
      let some = not_empty_append t b (not_empty_body y u rest) in
      let h1 = has_to code (pc + 1 + length a) next (t ++ b) e2 (has_back code (pc + 1) a (t ++ b) has.1) in
      let m1 = marked_at marks u (pc + 1 + length a) next (t ++ b) (on []) e2 (marked_back marks u (pc + 1) (pc + 1) a (t ++ b) (on []) (on []) both.0 marked.1) in
      record {
        begins = has.0;
        marked = marked.0;
        inside = seam (pc + 1) (a ++ (t ++ b)) (not_empty_append a (t ++ b) some) has.1 marked.1;
        next = seam next (t ++ b) some h1 m1;
        then = record {
          has = has_to code (next + length t) (next + turns_size (enders y u s)) b e3 (has_back code next t b h1);
          marked = marked_at marks u (next + length t) (next + turns_size (enders y u s)) b (on []) e3 (marked_back marks u next next t b (on []) (on []) both.1 m1);
          ends = e4;
          fit = fit.1;
          room = room.1;
        };
      }

  abbrev SitsBy : Bool → ℕ → Line → List Line → Type 0
  SitsBy true pc s rest = Sits pc rest
  SitsBy false pc s rest = SitsLine pc s rest

  sits_by : (b : Bool) (pc : ℕ) (s : Line) (rest : List Line) → is_note s.act ≡ b → IsTail (s ∷ rest) (y.lines u) → Sits pc (s ∷ rest) → SitsBy b pc s rest
  sits_by true pc s rest is tail h = record {
    has = subst (λ v. HasAt code pc (cond v (body_code y u rest) (line_code y u s rest))) is h.has;
    marked = subst (λ v. Marked marks u pc (cond v (body_code y u rest) (line_code y u s rest)) (on [])) is h.marked;
    ends = subst (λ v. pc + cond v (body_size y u rest) (line_size y u s + body_size y u rest) ≡ stop y u) is h.ends;
    fit = h.fit.1;
    room = h.room.1;
  }
  sits_by false pc s rest is tail h =
      line_sits pc s rest tail is (subst (λ v. HasAt code pc (cond v (body_code y u rest) (line_code y u s rest))) is h.has) (subst (λ v. Marked marks u pc (cond v (body_code y u rest) (line_code y u s rest)) (on [])) is h.marked)
      (subst (λ v. pc + cond v (body_size y u rest) (line_size y u s + body_size y u rest) ≡ stop y u) is h.ends) h.fit h.room

  abbrev Somewhere : List Line → Type 0
  Somewhere rest = (pc : ℕ) × Sits pc rest

  rest_by : (b : Bool) (pc : ℕ) (s : Line) (rest : List Line) → SitsBy b pc s rest → Somewhere rest
  rest_by true pc s rest h = (pc, h)
  rest_by false pc s rest h = (turns_place y u s rest + turns_size (enders y u s), h.then)

  sits_tail : (lines : List Line) (pc : ℕ) → IsTail lines (y.lines u) → Sits pc lines → (rest : List Line) → IsTail rest lines → Somewhere rest
  sits_tail [] pc tail h rest e = (pc, subst (Sits pc) (sym e) h)
  sits_tail (s ∷ lines) pc tail h rest (inl e) = (pc, subst (Sits pc) (sym e) h)
  sits_tail (s ∷ lines) pc tail h rest (inr m) =
      let r = rest_by (is_note s.act) pc s lines (sits_by (is_note s.act) pc s lines refl tail h) in
      sits_tail lines r.0 (tail_of s lines (y.lines u) tail) r.1 rest m

  is_place : (rest : List Line) (pc : ℕ) → IsTail rest (y.lines u) → Sits pc rest → IsPlace pc
  is_place [] pc tail h =
      let e = h.ends in
      let last : suc pc ≡ stop y u = omega (arith, e) in
      record { here = seam pc (body_code y u []) tt h.has h.marked; kind = inr (last, h.has.0) }
  is_place (s ∷ rest) pc tail h = by_note (is_note s.act) (sits_by (is_note s.act) pc s rest refl tail h) (is_place rest pc (tail_of s rest (y.lines u) tail))
    where
      by_note : (b : Bool) → SitsBy b pc s rest → (Sits pc rest → IsPlace pc) → IsPlace pc
      by_note true t more = more t
      by_note false t more = record { here = record { instruction = i.Begin s.place; stands = t.begins; marked = t.marked }; kind = inl (ap is_counted t.begins) }

  module _ (first : ℕ) (all : Sits first (y.lines u)) where
    -- a branch leads to a place
    pub tail_place : (rest : List Line) → IsTail rest (y.lines u) → IsPlace (place_of y u rest)
    tail_place rest tail =
        let r = sits_tail (y.lines u) first (itself (y.lines u)) all rest tail in
        let e = r.1.ends in
        let here : r.0 ≡ place_of y u rest = omega (arith, e) in
        subst IsPlace here (is_place rest r.0 tail r.1)

    line_at : (s : Line) (rest : List Line) → IsTail (s ∷ rest) (y.lines u) → is_note s.act ≡ false → (pc : ℕ) × (pc ≡ place_of y u (s ∷ rest)) × SitsLine pc s rest
    line_at s rest tail note =
        let r = sits_tail (y.lines u) first (itself (y.lines u)) all (s ∷ rest) tail in
        let e = r.1.ends in
        let here : r.0 ≡ place_of y u (s ∷ rest) = omega (arith, e) in
        (r.0, here, sits_by false r.0 s rest note tail r.1)

    -- past the statement of a logical IF
    pub next_seam : (s : Line) (rest : List Line) → IsTail (s ∷ rest) (y.lines u) → is_note s.act ≡ false → Seam (turns_place y u s rest)
    next_seam s rest tail note = (line_at s rest tail note).2.next

    -- past the Begin of a statement
    pub begun_seam : (s : Line) (rest : List Line) → IsTail (s ∷ rest) (y.lines u) → is_note s.act ≡ false → Seam (suc (place_of y u (s ∷ rest)))
    begun_seam s rest tail note =
        let r = line_at s rest tail note in
        let e = r.1 in
        let here : r.0 + 1 ≡ suc (place_of y u (s ∷ rest)) = omega (arith, e) in
        subst Seam here r.2.inside
