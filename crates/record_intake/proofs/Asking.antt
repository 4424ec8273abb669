-- Reads that follow one another, until a record is at hand.
use Rattle.std.proofs.Common.{◌≡◌, ℕ, suc, ◌-◌, ◌≤◌, true, List, [], ◌∷◌, ◌++◌, length, sym, ◌∙◌, ap, subst, arith, refl, append_assoc, None, Some, if◌then◌else◌}
use Rattle.std.proofs.lemmas.Bool.{true≢false}
use Rattle.std.proofs.lemmas.List.{append-nil}
use Rattle.std.specs.declared.option.Option.{Option}
use Rattle.std.specs.Io.KnownBytes.{Consumes, Keeps, IsAtEnd}
use Rattle.record_intake.specs.declared.intake.Found.{Found}
use Rattle.record_intake.specs.declared.intake.Found.TheVariants.{Record, Long, Nothing, Failed}
use Rattle.ports.specs.Records.{got_records}
use Rattle.record_intake.specs.Intakes.{Content, Grows, joined, Pieces, Gets, IsNone, IsCut, Counts, is_steady}

pub consumes_none : (a : Option (List ℕ)) → Consumes a a []
consumes_none None = tt
consumes_none (Some xs) = refl

pub consumes_on : (a b c : Option (List ℕ)) (xs ys : List ℕ) → Consumes a b xs → Consumes b c ys → Consumes a c (xs ++ ys)
consumes_on None b c xs ys p q = tt
consumes_on (Some a) None c xs ys p q = absurd p
consumes_on (Some a) (Some b) None xs ys p q = absurd q
consumes_on (Some a) (Some b) (Some c) xs ys p q = p ∙ ap (λ (l : List ℕ). xs ++ l) q ∙ sym (append_assoc xs ys c)

pub consumes_kept : (a b c : Option (List ℕ)) (xs : List ℕ) → Consumes a b xs → Keeps b c → Consumes a c xs
consumes_kept None b c xs p k = tt
consumes_kept (Some a) None c xs p k = absurd p
consumes_kept (Some a) (Some b) None xs p k = absurd k
consumes_kept (Some a) (Some b) (Some c) xs p k = p ∙ ap (λ (l : List ℕ). xs ++ l) (sym k)

-- ---- pieces ----

pub joined_on : (ps qs : List (List ℕ)) → joined (ps ++ qs) ≡ joined ps ++ joined qs
joined_on [] qs = refl
joined_on (p ∷ ps) qs = ap (λ (l : List ℕ). p ++ l) (joined_on ps qs) ∙ sym (append_assoc p (joined ps) (joined qs))

pub pieces_on : (asks : List (List ℕ) → Type 0) (before : List ℕ) (ps qs : List (List ℕ)) → Pieces asks before ps → Pieces asks (before ++ joined ps) qs → Pieces asks before (ps ++ qs)
pieces_on asks before [] qs h k = subst (λ (l : List ℕ). Pieces asks l qs) (append-nil before) k
pieces_on asks before (p ∷ ps) qs h k = (h.0, h.1, pieces_on asks (before ++ p) ps qs h.2 (subst (λ (l : List ℕ). Pieces asks l qs) (sym (append_assoc before p (joined ps))) k))

-- where less is asked of what was got before
pub pieces_by : {A B : List (List ℕ) → Type 0} → ((rs : List (List ℕ)) → A rs → B rs) → (before : List ℕ) (ps : List (List ℕ)) → Pieces A before ps → Pieces B before ps
pieces_by by before [] h = tt
pieces_by by before (p ∷ ps) h = (by (got_records true before) h.0, h.1, pieces_by by (before ++ p) ps h.2)

pub gets_by : {A B : List (List ℕ) → Type 0} → ((rs : List (List ℕ)) → A rs → B rs) → {S : Type 0} {i j : S} {c : Content} {got : List ℕ} → Gets A i j c got → Gets B i j c got
gets_by by {S} {i} {j} {c} g = record { pieces = g.pieces; all = g.all; asked = pieces_by by c.hand g.pieces g.asked; idle = g.idle; over = g.over }

longer : (ps : List (List ℕ)) (p : List ℕ) → 1 ≤ length (ps ++ p ∷ [])
longer [] p = omega arith
longer (q ∷ ps) p = omega arith

not_none : (ps : List (List ℕ)) (p : List ℕ) → ps ++ p ∷ [] ≡ [] → ⊥
not_none ps p e = let long = longer ps p in let none : length (ps ++ p ∷ []) ≡ 0 = ap length e in omega (arith, long, none)

module _ {S : Type 0} where
  pub gets_nothing : (asks : List (List ℕ) → Type 0) (i : S) (c : Content) → Gets asks i i c []
  gets_nothing asks i c = record { pieces = []; all = refl; asked = tt; idle = λ e. refl; over = λ e. refl }

  -- one read more, where no record is at hand
  gets_more : (i j k : S) (old new : Content) (got piece : List ℕ) → Gets IsNone i j old got → (old.ended ≡ true → ⊥) → new.hand ≡ old.hand ++ got → IsCut new → length piece ≤ 65537 → Gets IsNone i k old (got ++ piece)
  gets_more i j k old new got piece g going hand cut few =
      let before : old.hand ++ joined g.pieces ≡ new.hand = ap (λ (l : List ℕ). old.hand ++ l) g.all ∙ sym hand in
      record {
        pieces = g.pieces ++ piece ∷ [];
        all = joined_on g.pieces (piece ∷ []) ∙ ap (λ (l : List ℕ). l ++ (piece ++ [])) g.all ∙ ap (λ (l : List ℕ). got ++ l) (append-nil piece);
        asked = pieces_on IsNone old.hand g.pieces (piece ∷ []) g.asked (ap (got_records true) before ∙ cut.none, few, tt);
        idle = λ e. absurd (not_none g.pieces piece e);
        over = λ e. absurd (going e);
      }

-- what was got since the first read, and that none has failed
pub record Asks {S : Type 0} (i0 i1 : S) (left0 left : Option (List ℕ)) (faults0 faults : ℕ) (old new : Content) : Type 0 where
  pub got : List ℕ
  pub grows : Grows old new got
  pub consumes : Consumes left0 left got
  pub gets : Gets IsNone i0 i1 old got
  pub steady : faults ≡ faults0
  pub at_end : (old.ended ≡ true → IsAtEnd left0) → new.ended ≡ true → IsAtEnd left

pub asks_nothing : {S : Type 0} (i : S) (left : Option (List ℕ)) (faults : ℕ) (c : Content) → Asks i i left left faults faults c c
asks_nothing i left faults c = record { got = []; grows = record { hand = sym (append-nil c.hand); ended = λ e. (refl, e) }; consumes = consumes_none left; gets = gets_nothing IsNone i c; steady = refl; at_end = λ h. h }

module _ {S : Type 0} {i0 i1 : S} {left0 left : Option (List ℕ)} {faults0 faults : ℕ} {old new : Content} (a : Asks i0 i1 left0 left faults0 faults old new) (cut : IsCut new) where
  not_ended : old.ended ≡ true → ⊥
  not_ended e = true≢false (sym (a.grows.ended e).1 ∙ cut.going)

  -- one read more
  pub asks_more : (i2 : S) (left1 : Option (List ℕ)) (faults1 : ℕ) (c : Content) (got : List ℕ) → c.hand ≡ new.hand ++ got → length got ≤ 65537 → Consumes left left1 got → faults1 ≡ faults → (c.ended ≡ true → IsAtEnd left1) → Asks i0 i2 left0 left1 faults0 faults1 old c
  asks_more i2 left1 faults1 c got more few consumes steady at_end =
      record {
        got = a.got ++ got;
        grows = record { hand = more ∙ ap (λ (l : List ℕ). l ++ got) a.grows.hand ∙ append_assoc old.hand a.got got; ended = λ e. absurd (not_ended e) };
        consumes = consumes_on left0 left left1 a.got got a.consumes consumes;
        gets = gets_more i0 i1 i2 old new a.got got a.gets not_ended a.grows.hand cut few;
        steady = steady ∙ a.steady;
        at_end = λ h. at_end;
      }

  -- where a read fails
  pub asks_failed : (i2 : S) (left1 : Option (List ℕ)) (c : Content) → c.hand ≡ new.hand → c.ended ≡ new.ended → Keeps left left1 → (got : List ℕ) × Grows old c got × Consumes left0 left1 got × Gets IsNone i0 i2 old got
  asks_failed i2 left1 c same ended keeps = (
    a.got,
    record { hand = same ∙ a.grows.hand; ended = λ e. ((a.grows.ended e).0, ended ∙ (a.grows.ended e).1) },
    consumes_kept left0 left left1 a.got a.consumes keeps,
    subst (λ (l : List ℕ). Gets IsNone i0 i2 old l) (append-nil a.got) (gets_more i0 i1 i2 old new a.got [] a.gets not_ended a.grows.hand cut (omega arith)),
  )

pub counts_steady : (f : Found) (before now : ℕ) → is_steady f ≡ true → now ≡ before → Counts f before now
counts_steady (Record n m) before now is e = e
counts_steady Long before now is e = e
counts_steady Nothing before now is e = e
counts_steady Failed before now is e = absurd (true≢false (sym is))

-- how often the source may still be read
abbrev pub reads_left : Content → ℕ
reads_left c = if c.ended then 0 else suc (65537 - length c.hand)
