-- A plain unit with few operands is printable, and each of its statements is shallow, and whole where the FORMATs are.
use Rattle.std.proofs.Common.{◌≡◌, ◌≤◌, Bool, List, [], ◌∷◌, ◌++◌, Some, None, ℕ, suc, inl, inr, refl, sym, subst, arith, length}
use Rattle.std.specs.List.{All, AllByRecursion, Contains, slice_get}
use Rattle.std.proofs.lemmas.List.Elements.{All-head, All-tail, All-contains_itself}
use Rattle.ground.specs.declared.value.Kind.{Kind}
use Rattle.f66_tree.specs.Syntax.{Text, Act, Goto, When, Stop, Return, Read, Write, Line, Routine}
use Rattle.f66_flow.specs.Acts.{is_executable, is_format, branches, formats_named}
use Rattle.f66_check.specs.CheckRules.{context_of}
use Rattle.stmt_text.specs.Fitting.{FitsCards, IsPrintable}
use Rattle.stmt_text.specs.Texts.{statement_text}
use Rattle.deck_laws.specs.Fitting.{IsShallow}
use Rattle.deck_laws.specs.Whole.{IsWhole, IsShallowUnit}
use Rattle.plain_units.specs.Plain.{IsPlain}
use Rattle.plain_units.specs.Known.{IsHead}
use Rattle.plain_units.specs.Labels.{LeadsTo, HasLabels}
use Rattle.plain_units.specs.Units.{IsLast, IsPlainUnit}
use Rattle.plain_units.proofs.Found.{item_of, either_get}
use Rattle.plain_units.proofs.Places.{part_at, only_at}
use Rattle.plain_units.proofs.Sound.{plain_is_sound}
use Rattle.plain_decks.specs.Few.{HasFew, HasFewNames, NamesShortLabel, HasWholeFormat, HasFewOperands}
use Rattle.plain_decks.proofs.Texts.{fits, head_fits, header_fits}
use Rattle.plain_decks.proofs.Shapes.{shallow, whole, head_shallow, head_whole}

-- what two facts give of each element
both_give : {X : Type 0} (P Q R : X → Type 0) → ((x : X) → P x → Q x → R x) → (xs : List X) → All P xs → All Q xs → AllByRecursion R xs
both_give P Q R f [] p q = tt
both_give P Q R f (x ∷ xs) p q = (f x (All-head P x xs p) (All-head Q x xs q), both_give P Q R f xs (All-tail P x xs p) (All-tail Q x xs q))

one_gives : {X : Type 0} (P R : X → Type 0) → ((x : X) → P x → R x) → (xs : List X) → All P xs → AllByRecursion R xs
one_gives P R f xs p = both_give P P R (λ x h k. f x h) xs p p

joined : {X : Type 0} (R : X → Type 0) (xs ys : List X) → AllByRecursion R xs → AllByRecursion R ys → AllByRecursion R (xs ++ ys)
joined R [] ys h k = k
joined R (x ∷ xs) ys h k = (h.0, joined R xs ys h.1 k)

last_fits : (s : Line) → IsLast s.act → FitsCards s
last_fits s h = go s.act h
  where
    go : (a : Act) → IsLast a → length (statement_text a) ≤ 1320
    go (Stop None) h = omega arith
    go (Stop (Some n)) h = absurd (let e : Some n ≡ None = h in cc)
    go Return h = omega arith
    go a h = absurd h

last_shallow : (a : Act) → IsLast a → IsShallow a
last_shallow (Stop n) h = omega arith
last_shallow Return h = omega arith
last_shallow a h = absurd h

last_whole : (a : Act) → IsLast a → IsWhole a
last_whole (Stop n) h = tt
last_whole Return h = tt
last_whole a h = absurd h

-- what holds of each place holds of each element
pub everywhere : {X : Type 0} (R : X → Type 0) (xs : List X) → ((i : ℕ) (x : X) → slice_get xs i ≡ Some x → R x) → AllByRecursion R xs
everywhere R [] f = tt
everywhere R (x ∷ xs) f = (f 0 x refl, everywhere R xs (λ i y e. f (suc i) y e))

the_one : (l : ℕ) → Contains (l ∷ []) l
the_one l = All-head (Contains (l ∷ [])) l [] (All-contains_itself (l ∷ []))

module _ (lines : List Line) (labels : HasLabels lines) where
  led_low : (test : Act → Bool) (l : ℕ) → LeadsTo test lines l → l ≤ 99999
  led_low test l to = (labels.range to.place l to.line to.at to.label).1

  pub names_short : (i : ℕ) (s : Line) → slice_get lines i ≡ Some s → NamesShortLabel s.act
  names_short i s e = go s.act (λ l h. led_low is_executable l (labels.leads i l s e h)) (λ l h. led_low is_format l (labels.formats i l s e h))
    where
      go : (a : Act) → ((l : ℕ) → Contains (branches a) l → l ≤ 99999) → ((l : ℕ) → Contains (formats_named a) l → l ≤ 99999) → NamesShortLabel a
      go (Goto l) to h = to l (the_one l)
      go (When e (Goto l)) to h = to l (the_one l)
      go (Read u l es) to h = h l (the_one l)
      go (Write u l es) to h = h l (the_one l)
      go a to h = tt

module _ (V F : Text → Kind → Type 0) (S : Text → Type 0) (u : Routine) (unit : IsPlainUnit V F S u) where
  module _ (few : HasFewOperands V F S u unit) where
    each_fits : (i : ℕ) (s : Line) → slice_get u.lines i ≡ Some s → FitsCards s
    each_fits i s e = elim (either_get unit.heads (unit.body ++ unit.last ∷ []) i s (subst (λ xs. slice_get xs i ≡ Some s) unit.lines e)) [
      | inl h ↦ head_fits V F S (context_of u) unit.known u.header s (item_of (λ t. IsHead V F S u.header t) unit.heads i s unit.typing h) (item_of (λ t. HasFewNames t.act) unit.heads i s few.heads h)
      | inr h ↦ behind h.0 h.1
    ]
      where
        behind : (j : ℕ) → slice_get (unit.body ++ unit.last ∷ []) j ≡ Some s → FitsCards s
        behind j g = elim (part_at unit.body (unit.last ∷ []) j s g) [
          | inl h ↦ fits V F S (context_of u) unit.known s.act (item_of (λ t. IsPlain V F S t.act) unit.body j s unit.plain h.1) (item_of (λ t. HasFew t.act) unit.body j s few.body h.1) (names_short u.lines unit.labels i s e)
          | inr h ↦ subst FitsCards (only_at unit.last s h.0 h.2) (last_fits unit.last unit.ends)
        ]

    pub unit_printable : IsPrintable u
    unit_printable = record { header = header_fits V F S (context_of u) unit.known u.header unit.header few.header; lines = everywhere FitsCards u.lines each_fits }

  -- what holds of the heads, the body and the last statement holds of all
  in_all : (R : Line → Type 0) → AllByRecursion R unit.heads → AllByRecursion R unit.body → R unit.last → AllByRecursion R u.lines
  in_all R heads body last =
      subst (AllByRecursion R) (sym unit.lines) (joined R unit.heads (unit.body ++ unit.last ∷ []) heads (joined R unit.body (unit.last ∷ []) body (last, tt)))

  pub unit_shallow : AllByRecursion (λ (line : Line). IsShallow line.act) u.lines
  unit_shallow =
      in_all (λ s. IsShallow s.act)
      (one_gives (λ s. IsHead V F S u.header s) (λ s. IsShallow s.act) (λ s. head_shallow V F S u.header s) unit.heads unit.typing)
      (one_gives (λ s. IsPlain V F S s.act) (λ s. IsShallow s.act) (λ s. shallow V F S s.act) unit.body unit.plain)
      (last_shallow unit.last.act unit.ends)

  pub unit_whole : All (λ s. HasWholeFormat s.act) unit.body → AllByRecursion (λ (line : Line). IsWhole line.act) u.lines
  unit_whole formats =
      in_all (λ s. IsWhole s.act)
      (one_gives (λ s. IsHead V F S u.header s) (λ s. IsWhole s.act) (λ s. head_whole V F S u.header s) unit.heads unit.typing)
      (both_give (λ s. IsPlain V F S s.act) (λ s. HasWholeFormat s.act) (λ s. IsWhole s.act) (λ s. whole V F S s.act) unit.body unit.plain formats)
      (last_whole unit.last.act unit.ends)

  -- so it may stand in a deck, where its text is printed
  pub unit_is_shallow : All (λ s. HasWholeFormat s.act) unit.body → IsShallowUnit u
  unit_is_shallow formats = record { sound = plain_is_sound V F S u unit; whole = unit_whole formats; shallow = unit_shallow }
