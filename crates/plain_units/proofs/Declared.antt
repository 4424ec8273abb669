-- In a unit of plain statements no name gets its type twice, and none gets dimensions.
use Rattle.std.proofs.Common.{◌≡◌, ℕ, zero, suc, ◌+◌, Bool, true, false, cond, List, [], ◌∷◌, ◌++◌, map, filter, Option, None, Some, inl, inr, refl, sym, ap, ◌∙◌, subst, arith}
use Rattle.std.specs.List.{All, flat_map, list_any, slice_get}
use Rattle.std.specs.Option.{option_map}
use Rattle.std.specs.Str.{bytes_eq}
use Rattle.std.proofs.lemmas.Bool.{or_parts, or_from, or_left, or_right, false_from_ne_true, true≢false}
use Rattle.std.proofs.lemmas.List.Elements.{All-head, All-tail}
use Rattle.std.proofs.lemmas.List.Folds.{list_any-append}
use Rattle.std.proofs.lemmas.Option.{none-some, same_Some}
use Rattle.ground.specs.declared.value.Kind.{Kind}
use Rattle.rule_table.specs.Words.{first_place, is_below, repeats}
use Rattle.rule_table.proofs.WordLemmas.{list_any_map}
use Rattle.f66_tree.specs.Syntax.{Text, Declared, Header, Act, Typed, Assign, Goto, When, Invoke, Continue, Stop, Return, Read, Write, Format, Line, Routine}
use Rattle.f66_names.specs.Declaring.{is_sized, typed_in, sized_in, types}
use Rattle.f66_names.specs.NameRules.{retypes, resizes, redeclares}
use Rattle.f66_soundness.specs.SoundUnits.{acts_in_unit}
use Rattle.plain_units.specs.Plain.{IsPlain}
use Rattle.plain_units.specs.Known.{IsTyping, IsHead, typed_names}
use Rattle.plain_units.specs.Units.{IsPlainUnit}
use Rattle.plain_units.proofs.Found.{item_of}
use Rattle.plain_units.proofs.Uses.{same_text, itself, line_is}

-- ---- lists of names ----

-- a name of the second list is none of the first
not_before : (q : Text) (xs ys : List Text) → repeats (xs ++ ys) ≡ false → list_any (bytes_eq q) ys ≡ true → list_any (bytes_eq q) xs ≡ false
not_before q [] ys h e = refl
not_before q (x ∷ xs) ys h e =
    let p = or_parts (list_any (bytes_eq x) (xs ++ ys)) (repeats (xs ++ ys)) h in
    or_from (bytes_eq q x) (list_any (bytes_eq q) xs)
    (false_from_ne_true (bytes_eq q x) (λ same.
    true≢false (sym (list_any-append (bytes_eq x) xs ys ∙ or_right (list_any (bytes_eq x) xs) (list_any (bytes_eq x) ys) (ap (λ y. list_any (bytes_eq y) ys) (sym (same_text q x same)) ∙ e)) ∙ p.0)))
    (not_before q xs ys p.1 e)

once_left : (xs ys : List Text) → repeats (xs ++ ys) ≡ false → repeats xs ≡ false
once_left [] ys h = refl
once_left (x ∷ xs) ys h =
    let p = or_parts (list_any (bytes_eq x) (xs ++ ys)) (repeats (xs ++ ys)) h in
    or_from (list_any (bytes_eq x) xs) (repeats xs) (or_parts (list_any (bytes_eq x) xs) (list_any (bytes_eq x) ys) (sym (list_any-append (bytes_eq x) xs ys) ∙ p.0)).0 (once_left xs ys p.1)

once_right : (xs ys : List Text) → repeats (xs ++ ys) ≡ false → repeats ys ≡ false
once_right [] ys h = h
once_right (x ∷ xs) ys h = once_right xs ys (or_parts (list_any (bytes_eq x) (xs ++ ys)) (repeats (xs ++ ys)) h).1

-- a test that no name of the list passes
none_named : (test : Text → Bool) (ds : List Declared) → ((q : Text) → list_any (bytes_eq q) (map (λ d. d.name) ds) ≡ true → test q ≡ false) → list_any (λ d. test d.name) ds ≡ false
none_named test [] h = refl
none_named test (d ∷ ds) h =
    or_from (test d.name) (list_any (λ e. test e.name) ds) (h d.name (or_left (bytes_eq d.name d.name) (list_any (bytes_eq d.name) (map (λ e. e.name) ds)) (itself d.name)))
    (none_named test ds (λ q e. h q (or_right (bytes_eq q d.name) (list_any (bytes_eq q) (map (λ b. b.name) ds)) e)))

-- ---- places ----

not_below_first : (o : Option ℕ) → is_below 0 o ≡ false
not_below_first None = refl
not_below_first (Some n) = grind arith

below_next : (i : ℕ) (o : Option ℕ) → is_below (suc i) (option_map (λ n. n + 1) o) ≡ is_below i o
below_next i None = refl
below_next i (Some n) = grind arith

-- ---- the head of a unit ----

-- the names of a statement of the head are among those of the head
named_in : (q : Text) (hs : List Line) (i : ℕ) (s : Line) → slice_get hs i ≡ Some s → list_any (bytes_eq q) (typed_names s) ≡ true → list_any (bytes_eq q) (flat_map typed_names hs) ≡ true
named_in q [] i s e h = absurd (none-some s e)
named_in q (t ∷ hs) zero s e h =
    list_any-append (bytes_eq q) (typed_names t) (flat_map typed_names hs)
    ∙ or_left (list_any (bytes_eq q) (typed_names t)) (list_any (bytes_eq q) (flat_map typed_names hs)) (ap (λ r. list_any (bytes_eq q) (typed_names r)) (same_Some t s e) ∙ h)
named_in q (t ∷ hs) (suc i) s e h =
    list_any-append (bytes_eq q) (typed_names t) (flat_map typed_names hs)
    ∙ or_right (list_any (bytes_eq q) (typed_names t)) (list_any (bytes_eq q) (flat_map typed_names hs)) (named_in q hs i s e h)

-- no earlier statement gives them types
none_earlier : (q : Text) (hs rest : List Line) (i : ℕ) (s : Line) → slice_get hs i ≡ Some s → repeats (flat_map typed_names hs) ≡ false → list_any (bytes_eq q) (typed_names s) ≡ true →
    is_below i (first_place (types q) (acts_in_unit (hs ++ rest))) ≡ false
none_earlier q [] rest i s e once h = absurd (none-some s e)
none_earlier q (t ∷ hs) rest zero s e once h = not_below_first (first_place (types q) (acts_in_unit (t ∷ (hs ++ rest))))
none_earlier q (t ∷ hs) rest (suc i) s e once h =
    let places = first_place (types q) (acts_in_unit (hs ++ rest)) in
    let before : types q t.act ≡ false =
    sym (list_any_map (bytes_eq q) (λ d. d.name) (typed_in t.act)) ∙ not_before q (typed_names t) (flat_map typed_names hs) once (named_in q hs i s e h) in
    ap (λ b. is_below (suc i) (cond b (Some 0) (option_map (λ n. n + 1) places))) before
    ∙ below_next i places
    ∙ none_earlier q hs rest i s e (once_right (typed_names t) (flat_map typed_names hs) once) h

-- and none of them stands twice
none_twice : (hs : List Line) (i : ℕ) (s : Line) → slice_get hs i ≡ Some s → repeats (flat_map typed_names hs) ≡ false → repeats (typed_names s) ≡ false
none_twice [] i s e once = absurd (none-some s e)
none_twice (t ∷ hs) zero s e once = ap (λ r. repeats (typed_names r)) (sym (same_Some t s e)) ∙ once_left (typed_names t) (flat_map typed_names hs) once
none_twice (t ∷ hs) (suc i) s e once = none_twice hs i s e (once_right (typed_names t) (flat_map typed_names hs) once)

head_types_once : (hs rest : List Line) (i : ℕ) (s : Line) → slice_get hs i ≡ Some s → repeats (flat_map typed_names hs) ≡ false → retypes (acts_in_unit (hs ++ rest)) i (typed_in s.act) ≡ false
head_types_once hs rest i s e once =
    or_from _ _ (none_named (λ q. is_below i (first_place (types q) (acts_in_unit (hs ++ rest)))) (typed_in s.act) (λ q h. none_earlier q hs rest i s e once h)) (none_twice hs i s e once)

none_sized : (ds : List Declared) → All (λ d. d.sizes ≡ []) ds → filter is_sized ds ≡ []
none_sized [] h = refl
none_sized (d ∷ ds) h =
    ap (λ ns. cond (is_sized (record { name = d.name; sizes = ns })) (d ∷ filter is_sized ds) (filter is_sized ds)) (All-head (λ e. e.sizes ≡ []) d ds h)
    ∙ none_sized ds (All-tail (λ e. e.sizes ≡ []) d ds h)

module _ (V F : Text → Kind → Type 0) (S : Text → Type 0) where
  typing_unsized : (h : Header) (a : Act) → IsTyping V F S h a → sized_in a ≡ []
  typing_unsized h (Typed t ds) is = none_sized ds (λ i d lt. (is.3 i d lt).sizes)
  typing_unsized h _ is = absurd is

  -- a plain statement declares nothing
  plain_declares : (acts : List Act) (i : ℕ) (a : Act) → IsPlain V F S a → redeclares acts i a ≡ false
  plain_declares acts i (Assign x e) h = refl
  plain_declares acts i (When e a) h = refl
  plain_declares acts i (Goto l) h = refl
  plain_declares acts i Continue h = refl
  plain_declares acts i Return h = refl
  plain_declares acts i (Stop n) h = refl
  plain_declares acts i (Invoke x es) h = refl
  plain_declares acts i (Read u l es) h = refl
  plain_declares acts i (Write u l es) h = refl
  plain_declares acts i (Format fs) h = refl
  plain_declares acts i _ h = absurd h

  -- no statement declares what an earlier one has declared
  pub once_declared : (u : Routine) → IsPlainUnit V F S u → (i : ℕ) (s : Line) → slice_get u.lines i ≡ Some s → redeclares (acts_in_unit u.lines) i s.act ≡ false
  once_declared u unit i s e = elim (line_is V F S u unit i s e) [
    | inl h ↦
        or_from _ _
        (subst (λ ls. retypes (acts_in_unit ls) i (typed_in s.act) ≡ false) (sym unit.lines) (head_types_once unit.heads (unit.body ++ unit.last ∷ []) i s h unit.once))
        (ap (resizes (acts_in_unit u.lines) i) (typing_unsized u.header s.act (item_of (λ t. IsHead V F S u.header t) unit.heads i s unit.typing h).typing))
    | inr h ↦ plain_declares (acts_in_unit u.lines) i s.act h
  ]
