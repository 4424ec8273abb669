-- The names that the statements of a plain unit use, call and give types: a variable stands alone, a function with arguments, and
-- a subroutine in a CALL.
use Rattle.std.proofs.Common.{◌≡◌, ◌++◌, ℕ, zero, suc, true, false, List, [], ◌∷◌, Option, None, Some, ◌⊎◌, inl, inr, refl, sym, ap, ◌∙◌, subst, if◌then◌else◌}
use Rattle.std.specs.Prelude.{⊤}
use Rattle.std.specs.List.{All, AllByRecursion, flat_map, slice_get}
use Rattle.std.specs.Str.{bytes_eq}
use Rattle.std.proofs.lemmas.Bool.{false_from_ne_true, true≢false}
use Rattle.std.proofs.lemmas.List.Elements.{All-head, All-tail}
use Rattle.std.proofs.lemmas.Option.{none-some, same_Some}
use Rattle.std.proofs.lemmas.Slice.Eq.{bytes_eq-Decides}
use Rattle.ground.specs.declared.value.Kind.{Kind}
use Rattle.ground.specs.declared.value.Kind.TheVariants.{Integer, Logical}
use Rattle.f66_tree.specs.Syntax.{Text, Formula, Int, Truth, Ref, Item, Group, Plus, Minus, Not, Pair, Formulas, NoFormula, AndFormula, Par, Constant, Named, Declared, Header, One, Entries, NoEntry, AndEntry, Act, Assign, Goto, When, Invoke, Continue, Stop, Return, Read, Write, Format, Typed, Line, Routine}
use Rattle.f66_tree.specs.Units.{Context}
use Rattle.f66_tree.specs.Evaluation.{Intrinsic}
use Rattle.f66_names.specs.declared.name_form.NameForm.TheVariants as forms
use Rattle.f66_names.specs.declared.name_form.Manner.{Manner}
use Rattle.f66_names.specs.declared.name_form.Manner.TheVariants.{Alone, With, Stored}
use Rattle.f66_names.specs.Declaring.{names, type_given}
use Rattle.f66_names.specs.Kinds.{operand}
use Rattle.f66_names.specs.Sorts.{arity, form_by, name_form}
use Rattle.f66_names.specs.Uses.{Usage, uses_of, uses_of_all, uses_of_par, uses_of_sizes}
use Rattle.unit_rules.specs.Called.{called_in}
use Rattle.unit_rules.specs.Judged.{judged_of_entries, judged_uses}
use Rattle.unit_rules.specs.Listed.{more_uses}
use Rattle.plain_units.specs.Plain.{name_of, IsSigned, IsLeaf, AreLeaves, IsPassed, ArePassed, IsValue, IsTest, IsUnit, AreListed, IsPlain}
use Rattle.plain_units.specs.Known.{AreKnown, IsGiven, IsTyping, IsHead}
use Rattle.plain_units.specs.Units.{IsLast, IsPlainUnit}
use Rattle.plain_units.proofs.Found.{item_of, either_get, none_passes}

pub same_text : (x y : Text) → bytes_eq x y ≡ true → x ≡ y
same_text x y e = (bytes_eq-Decides x y).0 e

pub itself : (x : Text) → bytes_eq x x ≡ true
itself x = (bytes_eq-Decides x x).1 refl

no_sizes : (ds : List Declared) → All (λ d. d.sizes ≡ []) ds → uses_of_sizes ds ≡ []
no_sizes [] h = refl
no_sizes (d ∷ ds) h =
    ap (λ ns. flat_map uses_of_par ns ++ uses_of_sizes ds) (All-head (λ e. e.sizes ≡ []) d ds h)
    ∙ no_sizes ds (All-tail (λ e. e.sizes ≡ []) d ds h)

module _ (V F : Text → Kind → Type 0) (S : Text → Type 0) where
  -- a name may stand so
  abbrev pub MayStand : Text → Manner → Type 0
  MayStand x Alone = (k : Kind) × V x k
  MayStand x (With n) = ((k : Kind) × F x k) ⊎ ((g : Intrinsic) × (x ≡ name_of g))
  MayStand x (Stored n) = ⊥

  abbrev pub AreRight : List Usage → Type 0
  AreRight us = AllByRecursion (λ (u : Usage). MayStand u.name u.manner) us

  -- each of them does
  pub right_at : (us : List Usage) → AreRight us → (i : ℕ) (u : Usage) → slice_get us i ≡ Some u → MayStand u.name u.manner
  right_at [] h i u e = absurd (none-some u e)
  right_at (v ∷ us) h zero u e = subst (λ (w : Usage). MayStand w.name w.manner) (same_Some v u e) h.0
  right_at (v ∷ us) h (suc i) u e = right_at us h.1 i u e

  both : (us vs : List Usage) → AreRight us → AreRight vs → AreRight (us ++ vs)
  both [] vs h k = k
  both (u ∷ us) vs h k = (h.0, both us vs h.1 k)

  abbrev pub IsCall : Option Text → Type 0
  IsCall None = ⊤
  IsCall (Some x) = S x

  -- the names of a statement stand as they may
  pub record IsRight (c : Context) (a : Act) : Type 0 where
    pub judged : AreRight (judged_uses c a)
    pub more : AreRight (more_uses c a)
    pub calls : IsCall (called_in a)
    pub untyped : (x : Text) → S x → type_given x a ≡ None

  -- ---- expressions ----

  leaf_right : (e : Formula) (k : Kind) → IsLeaf V F S e k → AreRight (uses_of e)
  leaf_right (Int z) k h = tt
  leaf_right (Truth b) k h = tt
  leaf_right (Ref x) k h = ((k, h), tt)
  leaf_right _ k h = absurd h

  leaves_right : (es : Formulas) (k : Kind) → AreLeaves V F S es k → AreRight (uses_of_all es)
  leaves_right NoFormula k h = tt
  leaves_right (AndFormula e es) k h = both (uses_of e) (uses_of_all es) (leaf_right e k h.0) (leaves_right es k h.1)

  passed_right : (e : Formula) → IsPassed V F S e → AreRight (uses_of e)
  passed_right (Ref x) h = (h, tt)
  passed_right (Int z) h = tt
  passed_right (Group e) h = leaf_right e h.0 h.1
  passed_right _ h = absurd h

  all_passed_right : (es : Formulas) → ArePassed V F S es → AreRight (uses_of_all es)
  all_passed_right NoFormula h = tt
  all_passed_right (AndFormula e es) h = both (uses_of e) (uses_of_all es) (passed_right e h.0) (all_passed_right es h.1)

  value_right : (e : Formula) (k : Kind) → IsValue V F S e k → AreRight (uses_of e)
  value_right (Plus a) k h = leaf_right a Integer h.1
  value_right (Minus a) k h = leaf_right a Integer h.1
  value_right (Not a) k h = leaf_right a Logical h.1
  value_right (Pair op a b) k h = both (uses_of a) (uses_of b) (leaf_right a (operand op) h.1) (leaf_right b (operand op) h.2)
  value_right (Item x es) k (inl h) = (inr (h.intrinsic, h.name), leaves_right es Integer h.leaves)
  value_right (Item x es) k (inr h) = (inl (k, h.gives), all_passed_right es h.passed)
  value_right (Int z) k h = tt
  value_right (Truth b) k h = tt
  value_right (Ref x) k h = ((k, h), tt)
  value_right _ k h = absurd h

  signed_right : (e : Formula) → IsSigned e → AreRight (uses_of e)
  signed_right (Int z) h = tt
  signed_right (Minus (Int z)) h = tt
  signed_right _ h = absurd h

  test_right : (e : Formula) → IsTest V F S e → AreRight (uses_of e)
  test_right (Truth b) h = tt
  test_right (Ref x) h = ((Logical, h), tt)
  test_right (Not a) h = leaf_right a Logical h
  test_right (Pair op a b) h = both (uses_of a) (uses_of b) (leaf_right a Integer h.1) (signed_right b h.2)
  test_right _ h = absurd h

  -- ---- statements ----

  unit_right : (u : Par) → IsUnit V F S u → AreRight (uses_of_par u)
  unit_right (Constant z) h = tt
  unit_right (Named x) h = ((Integer, h), tt)

  module _ (c : Context) where
    listed_right : (es : Entries) → AreListed V F S es → AreRight (judged_of_entries c es)
    listed_right NoEntry h = tt
    listed_right (AndEntry (One (Ref x)) es) h = (h.0, listed_right es h.1)
    listed_right (AndEntry _ es) h = absurd h

    -- a statement of a body
    plain_right : (a : Act) → IsPlain V F S a → IsRight c a
    plain_right (Assign (Ref x) e) h = record { judged = ((h.0, h.1), value_right e h.0 h.2); more = tt; calls = tt; untyped = λ x s. refl }
    plain_right (When e (Goto l)) h = record { judged = both (uses_of e) [] (test_right e h) tt; more = tt; calls = tt; untyped = λ x s. refl }
    plain_right (Goto l) h = record { judged = tt; more = tt; calls = tt; untyped = λ x s. refl }
    plain_right Continue h = record { judged = tt; more = tt; calls = tt; untyped = λ x s. refl }
    plain_right Return h = record { judged = tt; more = tt; calls = tt; untyped = λ x s. refl }
    plain_right (Stop n) h = record { judged = tt; more = tt; calls = tt; untyped = λ x s. refl }
    plain_right (Invoke x es) h = record { judged = tt; more = both (uses_of_all es) [] (all_passed_right es h.1) tt; calls = h.0; untyped = λ x s. refl }
    plain_right (Read u l es) h = record { judged = both (uses_of_par u) (judged_of_entries c es) (unit_right u h.0) (listed_right es h.1); more = tt; calls = tt; untyped = λ x s. refl }
    plain_right (Write u l es) h = record { judged = both (uses_of_par u) (judged_of_entries c es) (unit_right u h.0) (listed_right es h.1); more = tt; calls = tt; untyped = λ x s. refl }
    plain_right (Format fs) h = record { judged = tt; more = tt; calls = tt; untyped = λ x s. refl }
    plain_right _ h = absurd h

    module _ (known : AreKnown V F S c) where
      pub intrinsic_form : (g : Intrinsic) → name_form c (name_of g) ≡ forms.Intrinsic (arity g)
      intrinsic_form g = ap form_by (known.intrinsics g).sort

      pub no_intrinsic : (x : Text) (g : Intrinsic) → name_form c x ≡ forms.Plain → x ≡ name_of g → ⊥
      no_intrinsic x g plain e = let same : forms.Plain ≡ forms.Intrinsic (arity g) = sym plain ∙ ap (name_form c) e ∙ intrinsic_form g in cc

      -- what is called is no variable or function
      pub not_called : (x y : Text) (m : Manner) → MayStand x m → S y → bytes_eq x y ≡ false
      not_called x y Alone h s = known.no_variable x y h.0 h.1 s
      not_called x y (With n) (inl h) s = known.no_value x y h.0 h.1 s
      not_called x y (With n) (inr h) s = false_from_ne_true (bytes_eq x y) (λ e. no_intrinsic y h.0 (known.called y s).form (sym (same_text x y e) ∙ h.1))
      not_called x y (Stored n) h s = absurd h

      -- what a type statement names may stand somehow
      given_stands : (h : Header) (k : Kind) (d : Declared) → IsGiven V F S h k d → (m : Manner) × MayStand d.name m
      given_stands h k d g = elim g.is [ inl v ↦ (Alone, (k, v)) | inr f ↦ (With 0, inl (k, f)) ]

      -- a type statement
      typing_right : (h : Header) (a : Act) → IsTyping V F S h a → IsRight c a
      typing_right h (Typed t ds) is = record {
        judged = subst AreRight (sym (no_sizes ds (λ i d lt. (is.3 i d lt).sizes))) tt;
        more = tt;
        calls = tt;
        untyped = λ x s. ap (λ b. if b then Some t else None) (none_passes (names x) ds (λ i d e.
            let w = given_stands h is.0 d (item_of (λ b. IsGiven V F S h is.0 b) ds i d is.3 e) in
            false_from_ne_true (bytes_eq x d.name) (λ same. true≢false (sym (itself d.name) ∙ ap (bytes_eq d.name) (sym (same_text x d.name same)) ∙ not_called d.name x w.0 w.1 s))));
      }
      typing_right h _ is = absurd is

  -- ---- the lines of a unit ----

  last_plain : (a : Act) → IsLast a → IsPlain V F S a
  last_plain (Stop n) h = h
  last_plain Return h = tt
  last_plain _ h = absurd h

  -- a line is a type statement of the head, or a plain one
  pub line_is : (u : Routine) (unit : IsPlainUnit V F S u) (i : ℕ) (s : Line) → slice_get u.lines i ≡ Some s → (slice_get unit.heads i ≡ Some s) ⊎ IsPlain V F S s.act
  line_is u unit i s e = elim (either_get unit.heads (unit.body ++ unit.last ∷ []) i s (ap (λ ls. slice_get ls i) (sym unit.lines) ∙ e)) [
    | inl h ↦ inl h
    | inr h ↦ inr (elim (either_get unit.body (unit.last ∷ []) h.0 s h.1) [
      | inl k ↦ item_of (λ t. IsPlain V F S t.act) unit.body h.0 s unit.plain k
      | inr k ↦ at_end k.0 k.1
    ])
  ]
    where
      at_end : (j : ℕ) → slice_get (unit.last ∷ []) j ≡ Some s → IsPlain V F S s.act
      at_end zero k = subst (λ (t : Line). IsPlain V F S t.act) (same_Some unit.last s k) (last_plain unit.last.act unit.ends)
      at_end (suc j) k = absurd (none-some s k)

  pub line_right : (u : Routine) (unit : IsPlainUnit V F S u) (c : Context) → AreKnown V F S c → (i : ℕ) (s : Line) → slice_get u.lines i ≡ Some s → IsRight c s.act
  line_right u unit c known i s e = elim (line_is u unit i s e) [
    | inl h ↦ typing_right c known u.header s.act (item_of (λ t. IsHead V F S u.header t) unit.heads i s unit.typing h).typing
    | inr h ↦ plain_right c s.act h
  ]
