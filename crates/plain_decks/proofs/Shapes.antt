-- Plain statements are shallow, and whole where their FORMATs are.
use Rattle.std.proofs.Common.{◌≡◌, ◌≤◌, ℕ, zero, suc, true, true≢false, List, [], ◌∷◌, sym, ap, arith, inl, inr}
use Rattle.std.specs.Prelude.{◌&&◌}
use Rattle.std.specs.List.{All}
use Rattle.std.proofs.lemmas.Bool.{and_parts}
use Rattle.std.proofs.lemmas.List.Elements.{All-head, All-tail}
use Rattle.ground.specs.declared.value.Kind.{Kind}
use Rattle.ground.specs.declared.value.Kind.TheVariants.{Integer, Logical}
use Rattle.f66_tree.specs.Fields.{Fields, NoField, Single, Group as Nested}
use Rattle.f66_tree.specs.Syntax.{Text, Formula, Int, Truth, Ref, Item, Group, Plus, Minus, Not, Pair, Formulas, NoFormula, AndFormula, Declared, One, Entries, NoEntry, AndEntry, Header, Act, Assign, Goto, When, Invoke, Continue, Stop, Return, Read, Write, Format, Typed, Line}
use Rattle.f66_names.specs.Kinds.{operand}
use Rattle.f66_names.specs.StoreRules.{is_between, is_fit_edit, are_fit}
use Rattle.deck_laws.specs.Nesting.{deepest, nesting, nesting_all, arguments_nesting, sizes_nesting, declared_nesting, entries_nesting, fields_nesting}
use Rattle.deck_laws.specs.Fitting.{IsShallow}
use Rattle.deck_laws.specs.Whole.{IsWhole}
use Rattle.plain_units.specs.Plain.{IsSigned, IsLeaf, AreLeaves, IsPassed, ArePassed, IsValue, IsTest, AreListed, IsPlain}
use Rattle.plain_units.specs.Known.{IsGiven, IsTyping, IsHead}
use Rattle.plain_decks.specs.Few.{HasWholeFormat}

-- ---- formats ----

-- groups that nest no deeper than this have no more open parentheses
fields_deep : (deep : ℕ) (fs : Fields) → are_fit deep fs ≡ true → fields_nesting fs ≤ deep
fields_deep deep NoField h = omega arith
fields_deep deep (Single n s fs) h = fields_deep deep fs (and_parts (is_fit_edit n s) (are_fit deep fs) h).1
fields_deep zero (Nested n inside fs) h = absurd (true≢false (sym h))
fields_deep (suc deep) (Nested n inside fs) h =
    let both = (and_parts (is_between 1 999 n) (are_fit deep inside && are_fit (suc deep) fs) h).1 in
    let parts = and_parts (are_fit deep inside) (are_fit (suc deep) fs) both in
    omega (arith, fields_deep deep inside parts.0, fields_deep (suc deep) fs parts.1)

-- ---- expressions ----

signed_flat : (e : Formula) → IsSigned e → nesting e ≤ 0
signed_flat (Int z) h = omega arith
signed_flat (Minus (Int z)) h = omega arith
signed_flat e h = absurd h

module _ (V F : Text → Kind → Type 0) (S : Text → Type 0) where
  leaf_flat : (e : Formula) (k : Kind) → IsLeaf V F S e k → nesting e ≤ 0
  leaf_flat (Int z) k h = omega arith
  leaf_flat (Truth b) k h = omega arith
  leaf_flat (Ref x) k h = omega arith
  leaf_flat e k h = absurd h

  leaves_flat : (es : Formulas) (k : Kind) → AreLeaves V F S es k → nesting_all es ≤ 0
  leaves_flat NoFormula k h = omega arith
  leaves_flat (AndFormula e es) k h = omega (arith, leaf_flat e k h.0, leaves_flat es k h.1)

  passed_low : (e : Formula) → IsPassed V F S e → nesting e ≤ 1
  passed_low (Ref x) h = omega arith
  passed_low (Int z) h = omega arith
  passed_low (Group e) h = omega (arith, leaf_flat e h.0 h.1)
  passed_low e h = absurd h

  all_low : (es : Formulas) → ArePassed V F S es → nesting_all es ≤ 1
  all_low NoFormula h = omega arith
  all_low (AndFormula e es) h = omega (arith, passed_low e h.0, all_low es h.1)

  call_low : (es : Formulas) → ArePassed V F S es → arguments_nesting es ≤ 2
  call_low NoFormula h = omega arith
  call_low (AndFormula e es) h = omega (arith, all_low (AndFormula e es) h)

  value_low : (e : Formula) (k : Kind) → IsValue V F S e k → nesting e ≤ 2
  value_low (Plus a) k h = omega (arith, leaf_flat a Integer h.1)
  value_low (Minus a) k h = omega (arith, leaf_flat a Integer h.1)
  value_low (Not a) k h = omega (arith, leaf_flat a Logical h.1)
  value_low (Pair op a b) k h = omega (arith, leaf_flat a (operand op) h.1, leaf_flat b (operand op) h.2)
  value_low (Item x es) k h = elim h [ inl g ↦ omega (arith, leaves_flat es Integer g.leaves) | inr g ↦ omega (arith, all_low es g.passed) ]
  value_low (Int z) k h = omega arith
  value_low (Truth b) k h = omega arith
  value_low (Ref x) k h = omega arith
  value_low e k h = absurd h

  test_low : (e : Formula) → IsTest V F S e → nesting e ≤ 0
  test_low (Truth b) h = omega arith
  test_low (Ref x) h = omega arith
  test_low (Not a) h = omega (arith, leaf_flat a Logical h)
  test_low (Pair op a b) h = omega (arith, leaf_flat a Integer h.1, signed_flat b h.2)
  test_low e h = absurd h

  listed_flat : (es : Entries) → AreListed V F S es → entries_nesting es ≤ 0
  listed_flat NoEntry h = omega arith
  listed_flat (AndEntry (One (Ref x)) es) h = omega (arith, listed_flat es h.1)
  listed_flat (AndEntry e es) h = absurd h

  -- ---- statements ----

  pub shallow : (a : Act) → IsPlain V F S a → IsShallow a
  shallow (Assign (Ref x) e) h = omega (arith, value_low e h.0 h.2)
  shallow (When e (Goto l)) h = omega (arith, test_low e h)
  shallow (Goto l) h = omega arith
  shallow Continue h = omega arith
  shallow Return h = omega arith
  shallow (Stop n) h = omega arith
  shallow (Invoke x es) h = omega (arith, call_low es h.1)
  shallow (Read u l es) h = omega (arith, listed_flat es h.1)
  shallow (Write u l es) h = omega (arith, listed_flat es h.1)
  shallow (Format fs) h = omega (arith, fields_deep 2 fs h.1)
  shallow a h = absurd h

  pub whole : (a : Act) → IsPlain V F S a → HasWholeFormat a → IsWhole a
  whole (Assign (Ref x) e) h w = tt
  whole (When e (Goto l)) h w = tt
  whole (Goto l) h w = tt
  whole Continue h w = tt
  whole Return h w = tt
  whole (Stop n) h w = tt
  whole (Invoke x es) h w = tt
  whole (Read u l es) h w = tt
  whole (Write u l es) h w = tt
  whole (Format fs) h w = w
  whole a h w = absurd h

  -- ---- type statements ----

  given_flat : (h : Header) (j : Kind) (ds : List Declared) → All (λ d. IsGiven V F S h j d) ds → deepest declared_nesting ds ≤ 0
  given_flat h j [] all = omega arith
  given_flat h j (d ∷ ds) all =
      let flat : declared_nesting d ≡ 0 = ap sizes_nesting (All-head (λ d. IsGiven V F S h j d) d ds all).sizes in
      omega (arith, flat, given_flat h j ds (All-tail (λ d. IsGiven V F S h j d) d ds all))

  typing_shallow : (h : Header) (a : Act) → IsTyping V F S h a → IsShallow a
  typing_shallow h (Typed t ds) is = omega (arith, given_flat h is.0 ds is.3)
  typing_shallow h a is = absurd is

  typing_whole : (h : Header) (a : Act) → IsTyping V F S h a → IsWhole a
  typing_whole h (Typed t ds) is = tt
  typing_whole h a is = absurd is

  pub head_shallow : (h : Header) (s : Line) → IsHead V F S h s → IsShallow s.act
  head_shallow h s is = typing_shallow h s.act is.typing

  pub head_whole : (h : Header) (s : Line) → IsHead V F S h s → IsWhole s.act
  head_whole h s is = typing_whole h s.act is.typing
