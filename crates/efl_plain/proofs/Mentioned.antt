-- The variables that a plain statement names are those that it may, and it declares none.
use Rattle.std.proofs.Common.{◌≡◌, ◌⊎◌, true≢false, List, [], ◌++◌, false, refl, inl, inr}
use Rattle.std.specs.Prelude.{⊤}
use Rattle.ground.specs.declared.value.Kind.{Kind}
use Rattle.ground.specs.declared.value.Kind.TheVariants.{Integer, Logical}
use Rattle.f66_tree.specs.Syntax.{Text, Formula, Int, Truth, Ref, Item, Group, Plus, Minus, Not, Pair, Formulas, NoFormula, AndFormula, Par, Constant, Named, One, Entries, NoEntry, AndEntry, Act, Assign, Goto, When, Invoke, Continue, Stop, Return, Read, Write, Format}
use Rattle.f66_tree.specs.Units.{Context}
use Rattle.f66_tree.specs.Evaluation.{Sort, AnArray, sort_of, is_array}
use Rattle.f66_names.specs.Kinds.{operand}
use Rattle.f66_program.specs.Mentions.{Mention, AVariable, applied, mentions_of, mentions_of_all, mentions_of_par, mentions_of_entries, mentions_in, declares}
use Rattle.plain_units.specs.Plain.{IsSigned, IsLeaf, AreLeaves, IsPassed, ArePassed, IsIntrinsic, IsFunction, IsValue, IsTest, IsUnit, AreListed, IsPlain}
use Rattle.efl_typed.proofs.Each.{Each}
use Rattle.efl_lowered.proofs.TypedChecks.{each_on}

module _ (V F : Text → Kind → Type 0) (S : Text → Type 0) where
  -- a variable that is named is one of those
  abbrev pub IsOne : Mention → Type 0
  IsOne (AVariable x) = (k : Kind) × V x k
  IsOne _ = ⊤

  abbrev pub AreOnes : List Mention → Type 0
  AreOnes ms = Each IsOne ms

  -- what a statement says of names
  pub record SaysOnes (c : Context) (a : Act) : Type 0 where
    pub ones : AreOnes (mentions_in c a)
    pub none : (q : Text) → declares q a ≡ false

  module _ (c : Context) where
    joined : (xs ys : List Mention) → AreOnes xs → AreOnes ys → AreOnes (xs ++ ys)
    joined xs ys h k = each_on IsOne xs ys h k

    leaf_ones : (e : Formula) (k : Kind) → IsLeaf V F S e k → AreOnes (mentions_of c e)
    leaf_ones (Int z) k h = tt
    leaf_ones (Truth b) k h = tt
    leaf_ones (Ref x) k h = ((k, h), tt)
    leaf_ones _ k h = absurd h

    leaves_ones : (es : Formulas) (k : Kind) → AreLeaves V F S es k → AreOnes (mentions_of_all c es)
    leaves_ones NoFormula k h = tt
    leaves_ones (AndFormula e es) k h = joined (mentions_of c e) (mentions_of_all c es) (leaf_ones e k h.0) (leaves_ones es k h.1)

    passed_ones : (e : Formula) → IsPassed V F S e → AreOnes (mentions_of c e)
    passed_ones (Int z) h = tt
    passed_ones (Ref x) h = (h, tt)
    passed_ones (Group e) h = leaf_ones e h.0 h.1
    passed_ones _ h = absurd h

    all_passed_ones : (es : Formulas) → ArePassed V F S es → AreOnes (mentions_of_all c es)
    all_passed_ones NoFormula h = tt
    all_passed_ones (AndFormula e es) h = joined (mentions_of c e) (mentions_of_all c es) (passed_ones e h.0) (all_passed_ones es h.1)

    signed_ones : (e : Formula) → IsSigned e → AreOnes (mentions_of c e)
    signed_ones (Int z) h = tt
    signed_ones (Minus (Int z)) h = tt
    signed_ones _ h = absurd h

    test_ones : (e : Formula) → IsTest V F S e → AreOnes (mentions_of c e)
    test_ones (Truth b) h = tt
    test_ones (Ref x) h = ((Logical, h), tt)
    test_ones (Not e) h = leaf_ones e Logical h
    test_ones (Pair op a b) h = joined (mentions_of c a) (mentions_of c b) (leaf_ones a Integer h.1) (signed_ones b h.2)
    test_ones _ h = absurd h

    par_ones : (u : Par) → IsUnit V F S u → AreOnes (mentions_of_par u)
    par_ones (Constant z) h = tt
    par_ones (Named x) h = ((Integer, h), tt)

    entries_ones : (es : Entries) → AreListed V F S es → AreOnes (mentions_of_entries c es)
    entries_ones NoEntry h = tt
    entries_ones (AndEntry (One (Ref x)) es) h = (h.0, entries_ones es h.1)
    entries_ones _ h = absurd h

    transfer_ones : (u : Par) (es : Entries) → IsUnit V F S u → AreListed V F S es → AreOnes (mentions_of_par u ++ mentions_of_entries c es)
    transfer_ones u es h k = joined (mentions_of_par u) (mentions_of_entries c es) (par_ones u h) (entries_ones es k)

    applied_one : (x : Text) (es : Formulas) (s : Sort) → is_array s ≡ false → IsOne (applied x es s)
    applied_one x es (AnArray ns) h = absurd (true≢false h)
    applied_one x es _ h = tt

    module _ (no_array : (x : Text) → is_array (sort_of c x) ≡ false) where
      item_ones : (x : Text) (es : Formulas) (k : Kind) → IsIntrinsic V F S x es k ⊎ IsFunction V F S x es k → AreOnes (mentions_of_all c es)
      item_ones x es k (inl i) = leaves_ones es Integer i.leaves
      item_ones x es k (inr f) = all_passed_ones es f.passed

      value_ones : (e : Formula) (k : Kind) → IsValue V F S e k → AreOnes (mentions_of c e)
      value_ones (Int z) k h = tt
      value_ones (Truth b) k h = tt
      value_ones (Ref x) k h = ((k, h), tt)
      value_ones (Item x es) k h = (applied_one x es (sort_of c x) (no_array x), item_ones x es k h)
      value_ones (Plus e) k h = leaf_ones e Integer h.1
      value_ones (Minus e) k h = leaf_ones e Integer h.1
      value_ones (Not e) k h = leaf_ones e Logical h.1
      value_ones (Pair op a b) k h = joined (mentions_of c a) (mentions_of c b) (leaf_ones a (operand op) h.1) (leaf_ones b (operand op) h.2)
      value_ones _ k h = absurd h

      pub plain_says : (a : Act) → IsPlain V F S a → SaysOnes c a
      plain_says (Assign (Ref x) e) h = record { ones = ((h.0, h.1), value_ones e h.0 h.2); none = λ q. refl }
      plain_says (When e (Goto l)) h = record { ones = joined (mentions_of c e) [] (test_ones e h) tt; none = λ q. refl }
      plain_says (Goto l) h = record { ones = tt; none = λ q. refl }
      plain_says Continue h = record { ones = tt; none = λ q. refl }
      plain_says Return h = record { ones = tt; none = λ q. refl }
      plain_says (Stop n) h = record { ones = tt; none = λ q. refl }
      plain_says (Invoke x es) h = record { ones = (tt, all_passed_ones es h.1); none = λ q. refl }
      plain_says (Read u l es) h = record { ones = transfer_ones u es h.0 h.1; none = λ q. refl }
      plain_says (Write u l es) h = record { ones = transfer_ones u es h.0 h.1; none = λ q. refl }
      plain_says (Format fs) h = record { ones = tt; none = λ q. refl }
      plain_says _ h = absurd h
