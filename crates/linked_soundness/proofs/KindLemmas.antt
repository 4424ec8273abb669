-- What has a type by the rules of mains has it by those of units of every kind, and so subscripts are integers.
use Rattle.std.proofs.Common.{◌≡◌, Bool, true, false, true≢false, sym}
use Rattle.std.specs.Prelude.{◌&&◌, ◌||◌}
use Rattle.std.proofs.lemmas.Bool.{and_parts, and_from, or_right}
use Rattle.ground.specs.declared.value.Kind.{Kind}
use Rattle.ground.specs.declared.value.Kind.TheVariants.{Integer, Logical}
use Rattle.f66_tree.specs.Syntax.{Formula, Int, Truth, Letter, Ref, Item, Group, Plus, Minus, Not, Pair, Formulas, NoFormula, AndFormula}
use Rattle.f66_tree.specs.Units.{Context, kind_of}
use Rattle.f66_names.specs.declared.name_form.NameForm.{NameForm}
use Rattle.f66_names.specs.declared.name_form.NameForm.TheVariants as forms
use Rattle.f66_names.specs.Sorts.{name_form, is_integer}
use Rattle.f66_names.specs.Kinds as plain
use Rattle.f66_names.specs.Kinds.{are_subscripts, same_kind, may_be, operand, outcome}
use Rattle.f66_soundness.proofs.KindLemmas.{subscripts_whole}
use Rattle.unit_rules.specs.Types.{applied, fits, are_integers, are_actuals, are_passed, is_letter, is_whole, kind_seen}

applied_fits : (form : NameForm) (element intrinsic known function : Bool) → (intrinsic ≡ true → known ≡ true) → plain.applied form element intrinsic ≡ true → applied form element known function ≡ true
applied_fits (forms.Array n) element intrinsic known function into h = h
applied_fits (forms.Intrinsic a) element intrinsic known function into h = into h
applied_fits forms.Plain element intrinsic known function into h = absurd (true≢false (sym h))

intrinsic_fits : (integer listed known same : Bool) → (listed ≡ true → known ≡ true) → (integer && listed && same) ≡ true → (integer && known && same) ≡ true
intrinsic_fits true listed known same into h = let p = and_parts listed same h in and_from known same (into p.0) p.1
intrinsic_fits false listed known same into h = h

module _ (c : Context) where
  mutual
    plain_fits : (e : Formula) (k : Kind) → plain.fits c e k ≡ true → fits c e k ≡ true
    plain_fits (Int z) k h = h
    plain_fits (Truth b) k h = h
    plain_fits (Letter l) k h = h
    plain_fits (Ref x) k h = h
    plain_fits (Item x es) k h =
        applied_fits (name_form c x) (are_subscripts c es && may_be c x k) (is_integer (kind_of c x) && plain.are_integers c es && same_kind Integer k)
        (is_integer (kind_of c x) && are_integers c es && same_kind Integer k) (may_be c x k && are_actuals c es)
        (intrinsic_fits (is_integer (kind_of c x)) (plain.are_integers c es) (are_integers c es) (same_kind Integer k) (plain_integers es)) h
    plain_fits (Group a) k h = plain_fits a k h
    plain_fits (Plus a) k h = let p = and_parts (same_kind Integer k) _ h in and_from (same_kind Integer k) _ p.0 (plain_fits a Integer p.1)
    plain_fits (Minus a) k h = let p = and_parts (same_kind Integer k) _ h in and_from (same_kind Integer k) _ p.0 (plain_fits a Integer p.1)
    plain_fits (Not a) k h = let p = and_parts (same_kind Logical k) _ h in and_from (same_kind Logical k) _ p.0 (plain_fits a Logical p.1)
    plain_fits (Pair op a b) k h =
        let p = and_parts (same_kind (outcome op) k) _ h in
        let both = and_parts (plain.fits c a (operand op)) _ p.1 in
        and_from (same_kind (outcome op) k) _ p.0 (and_from (fits c a (operand op)) _ (plain_fits a (operand op) both.0) (plain_fits b (operand op) both.1))

    plain_integers : (es : Formulas) → plain.are_integers c es ≡ true → are_integers c es ≡ true
    plain_integers NoFormula h = h
    plain_integers (AndFormula e es) h =
        let p = and_parts (plain.fits c e Integer) _ h in
        and_from (fits c e Integer) _ (plain_fits e Integer p.0) (plain_integers es p.1)

  pub subscripts_are_integers : (es : Formulas) → are_subscripts c es ≡ true → are_integers c es ≡ true
  subscripts_are_integers es h = plain_integers es (subscripts_whole c es h)

  -- what a function takes a CALL may take too
  pub actuals_are_passed : (es : Formulas) → are_actuals c es ≡ true → are_passed c es ≡ true
  actuals_are_passed NoFormula h = h
  actuals_are_passed (AndFormula e es) h =
      let p = and_parts (is_whole c e || fits c e (kind_seen c e)) _ h in
      and_from (is_letter e || (is_whole c e || fits c e (kind_seen c e))) _ (or_right (is_letter e) _ p.0) (actuals_are_passed es p.1)
