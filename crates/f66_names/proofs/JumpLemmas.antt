-- What a compiler's own statements break: jumps, tests of a condition or of a scalar, and stores into a scalar.
use Rattle.std.proofs.Common.{◌≡◌, ◌&&◌, ◌||◌, ℕ, Bool, true, false, not, None, List, [], ◌++◌, refl, ap, ◌∙◌}
use Rattle.std.specs.List.{list_any}
use Rattle.std.proofs.lemmas.List.{append-nil}
use Rattle.ground.specs.declared.value.Kind.{Kind}
use Rattle.ground.specs.declared.value.Kind.TheVariants.{Integer, Logical}
use Rattle.rule_table.specs.declared.rule.Rule.{Rule}
use Rattle.rule_table.specs.declared.rule.Rule.TheVariants.{Syntax, NameTooLong, OutOfProfileType, TypeClash, WrongCount, DuplicateName, NotAssignable}
use Rattle.f66_tree.specs.declared.expression.Operator.TheVariants.{Eq}
use Rattle.f66_tree.specs.Syntax.{Text, Formula, Ref, Group, Not, Pair, Par, Act, Assign, Goto, Sign, When, Loop, Continue, Stop}
use Rattle.f66_tree.specs.Units.{Context, kind_of}
use Rattle.f66_names.specs.declared.name_form.Manner.TheVariants.{Alone}
use Rattle.f66_names.specs.Shapes.{is_name, stands}
use Rattle.f66_names.specs.Sorts.{is_real_by_letter, is_foreign, is_array_name}
use Rattle.f66_names.specs.Uses.{Usage, usage, uses_of}
use Rattle.f66_names.specs.Kinds.{same_kind, may_be, fits, assigns}
use Rattle.f66_names.specs.NameRules.{is_long, miscounts, misuses}
use Rattle.f66_names.specs.Rules.{breaks_name}

pub and_true : (a : Bool) → (a && true) ≡ a
and_true true = refl
and_true false = refl

pub or_false : (a : Bool) → (a || false) ≡ a
or_false true = refl
or_false false = refl

-- an integer variable whose name is fit
pub record IsScalar (c : Context) (acts : List Act) (x : Text) : Type 0 where
  pub named : is_name x ≡ true
  pub short : is_long x ≡ false
  pub typed : is_real_by_letter c x ≡ false
  pub own : is_foreign c x ≡ false
  pub kind : kind_of c x ≡ Integer
  pub plain : is_array_name c x ≡ false
  pub used : misuses c acts (usage x Alone) ≡ false

module _ (c : Context) (acts : List Act) (i : ℕ) where
  pub passes_clean : (k : Rule) → breaks_name c acts i Continue k ≡ false
  passes_clean Syntax = refl
  passes_clean _ = refl

  pub goes_clean : (l : ℕ) (k : Rule) → breaks_name c acts i (Goto l) k ≡ false
  goes_clean l Syntax = refl
  goes_clean l _ = refl

  pub stops_clean : (k : Rule) → breaks_name c acts i (Stop None) k ≡ false
  stops_clean Syntax = refl
  stops_clean _ = refl

  -- the label of a DO's end is no matter of names
  pub loops_alike : (l m : ℕ) (x : Text) (p q r : Par) (k : Rule) → breaks_name c acts i (Loop l x p q r) k ≡ breaks_name c acts i (Loop m x p q r) k
  loops_alike l m x p q r Syntax = refl
  loops_alike l m x p q r _ = refl

  -- IF(.NOT.(e))GO TO l breaks what the condition does
  pub denied_breaks : (e : Formula) (l : ℕ) (k : Rule) → breaks_name c acts i (When (Not (Group e)) (Goto l)) k ≡ breaks_name c acts i (When e Continue) k
  denied_breaks e l TypeClash = refl
  denied_breaks e l _ = refl

  module _ (x : Text) (scalar : IsScalar c acts x) where
    -- it is an integer and nothing else
    may_alike : (k : Kind) → may_be c x k ≡ same_kind Integer k
    may_alike k = ap (λ b. same_kind (kind_of c x) k || b) scalar.own ∙ or_false (same_kind (kind_of c x) k) ∙ ap (λ y. same_kind y k) scalar.kind

    fits_integer : fits c (Ref x) Integer ≡ true
    fits_integer = ap (λ b. not b && may_be c x Integer) scalar.plain ∙ may_alike Integer

    -- IF(x .EQ. (e))GO TO l breaks what the value does
    pub compared_breaks : (e : Formula) (l m n q : ℕ) (k : Rule) → breaks_name c acts i (When (Pair Eq (Ref x) (Group e)) (Goto l)) k ≡ breaks_name c acts i (Sign e m n q) k
    compared_breaks e l m n q Syntax = ap (λ b. not ((b && stands 0 e) && true)) scalar.named ∙ ap not (and_true (stands 0 e))
    compared_breaks e l m n q NameTooLong = ap (λ b. b || list_any (λ (u : Usage). is_long u.name) (uses_of e ++ [])) scalar.short ∙ ap (list_any (λ (u : Usage). is_long u.name)) (append-nil (uses_of e))
    compared_breaks e l m n q OutOfProfileType = ap (λ b. b || list_any (λ (u : Usage). is_real_by_letter c u.name) (uses_of e ++ [])) scalar.typed ∙ ap (list_any (λ (u : Usage). is_real_by_letter c u.name)) (append-nil (uses_of e))
    compared_breaks e l m n q TypeClash = or_false _ ∙ ap (λ b. not (b && fits c e Integer)) fits_integer
    compared_breaks e l m n q WrongCount = ap (list_any (miscounts c)) (append-nil (uses_of e))
    compared_breaks e l m n q DuplicateName = ap (λ b. b || list_any (misuses c acts) (uses_of e ++ [])) scalar.used ∙ ap (list_any (misuses c acts)) (append-nil (uses_of e))
    compared_breaks e l m n q _ = refl

    -- x = e breaks what the value does
    stored_kind : (k : Kind) → (is_array_name c x || may_be c x k) ≡ same_kind Integer k
    stored_kind k = ap (λ b. b || may_be c x k) scalar.plain ∙ may_alike k

    stored_fits : (e : Formula) → (assigns c (Ref x) e Integer || assigns c (Ref x) e Logical) ≡ fits c e Integer
    stored_fits e =
        ap (λ b. (b && fits c e Integer) || assigns c (Ref x) e Logical) (stored_kind Integer)
        ∙ ap (λ b. fits c e Integer || (b && fits c e Logical)) (stored_kind Logical)
        ∙ or_false (fits c e Integer)

    pub stored_breaks : (e : Formula) (m n q : ℕ) (k : Rule) → breaks_name c acts i (Assign (Ref x) e) k ≡ breaks_name c acts i (Sign e m n q) k
    stored_breaks e m n q Syntax = ap (λ b. not (b && stands 0 e)) scalar.named
    stored_breaks e m n q NameTooLong = ap (λ b. b || list_any (λ (u : Usage). is_long u.name) (uses_of e)) scalar.short
    stored_breaks e m n q OutOfProfileType = ap (λ b. b || list_any (λ (u : Usage). is_real_by_letter c u.name) (uses_of e)) scalar.typed
    stored_breaks e m n q TypeClash = ap not (stored_fits e)
    stored_breaks e m n q WrongCount = refl
    stored_breaks e m n q DuplicateName = ap (λ b. b || list_any (misuses c acts) (uses_of e)) scalar.used
    stored_breaks e m n q NotAssignable = ap (λ b. not (not b)) scalar.plain
    stored_breaks e m n q _ = refl
