-- What jumps, tests and stores of the spare name break: no more than the conditions and values that they are made of.
use Rattle.std.proofs.Common.{◌≡◌, ℕ, Bool, true, false, List, [], ◌∷◌, ◌++◌, None, refl, ap, ◌∙◌}
use Rattle.std.specs.Prelude.{◌&&◌, ◌||◌, not}
use Rattle.std.specs.List.{list_any}
use Rattle.std.proofs.lemmas.Bool.{or_from, or_parts}
use Rattle.std.proofs.lemmas.List.{append-nil}
use Rattle.ground.specs.declared.value.Kind.{Kind}
use Rattle.ground.specs.declared.value.Kind.TheVariants.{Integer, Logical}
use Rattle.rule_table.specs.declared.rule.Rule.{Rule}
use Rattle.rule_table.specs.declared.rule.Rule.TheVariants.{Syntax, NameTooLong, OutOfProfileType, TypeClash, WrongCount, DuplicateName, BadConstant, BadFormat, NotAssignable, LargeArray}
use Rattle.f66_tree.specs.Syntax.{Text, Formula, Ref, Item, Group, Not, Par, Header, Act, Assign, Goto, Sign, When, Loop, Continue, Stop, Return}
use Rattle.f66_tree.specs.Units.{Note, Context, sizes_of, kind_of}
use Rattle.f66_names.specs.Shapes.{is_name, stands}
use Rattle.f66_names.specs.Sorts.{is_real_by_letter, is_foreign, is_array_name}
use Rattle.f66_names.specs.Uses.{Usage, uses_of, uses_in}
use Rattle.f66_names.specs.Declaring.{declared_in}
use Rattle.f66_names.specs.Kinds.{same_kind, may_be}
use Rattle.f66_names.specs.NameRules.{is_long, gives_other, miscounts, redeclares}
use Rattle.f66_names.proofs.JumpLemmas.{and_true, or_false}
use Rattle.rule_table.specs.Words.{find_map}
use Rattle.unit_rules.specs.Listed.{common_in, equated_in, preset_in, more_names}
use Rattle.unit_rules.specs.Types.{fits, assigns}
use Rattle.unit_rules.specs.Heads.{is_settled, declares_own}
use Rattle.unit_rules.specs.Roles.{mixes_roles}
use Rattle.unit_rules.specs.Storage.{is_held, holds_place, block_in, is_open_block, may_hold, are_within, takes_value, lists_again, presets_wrong}
use Rattle.unit_rules.specs.UnitRules.{has_foreign_name, breaks_rule}
use Rattle.rat_lower.specs.Code.{case_test}
use Rattle.rat_lower.proofs.Soundness.Kept.{Keeps, KeepsValues}
use Rattle.rat_lower.proofs.Soundness.Redeclared.{declaration, repeated}
use Rattle.rat_lower.proofs.Soundness.Alike.{arrays, measured, stored, oddly, clashed, constants, listed_constants}

-- what a statement breaks that names are used in, wherever it stands
abbrev pub breaks_alone : Context → List Act → Act → Rule → Bool
breaks_alone c acts a DuplicateName = (list_any (λ d. is_held c.header d.name) (common_in a) || list_any (holds_place c.header) (equated_in a)) || declares_own c.header a
breaks_alone c acts a k = breaks_rule c acts 0 a k

abbrev pub IsCleanAct : Context → List Act → Act → Type 0
IsCleanAct c acts a = (k : Rule) → breaks_alone c acts a k ≡ false

-- what breaks no rule at its place breaks none of these
pub clean_alone : (c : Context) (acts : List Act) (i : ℕ) (a : Act) → ((k : Rule) → breaks_rule c acts i a k ≡ false) → IsCleanAct c acts a
clean_alone c acts i a h Syntax = h Syntax
clean_alone c acts i a h NameTooLong = h NameTooLong
clean_alone c acts i a h OutOfProfileType = h OutOfProfileType
clean_alone c acts i a h TypeClash = h TypeClash
clean_alone c acts i a h WrongCount = h WrongCount
clean_alone c acts i a h DuplicateName =
    let again = or_parts (redeclares acts i a) (lists_again c acts i a || (declares_own c.header a || mixes_roles c acts a)) (h DuplicateName) in
    let listed = or_parts (lists_again c acts i a) (declares_own c.header a || mixes_roles c acts a) again.1 in
    let own = or_parts (declares_own c.header a) (mixes_roles c acts a) listed.1 in
    or_from (list_any (λ d. is_held c.header d.name) (common_in a) || list_any (holds_place c.header) (equated_in a)) _ (or_parts _ _ (or_parts _ _ listed.0).1).1 own.0
clean_alone c acts i a h BadConstant = h BadConstant
clean_alone c acts i a h BadFormat = h BadFormat
clean_alone c acts i a h NotAssignable = h NotAssignable
clean_alone c acts i a h LargeArray = h LargeArray
clean_alone c acts i a h _ = refl

-- and the other way round, where it repeats nothing and uses each name in its class
pub clean_at : (c : Context) (acts : List Act) (i : ℕ) (a : Act) → IsCleanAct c acts a → repeated acts i a ≡ false → mixes_roles c acts a ≡ false → (k : Rule) → breaks_rule c acts i a k ≡ false
clean_at c acts i a h once unmixed Syntax = h Syntax
clean_at c acts i a h once unmixed NameTooLong = h NameTooLong
clean_at c acts i a h once unmixed OutOfProfileType = h OutOfProfileType
clean_at c acts i a h once unmixed TypeClash = h TypeClash
clean_at c acts i a h once unmixed WrongCount = h WrongCount
clean_at c acts i a h once unmixed DuplicateName =
    let own = or_parts (list_any (λ d. is_held c.header d.name) (common_in a) || list_any (holds_place c.header) (equated_in a)) (declares_own c.header a) (h DuplicateName) in
    let again = or_parts (redeclares acts i a) _ once in
    let listed = or_parts _ _ again.1 in
    or_from (redeclares acts i a) _ again.0 (or_from (lists_again c acts i a) _ (or_from _ _ listed.0 (or_from _ _ listed.1 own.0)) (or_from (declares_own c.header a) _ own.1 unmixed))
clean_at c acts i a h once unmixed BadConstant = h BadConstant
clean_at c acts i a h once unmixed BadFormat = h BadFormat
clean_at c acts i a h once unmixed NotAssignable = h NotAssignable
clean_at c acts i a h once unmixed LargeArray = h LargeArray
clean_at c acts i a h once unmixed _ = refl

-- ---- in a unit in which names mean the same ----

module _ (h : Header) (m n : List Note) (said acts : List Act) (sizes : (x : Text) → sizes_of x n ≡ sizes_of x m) where
  abbrev c : Context
  c = record { header = h; notes = m }

  abbrev d : Context
  d = record { header = h; notes = n }

  module _ (blocks : (x : Text) → find_map (block_in x) acts ≡ find_map (block_in x) said) where
    held : (x : Text) → may_hold d acts x ≡ may_hold c said x
    held x = ap (λ o. not (is_held h x) && is_open_block h o) (blocks x)

    valued : (e : Formula) → takes_value d acts e ≡ takes_value c said e
    valued (Ref x) = ap (λ b. not b && may_hold d acts x) (arrays h m n sizes x) ∙ ap (λ b. not (is_array_name c x) && b) (held x)
    valued (Item x es) =
        ap (λ b. b && (are_within (sizes_of x n) es && may_hold d acts x)) (arrays h m n sizes x) ∙ ap (λ ns. is_array_name c x && (are_within ns es && may_hold d acts x)) (sizes x)
        ∙ ap (λ b. is_array_name c x && (are_within (sizes_of x m) es && b)) (held x)
    valued _ = refl

    preset : (a : Act) → presets_wrong d acts a ≡ presets_wrong c said a
    preset a = ap (λ (f : Formula → Bool). list_any (λ p. not (f p)) (preset_in a)) (λ i e. valued e i)

    module _ (kinds : (x : Text) → kind_of d x ≡ kind_of c x) (foreign : (x : Text) → is_foreign d x ≡ is_foreign c x) (letters : (x : Text) → is_real_by_letter c x ≡ false → is_real_by_letter d x ≡ false) where
      none_more : {A : Type 0} (f : A → Text) (xs : List A) → list_any (λ x. is_real_by_letter c (f x)) xs ≡ false → list_any (λ x. is_real_by_letter d (f x)) xs ≡ false
      none_more f [] e = refl
      none_more f (x ∷ xs) e = let k = or_parts (is_real_by_letter c (f x)) _ e in or_from (is_real_by_letter d (f x)) _ (letters (f x) k.0) (none_more f xs k.1)

      typed : (a : Act) → has_foreign_name c a ≡ false → has_foreign_name d a ≡ false
      typed a e =
          let k = or_parts _ _ e in
          let p = or_parts (gives_other a) _ k.0 in
          let r = or_parts _ _ p.1 in
          or_from _ _ (or_from (gives_other a) _ p.0 (or_from _ _ (none_more (λ x. x.name) (declared_in a) r.0) (none_more (λ (u : Usage). u.name) (uses_in a) r.1))) (none_more (λ (u : Usage). u.name) (more_names a) k.1)

      pub clean_alike : (a : Act) → IsCleanAct c said a → IsCleanAct d acts a
      clean_alike a clean Syntax = clean Syntax
      clean_alike a clean NameTooLong = clean NameTooLong
      clean_alike a clean OutOfProfileType = typed a (clean OutOfProfileType)
      clean_alike a clean TypeClash = let k = or_parts _ _ (clean TypeClash) in or_from _ _ (clashed h m n sizes kinds foreign a ∙ k.0) (oddly h m n sizes kinds foreign a ∙ k.1)
      clean_alike a clean WrongCount = measured h m n sizes a ∙ clean WrongCount
      clean_alike a clean DuplicateName = clean DuplicateName
      clean_alike a clean BadConstant = let k = or_parts _ _ (clean BadConstant) in or_from _ _ (constants h m n sizes kinds foreign a ∙ k.0) (listed_constants h m n sizes kinds foreign a ∙ k.1)
      clean_alike a clean BadFormat = clean BadFormat
      clean_alike a clean NotAssignable = let k = or_parts _ _ (clean NotAssignable) in or_from _ _ (stored h m n sizes a ∙ k.0) (preset a ∙ k.1)
      clean_alike a clean LargeArray = clean LargeArray
      clean_alike a clean _ = refl

-- ---- what is made besides ----

-- an integer variable whose name is fit, and which the header does not give
pub record IsScalar (c : Context) (x : Text) : Type 0 where
  pub named : is_name x ≡ true
  pub short : is_long x ≡ false
  pub typed : is_real_by_letter c x ≡ false
  pub own : is_foreign c x ≡ false
  pub kind : kind_of c x ≡ Integer
  pub plain : is_array_name c x ≡ false
  pub unsettled : is_settled c.header x ≡ false

module _ (c : Context) (acts : List Act) where
  passes : IsCleanAct c acts Continue
  passes Syntax = refl
  passes NameTooLong = refl
  passes OutOfProfileType = refl
  passes TypeClash = refl
  passes WrongCount = refl
  passes DuplicateName = refl
  passes BadConstant = refl
  passes BadFormat = refl
  passes NotAssignable = refl
  passes LargeArray = refl
  passes _ = refl

  goes : (l : ℕ) → IsCleanAct c acts (Goto l)
  goes l Syntax = refl
  goes l NameTooLong = refl
  goes l OutOfProfileType = refl
  goes l TypeClash = refl
  goes l WrongCount = refl
  goes l DuplicateName = refl
  goes l BadConstant = refl
  goes l BadFormat = refl
  goes l NotAssignable = refl
  goes l LargeArray = refl
  goes l _ = refl

  stops : IsCleanAct c acts (Stop None)
  stops Syntax = refl
  stops NameTooLong = refl
  stops OutOfProfileType = refl
  stops TypeClash = refl
  stops WrongCount = refl
  stops DuplicateName = refl
  stops BadConstant = refl
  stops BadFormat = refl
  stops NotAssignable = refl
  stops LargeArray = refl
  stops _ = refl

  pub return_clean : IsCleanAct c acts Return
  return_clean Syntax = refl
  return_clean NameTooLong = refl
  return_clean OutOfProfileType = refl
  return_clean TypeClash = refl
  return_clean WrongCount = refl
  return_clean DuplicateName = refl
  return_clean BadConstant = refl
  return_clean BadFormat = refl
  return_clean NotAssignable = refl
  return_clean LargeArray = refl
  return_clean _ = refl

  -- the label of a jump, and of a DO's end, is no matter of names
  denied : (e : Formula) (l : ℕ) → IsCleanAct c acts (When e Continue) → IsCleanAct c acts (When (Not (Group e)) (Goto l))
  denied e l h Syntax = h Syntax
  denied e l h NameTooLong = h NameTooLong
  denied e l h OutOfProfileType = h OutOfProfileType
  denied e l h TypeClash = h TypeClash
  denied e l h WrongCount = h WrongCount
  denied e l h DuplicateName = h DuplicateName
  denied e l h BadConstant = h BadConstant
  denied e l h BadFormat = h BadFormat
  denied e l h NotAssignable = h NotAssignable
  denied e l h LargeArray = h LargeArray
  denied e l h _ = refl

  counts : (l : ℕ) (x : Text) (p q r : Par) → IsCleanAct c acts (Loop 0 x p q r) → IsCleanAct c acts (Loop l x p q r)
  counts l x p q r h Syntax = h Syntax
  counts l x p q r h NameTooLong = h NameTooLong
  counts l x p q r h OutOfProfileType = h OutOfProfileType
  counts l x p q r h TypeClash = h TypeClash
  counts l x p q r h WrongCount = h WrongCount
  counts l x p q r h DuplicateName = h DuplicateName
  counts l x p q r h BadConstant = h BadConstant
  counts l x p q r h BadFormat = h BadFormat
  counts l x p q r h NotAssignable = h NotAssignable
  counts l x p q r h LargeArray = h LargeArray
  counts l x p q r h _ = refl

  pub clean_keeps : Keeps (IsCleanAct c acts)
  clean_keeps = record {
    passes = passes;
    goes = goes;
    stops = stops;
    denied = denied;
    counts = counts;
  }

  module _ (x : Text) (scalar : IsScalar c x) where
    -- it is an integer and nothing else
    may_alike : (k : Kind) → may_be c x k ≡ same_kind Integer k
    may_alike k = ap (λ b. same_kind (kind_of c x) k || b) scalar.own ∙ or_false (same_kind (kind_of c x) k) ∙ ap (λ y. same_kind y k) scalar.kind

    fits_integer : fits c (Ref x) Integer ≡ true
    fits_integer = ap (λ b. not b && may_be c x Integer) scalar.plain ∙ may_alike Integer

    stored_kind : (k : Kind) → (is_array_name c x || may_be c x k) ≡ same_kind Integer k
    stored_kind k = ap (λ b. b || may_be c x k) scalar.plain ∙ may_alike k

    stored_fits : (e : Formula) → (assigns c (Ref x) e Integer || assigns c (Ref x) e Logical) ≡ fits c e Integer
    stored_fits e =
        ap (λ b. (b && fits c e Integer) || assigns c (Ref x) e Logical) (stored_kind Integer)
        ∙ ap (λ b. fits c e Integer || (b && fits c e Logical)) (stored_kind Logical)
        ∙ or_false (fits c e Integer)

    compared : (e : Formula) (l : ℕ) → IsCleanAct c acts (Sign e 0 0 0) → IsCleanAct c acts (When (case_test x e) (Goto l))
    compared e l h Syntax = ap (λ b. not (((b && stands 0 e) && true) && true)) scalar.named ∙ ap not (and_true ((stands 0 e && true)) ∙ and_true (stands 0 e)) ∙ h Syntax
    compared e l h NameTooLong = ap (λ b. (b || list_any (λ (u : Usage). is_long u.name) (uses_of e ++ [])) || false) scalar.short ∙ ap (λ us. list_any (λ (u : Usage). is_long u.name) us || false) (append-nil (uses_of e)) ∙ h NameTooLong
    compared e l h OutOfProfileType =
        ap (λ b. (b || list_any (λ (u : Usage). is_real_by_letter c u.name) (uses_of e ++ [])) || false) scalar.typed ∙ ap (λ us. list_any (λ (u : Usage). is_real_by_letter c u.name) us || false) (append-nil (uses_of e)) ∙ h OutOfProfileType
    compared e l h TypeClash = ap (λ b. b || false) (or_false (not (fits c (Ref x) Integer && fits c e Integer)) ∙ ap (λ b. not (b && fits c e Integer)) fits_integer) ∙ h TypeClash
    compared e l h WrongCount = ap (λ us. (list_any (miscounts c) us || false) || false) (append-nil (uses_of e)) ∙ h WrongCount
    compared e l h DuplicateName = refl
    compared e l h BadConstant = refl
    compared e l h BadFormat = refl
    compared e l h NotAssignable = refl
    compared e l h LargeArray = refl
    compared e l h _ = refl

    put : (e : Formula) → IsCleanAct c acts (Sign e 0 0 0) → IsCleanAct c acts (Assign (Ref x) e)
    put e h Syntax = ap (λ b. not (b && stands 0 e)) scalar.named ∙ h Syntax
    put e h NameTooLong = ap (λ b. (b || list_any (λ (u : Usage). is_long u.name) (uses_of e)) || false) scalar.short ∙ h NameTooLong
    put e h OutOfProfileType = ap (λ b. (b || list_any (λ (u : Usage). is_real_by_letter c u.name) (uses_of e)) || false) scalar.typed ∙ h OutOfProfileType
    put e h TypeClash = ap (λ b. not b || false) (stored_fits e) ∙ h TypeClash
    put e h WrongCount = h WrongCount
    put e h DuplicateName = refl
    put e h BadConstant = refl
    put e h BadFormat = refl
    put e h NotAssignable = ap (λ b. not (not b) || false) scalar.plain
    put e h LargeArray = refl
    put e h _ = refl

    pub clean_values : KeepsValues (IsCleanAct c acts) x
    clean_values = record { compared = compared; stored = put }

    pub declaration_clean : IsCleanAct c acts (declaration x)
    declaration_clean Syntax = ap (λ b. not ((b && true) && true)) scalar.named
    declaration_clean NameTooLong = ap (λ b. ((b || false) || false) || false) scalar.short
    declaration_clean OutOfProfileType = ap (λ b. ((b || false) || false) || false) scalar.typed
    declaration_clean DuplicateName = ap (λ b. (b || false) || false) scalar.unsettled
    declaration_clean _ = refl
