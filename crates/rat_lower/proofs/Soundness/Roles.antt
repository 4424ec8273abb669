-- The class that a unit uses a name in is that of each use, where no use in its source is in another.
use Rattle.std.proofs.Common.{◌≡◌, ◌≢◌, Bool, true, false, true≢false, List, [], ◌∷◌, ◌++◌, ◌⊎◌, inl, inr, Option, Some, None, refl, sym, ap, ◌∙◌}
use Rattle.std.specs.Prelude.{not, ◌||◌, is_some, if◌then◌else◌}
use Rattle.std.specs.List.{list_any}
use Rattle.std.specs.Option.{option_or}
use Rattle.std.specs.Str.{bytes_eq}
use Rattle.std.proofs.lemmas.Bool.{or_from, or_parts}
use Rattle.std.proofs.lemmas.List.{append-nil}
use Rattle.std.proofs.lemmas.Option.{none-some}
use Rattle.std.proofs.lemmas.Slice.Eq.{bytes_eq-Decides}
use Rattle.rule_table.specs.Words.{find_map, is_some_and}
use Rattle.f66_tree.specs.Syntax.{Text, Header, Act}
use Rattle.f66_tree.specs.Units.{Note, Context, sizes_of}
use Rattle.f66_names.specs.declared.name_form.NameForm.{NameForm}
use Rattle.f66_names.specs.declared.name_form.NameForm.TheVariants as forms
use Rattle.f66_names.specs.declared.name_form.Manner.TheVariants.{Alone}
use Rattle.f66_names.specs.Declaring.{type_given}
use Rattle.f66_names.specs.Sorts.{name_form, is_array_name}
use Rattle.f66_names.specs.Uses.{Usage, usage, uses_of}
use Rattle.unit_rules.specs.declared.roles.Role.{Role}
use Rattle.unit_rules.specs.declared.roles.Role.TheVariants.{Variable, Function, Subroutine}
use Rattle.unit_rules.specs.Called.{called_in}
use Rattle.unit_rules.specs.Judged.{judged_uses}
use Rattle.unit_rules.specs.Listed.{any_use, first_use, more_uses}
use Rattle.unit_rules.specs.Roles.{role_by, role_used, role_given, role_called, role_in, role_held, role_of, same_role, has_other_role, misuses, miscalls, mixes_roles}
use Rattle.rat_lower.proofs.Accepted.NoFault.{AllOf}
use Rattle.rat_lower.proofs.Soundness.Kept.{Keeps, KeepsValues}
use Rattle.rat_lower.proofs.Soundness.Alike.{forms as forms_alike, arrays, judged, more}

-- ---- names and classes ----

same_name : (x y : Text) → bytes_eq x y ≡ true → x ≡ y
same_name x y e = (bytes_eq-Decides x y).0 e

itself : (x : Text) → bytes_eq x x ≡ true
itself x = (bytes_eq-Decides x x).1 refl

one_role : (r s : Role) → not (same_role r s) ≡ false → Some s ≡ Some r
one_role Variable Variable e = refl
one_role Function Function e = refl
one_role Subroutine Subroutine e = refl
one_role Variable Function e = absurd (true≢false e)
one_role Variable Subroutine e = absurd (true≢false e)
one_role Function Variable e = absurd (true≢false e)
one_role Function Subroutine e = absurd (true≢false e)
one_role Subroutine Variable e = absurd (true≢false e)
one_role Subroutine Function e = absurd (true≢false e)

-- a class that is no other one is this
is_role : (r : Role) (o : Option Role) → has_other_role (Some r) o ≡ false → o ≡ Some r
is_role r None e = absurd (true≢false e)
is_role r (Some s) e = one_role r s e

own_role : (r : Role) → has_other_role (Some r) (Some r) ≡ false
own_role Variable = refl
own_role Function = refl
own_role Subroutine = refl

-- what has a class has no other one than none
no_role : (o : Option Role) → has_other_role o None ≡ false → o ≡ None
no_role None e = refl
no_role (Some r) e = absurd (true≢false e)

first_none : {V : Type 0} (o p : Option V) → option_or o p ≡ None → (o ≡ None) × (p ≡ None)
first_none None p e = (refl, e)
first_none (Some v) p e = absurd (none-some v (sym e))

module _ (h : Header) (m n : List Note) (sizes : (x : Text) → sizes_of x n ≡ sizes_of x m) (said acts : List Act) (q : Text) where
  abbrev c : Context
  c = record { header = h; notes = m }

  abbrev d : Context
  d = record { header = h; notes = n }

  -- the class that a name has in the unit: the spare name is a variable
  abbrev role : Text → Option Role
  role x = if bytes_eq x q then Some Variable else role_of c said x

  abbrev Misused : Usage → Bool
  Misused u = has_other_role (role_used c u) (role u.name)

  abbrev Miscalled : Text → Bool
  Miscalled x = has_other_role (Some Subroutine) (role x) || (is_some (find_map (type_given x) said) || is_array_name c x)

  abbrev Mixed : Act → Bool
  Mixed a = any_use c Misused a || is_some_and Miscalled (called_in a)

  -- a statement uses each name in its class
  abbrev pub IsUnmixed : Act → Type 0
  IsUnmixed a = Mixed a ≡ false

  -- ---- what is made besides ----

  pub unmixed_keeps : Keeps IsUnmixed
  unmixed_keeps = record { passes = refl; goes = λ l. refl; stops = refl; denied = λ e l k. k; counts = λ l x p r s k. k }

  spare_form : (f : NameForm) → has_other_role (role_by f Alone) (Some Variable) ≡ false
  spare_form (forms.Array k) = refl
  spare_form (forms.Intrinsic a) = refl
  spare_form forms.Plain = refl

  spare_used : Misused (usage q Alone) ≡ false
  spare_used = ap (λ b. has_other_role (role_used c (usage q Alone)) (if b then Some Variable else role_of c said q)) (itself q) ∙ spare_form (name_form c q)

  pub unmixed_values : KeepsValues IsUnmixed q
  unmixed_values = record {
    compared = λ e l k. ap (λ b. ((b || list_any Misused (uses_of e ++ [])) || false) || false) spare_used ∙ ap (λ us. (list_any Misused us || false) || false) (append-nil (uses_of e)) ∙ k;
    stored = λ e k. ap (λ b. ((b || list_any Misused (uses_of e)) || false) || false) spare_used ∙ k;
  }

  -- ---- what the source says ----

  module _ (unheld : role_held h q ≡ None) (unsaid : find_map (role_in c q) said ≡ None) where
    spare_none : role_of c said q ≡ None
    spare_none = ap (λ o. option_or o (find_map (role_in c q) said)) unheld ∙ unsaid

    used_right : (u : Usage) → misuses c said u ≡ false → Misused u ≡ false
    used_right u e = by (bytes_eq u.name q) refl
      where
        by : (b : Bool) → bytes_eq u.name q ≡ b → has_other_role (role_used c u) (if b then Some Variable else role_of c said u.name) ≡ false
        by true is = ap (λ o. has_other_role o (Some Variable)) (no_role (role_used c u) (sym (ap (has_other_role (role_used c u)) (ap (role_of c said) (same_name u.name q is) ∙ spare_none)) ∙ e))
        by false is = e

    called_right : (x : Text) → miscalls c said x ≡ false → Miscalled x ≡ false
    called_right x e =
        let k = or_parts (has_other_role (Some Subroutine) (role_of c said x)) (is_some (find_map (type_given x) said) || is_array_name c x) e in
        or_from (has_other_role (Some Subroutine) (role x)) (is_some (find_map (type_given x) said) || is_array_name c x) (by (bytes_eq x q) refl k.0) k.1
      where
        by : (b : Bool) → bytes_eq x q ≡ b → has_other_role (Some Subroutine) (role_of c said x) ≡ false → has_other_role (Some Subroutine) (if b then Some Variable else role_of c said x) ≡ false
        by true is f = absurd (true≢false (sym (ap (has_other_role (Some Subroutine)) (ap (role_of c said) (same_name x q is) ∙ spare_none)) ∙ f))
        by false is f = f

    any_right : (f g : Usage → Bool) → ((u : Usage) → f u ≡ false → g u ≡ false) → (us : List Usage) → list_any f us ≡ false → list_any g us ≡ false
    any_right f g each [] e = refl
    any_right f g each (u ∷ us) e = let k = or_parts (f u) (list_any f us) e in or_from (g u) (list_any g us) (each u k.0) (any_right f g each us k.1)

    some_right : (o : Option Text) → is_some_and (miscalls c said) o ≡ false → is_some_and Miscalled o ≡ false
    some_right None e = refl
    some_right (Some x) e = called_right x e

    pub source_unmixed : (a : Act) → mixes_roles c said a ≡ false → IsUnmixed a
    source_unmixed a e =
        let k = or_parts (any_use c (misuses c said) a) (is_some_and (miscalls c said) (called_in a)) e in
        let p = or_parts (list_any (misuses c said) (judged_uses c a)) (list_any (misuses c said) (more_uses c a)) k.0 in
        or_from (any_use c Misused a) _
        (or_from (list_any Misused (judged_uses c a)) _ (any_right (misuses c said) Misused used_right (judged_uses c a) p.0) (any_right (misuses c said) Misused used_right (more_uses c a) p.1))
        (some_right (called_in a) k.1)

  -- ---- the unit ----

  used_alike : (u : Usage) → role_used d u ≡ role_used c u
  used_alike u = ap (λ f. role_by f u.manner) (forms_alike h m n sizes u.name)

  in_alike : (x : Text) (a : Act) → role_in d x a ≡ role_in c x a
  in_alike x a =
      ap (λ (f : Usage → Option Role). option_or (role_called x (called_in a)) (option_or (find_map (λ u. if bytes_eq x u.name then f u else None) (judged_uses d a)) (find_map (λ u. if bytes_eq x u.name then f u else None) (more_uses d a)))) (λ i u. used_alike u i)
      ∙ ap (λ us. option_or (role_called x (called_in a)) (option_or (find_map (role_given c x) us) (find_map (role_given c x) (more_uses d a)))) (judged h m n sizes a)
      ∙ ap (λ us. option_or (role_called x (called_in a)) (option_or (find_map (role_given c x) (judged_uses c a)) (find_map (role_given c x) us))) (more h m n sizes a)

  -- the first class that uses give a name is its class
  first_used : (x : Text) (r : Role) (us : List Usage) → list_any Misused us ≡ false → find_map (role_given c x) us ≡ Some r → role x ≡ Some r
  first_used x r [] e f = absurd (none-some r f)
  first_used x r (u ∷ us) e f =
      let k = or_parts (Misused u) (list_any Misused us) e in
      by (bytes_eq x u.name) refl (role_used c u) refl k.0 (λ g. first_used x r us k.1 g) f
    where
      by : (b : Bool) → bytes_eq x u.name ≡ b → (o : Option Role) → role_used c u ≡ o → has_other_role (role_used c u) (role u.name) ≡ false → (find_map (role_given c x) us ≡ Some r → role x ≡ Some r) →
          option_or (if bytes_eq x u.name then role_used c u else None) (find_map (role_given c x) us) ≡ Some r → role x ≡ Some r
      by true is (Some s) o right later g =
          let this : Some s ≡ Some r = sym (ap (λ v. option_or (if v then role_used c u else None) (find_map (role_given c x) us)) is ∙ ap (λ p. option_or p (find_map (role_given c x) us)) o) ∙ g in
          ap role (same_name x u.name is) ∙ is_role s (role u.name) (sym (ap (λ p. has_other_role p (role u.name)) o) ∙ right) ∙ this
      by true is None o right later g = later (sym (ap (λ v. option_or (if v then role_used c u else None) (find_map (role_given c x) us)) is ∙ ap (λ p. option_or p (find_map (role_given c x) us)) o) ∙ g)
      by false is o p right later g = later (sym (ap (λ v. option_or (if v then role_used c u else None) (find_map (role_given c x) us)) is) ∙ g)

  either_first : (x : Text) (r : Role) (us vs : List Usage) → list_any Misused us ≡ false → list_any Misused vs ≡ false → option_or (find_map (role_given c x) us) (find_map (role_given c x) vs) ≡ Some r → role x ≡ Some r
  either_first x r us vs e f g = by (find_map (role_given c x) us) refl g
    where
      by : (o : Option Role) → find_map (role_given c x) us ≡ o → option_or o (find_map (role_given c x) vs) ≡ Some r → role x ≡ Some r
      by None is k = first_used x r vs f k
      by (Some s) is k = first_used x s us e is ∙ k

  first_in : (x : Text) (r : Role) (a : Act) → IsUnmixed a → role_in c x a ≡ Some r → role x ≡ Some r
  first_in x r a right e =
      let k = or_parts (any_use c Misused a) (is_some_and Miscalled (called_in a)) right in
      let p = or_parts (list_any Misused (judged_uses c a)) (list_any Misused (more_uses c a)) k.0 in
      by (called_in a) k.1 (either_first x r (judged_uses c a) (more_uses c a) p.0 p.1) e
    where
      by : (o : Option Text) → is_some_and Miscalled o ≡ false → (first_use c (role_given c x) a ≡ Some r → role x ≡ Some r) → option_or (role_called x o) (first_use c (role_given c x) a) ≡ Some r → role x ≡ Some r
      by None f later g = later g
      by (Some y) f later g = named (bytes_eq x y) refl g
        where
          named : (b : Bool) → bytes_eq x y ≡ b → option_or (if b then Some Subroutine else None) (first_use c (role_given c x) a) ≡ Some r → role x ≡ Some r
          named true is k = ap role (same_name x y is) ∙ is_role Subroutine (role y) (or_parts (has_other_role (Some Subroutine) (role y)) _ f).0 ∙ k
          named false is k = later k

  -- so is that of all statements
  first_of : (x : Text) (r : Role) (these : List Act) → AllOf IsUnmixed these → find_map (role_in c x) these ≡ Some r → role x ≡ Some r
  first_of x r [] right e = absurd (none-some r e)
  first_of x r (a ∷ rest) right e = by (role_in c x a) refl (λ g. first_of x r rest right.1 g) e
    where
      by : (o : Option Role) → role_in c x a ≡ o → (find_map (role_in c x) rest ≡ Some r → role x ≡ Some r) → option_or o (find_map (role_in c x) rest) ≡ Some r → role x ≡ Some r
      by None is later g = later g
      by (Some s) is later g = first_in x s a right.0 is ∙ g

  module _ (unheld : role_held h q ≡ None) (right : AllOf IsUnmixed acts) where
    -- no statement gives the name a class
    abbrev Unused : Text → Type 0
    Unused x = find_map (role_in c x) acts ≡ None

    all_alike : (x : Text) → find_map (role_in d x) acts ≡ find_map (role_in c x) acts
    all_alike x = ap (λ (f : Act → Option Role). find_map f acts) (λ i a. in_alike x a i)

    told : (x : Text) → (role_of d acts x ≡ role x) ⊎ Unused x
    told x = by (role_held h x) refl (find_map (role_in c x) acts) refl
      where
        held : (r : Role) → role_held h x ≡ Some r → (b : Bool) → bytes_eq x q ≡ b → Some r ≡ (if b then Some Variable else role_of c said x)
        held r e true is = absurd (none-some r (sym unheld ∙ ap (role_held h) (sym (same_name x q is)) ∙ e))
        held r e false is = sym (ap (λ o. option_or o (find_map (role_in c x) said)) e)

        by : (o : Option Role) → role_held h x ≡ o → (p : Option Role) → find_map (role_in c x) acts ≡ p → (role_of d acts x ≡ role x) ⊎ Unused x
        by (Some r) e p g = inl (ap (λ o. option_or o (find_map (role_in d x) acts)) e ∙ held r e (bytes_eq x q) refl)
        by None e None g = inr g
        by None e (Some r) g = inl (ap (λ o. option_or o (find_map (role_in d x) acts)) e ∙ all_alike x ∙ g ∙ sym (first_of x r acts right g))

    -- uses of which each gives no class where no statement does
    uses_right : (us : List Usage) → list_any Misused us ≡ false → ((x : Text) → Unused x → find_map (role_given c x) us ≡ None) → list_any (misuses d acts) us ≡ false
    uses_right [] e none = refl
    uses_right (u ∷ us) e none =
        let k = or_parts (Misused u) (list_any Misused us) e in
        or_from (misuses d acts u) _ (by (told u.name) k.0) (uses_right us k.1 (λ x f. (first_none (role_given c x u) (find_map (role_given c x) us) (none x f)).1))
      where
        by : (role_of d acts u.name ≡ role u.name) ⊎ Unused u.name → Misused u ≡ false → misuses d acts u ≡ false
        by (inl same) f = ap (has_other_role (role_used d u)) same ∙ ap (λ o. has_other_role o (role u.name)) (used_alike u) ∙ f
        by (inr unused) f =
            let given = (first_none (role_given c u.name u) (find_map (role_given c u.name) us) (none u.name unused)).0 in
            ap (λ o. has_other_role o (role_of d acts u.name)) (used_alike u ∙ sym (ap (λ b. if b then role_used c u else None) (itself u.name)) ∙ given)

    module _ (types : (x : Text) → x ≢ q → find_map (type_given x) acts ≡ find_map (type_given x) said) where
      called_alike : (y : Text) → Miscalled y ≡ false → (Unused y → Some Subroutine ≡ None) → miscalls d acts y ≡ false
      called_alike y e used =
          let k = or_parts (has_other_role (Some Subroutine) (role y)) (is_some (find_map (type_given y) said) || is_array_name c y) e in
          let is : role y ≡ Some Subroutine = is_role Subroutine (role y) k.0 in
          or_from (has_other_role (Some Subroutine) (role_of d acts y)) _ (by (told y) is)
          (ap (λ o. is_some o || is_array_name d y) (types y (other is)) ∙ ap (λ b. is_some (find_map (type_given y) said) || b) (arrays h m n sizes y) ∙ k.1)
        where
          by : (role_of d acts y ≡ role y) ⊎ Unused y → role y ≡ Some Subroutine → has_other_role (Some Subroutine) (role_of d acts y) ≡ false
          by (inl same) is = ap (has_other_role (Some Subroutine)) (same ∙ is)
          by (inr unused) is = absurd (none-some Subroutine (sym (used unused)))

          other : role y ≡ Some Subroutine → y ≢ q
          other is same =
              let one : Some Variable ≡ Some Subroutine = sym (ap (λ b. if b then Some Variable else role_of c said y) ((bytes_eq-Decides y q).1 same)) ∙ is in
              absurd (true≢false (ap (λ o. not (is_some_and (same_role Subroutine) o)) one))

      -- each statement of the unit uses each name in its class
      pub unit_unmixed : (a : Act) → IsUnmixed a → ((x : Text) → Unused x → role_in c x a ≡ None) → mixes_roles d acts a ≡ false
      unit_unmixed a e none =
          let k = or_parts (any_use c Misused a) (is_some_and Miscalled (called_in a)) e in
          let p = or_parts (list_any Misused (judged_uses c a)) (list_any Misused (more_uses c a)) k.0 in
          let parts = λ (x : Text) (f : Unused x). first_none (role_called x (called_in a)) (first_use c (role_given c x) a) (none x f) in
          let lists = λ (x : Text) (f : Unused x). first_none (find_map (role_given c x) (judged_uses c a)) (find_map (role_given c x) (more_uses c a)) (parts x f).1 in
          or_from (any_use d (misuses d acts) a) _
          (or_from (list_any (misuses d acts) (judged_uses d a)) _ (ap (list_any (misuses d acts)) (judged h m n sizes a) ∙ uses_right (judged_uses c a) p.0 (λ x f. (lists x f).0))
          (ap (list_any (misuses d acts)) (more h m n sizes a) ∙ uses_right (more_uses c a) p.1 (λ x f. (lists x f).1)))
          (by (called_in a) k.1 (λ x f. (parts x f).0))
        where
          by : (o : Option Text) → is_some_and Miscalled o ≡ false → ((x : Text) → Unused x → role_called x o ≡ None) → is_some_and (miscalls d acts) o ≡ false
          by None f g = refl
          by (Some y) f g = called_alike y f (λ unused. sym (ap (λ b. if b then Some Subroutine else None) (itself y)) ∙ g y unused)

-- a class that no statement gives a name is given by none of them
pub none_in : {V : Type 0} (f : Act → Option V) (acts : List Act) → find_map f acts ≡ None → AllOf (λ a. f a ≡ None) acts
none_in f [] e = tt
none_in f (a ∷ rest) e = let k = first_none (f a) (find_map f rest) e in (k.0, none_in f rest k.1)
