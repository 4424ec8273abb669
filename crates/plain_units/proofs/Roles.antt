-- In a unit of plain statements each name stands in one class alone.
use Rattle.std.proofs.Common.{◌≡◌, ℕ, Bool, true, false, not, List, Option, None, Some, inl, inr, refl, sym, ap, ◌∙◌, subst, if◌then◌else◌}
use Rattle.std.specs.Prelude.{is_some}
use Rattle.std.specs.List.{list_any, slice_get}
use Rattle.std.specs.Option.{option_or}
use Rattle.std.specs.Str.{bytes_eq}
use Rattle.std.proofs.lemmas.Bool.{or_from, true≢false}
use Rattle.ground.specs.declared.value.Kind.{Kind}
use Rattle.rule_table.specs.Words.{find_map, is_some_and}
use Rattle.f66_tree.specs.Syntax.{Text, Act, Line, Routine}
use Rattle.f66_tree.specs.Units.{Context}
use Rattle.f66_names.specs.declared.name_form.Manner.{Manner}
use Rattle.f66_names.specs.declared.name_form.Manner.TheVariants.{Alone, With, Stored}
use Rattle.f66_names.specs.Declaring.{type_given}
use Rattle.f66_names.specs.Sorts.{name_form, is_array_form}
use Rattle.f66_names.specs.Uses.{Usage}
use Rattle.f66_soundness.specs.SoundUnits.{acts_in_unit}
use Rattle.f66_check.specs.CheckRules.{context_of}
use Rattle.unit_rules.specs.declared.roles.Role.{Role}
use Rattle.unit_rules.specs.declared.roles.Role.TheVariants.{Variable, Function, Subroutine}
use Rattle.unit_rules.specs.Called.{called_in}
use Rattle.unit_rules.specs.Judged.{judged_uses}
use Rattle.unit_rules.specs.Listed.{more_uses, first_use}
use Rattle.unit_rules.specs.Roles.{role_by, role_used, role_given, role_called, role_in, role_held, role_of, same_role, has_other_role, misuses, miscalls, mixes_roles}
use Rattle.plain_units.specs.Known.{IsVariable, AreKnown}
use Rattle.plain_units.specs.Units.{IsPlainUnit}
use Rattle.plain_units.proofs.Found.{Only, either_only, either_gives, find_only, find_gives, find_none, map_get, get_map, none_passes}
use Rattle.plain_units.proofs.Uses.{same_text, itself, MayStand, AreRight, IsCall, right_at, IsRight, intrinsic_form, no_intrinsic, not_called, line_right}

same_itself : (r : Role) → same_role r r ≡ true
same_itself Variable = refl
same_itself Function = refl
same_itself Subroutine = refl

-- the class of a name that stands so
abbrev class_of : Manner → Role
class_of Alone = Variable
class_of (With n) = Function
class_of (Stored n) = Subroutine

none_only : (r : Role) (o : Option Role) → o ≡ None → Only r o
none_only r o e = subst (Only r) (sym e) tt

variable_only : (o : Option Role) → IsVariable o → Only Variable o
variable_only None h = tt
variable_only (Some r) h = h

-- a value that is given where a test passes
if_only : (r : Role) (b : Bool) (o : Option Role) → (b ≡ true → Only r o) → Only r (if b then o else None)
if_only r true o h = h refl
if_only r false o h = tt

module _ (V F : Text → Kind → Type 0) (S : Text → Type 0) (c : Context) (known : AreKnown V F S c) where
  -- ---- one name ----

  used_as : (x : Text) (m : Manner) → MayStand V F S x m → role_by (name_form c x) m ≡ Some (class_of m)
  used_as x Alone h = ap (λ f. role_by f Alone) (known.variables x h.0 h.1).0.form
  used_as x (With n) (inl h) = ap (λ f. role_by f (With n)) (known.functions x h.0 h.1).0.form
  used_as x (With n) (inr h) = ap (λ f. role_by f (With n)) (ap (name_form c) h.1 ∙ intrinsic_form V F S c known h.0)
  used_as x (Stored n) h = absurd h

  held_as : (x : Text) (m : Manner) → MayStand V F S x m → Only (class_of m) (role_held c.header x)
  held_as x Alone h = variable_only (role_held c.header x) (known.variables x h.0 h.1).1
  held_as x (With n) (inl h) = none_only Function (role_held c.header x) (known.functions x h.0 h.1).1
  held_as x (With n) (inr h) = none_only Function (role_held c.header x) (ap (role_held c.header) h.1 ∙ (known.intrinsics h.0).held)
  held_as x (Stored n) h = absurd h

  -- no variable is a function
  apart : (x y : Text) (n : ℕ) → MayStand V F S x Alone → MayStand V F S y (With n) → x ≡ y → ⊥
  apart x y n h (inl k) e = true≢false (sym (itself x) ∙ ap (bytes_eq x) e ∙ known.no_function x y h.0 k.0 h.1 k.1)
  apart x y n h (inr k) e = no_intrinsic V F S c known x k.0 (known.variables x h.0 h.1).0.form (e ∙ k.1)

  alike : (x y : Text) (m n : Manner) → MayStand V F S x m → MayStand V F S y n → x ≡ y → class_of n ≡ class_of m
  alike x y Alone Alone h k e = refl
  alike x y Alone (With j) h k e = absurd (apart x y j h k e)
  alike x y (With i) Alone h k e = absurd (apart y x i k h (sym e))
  alike x y (With i) (With j) h k e = refl
  alike x y (Stored i) n h k e = absurd h
  alike x y Alone (Stored j) h k e = absurd k
  alike x y (With i) (Stored j) h k e = absurd k

  -- ---- a name that is used in a class alone ----

  -- the statements of a unit use and call the name q in the class r alone
  record InClass (q : Text) (r : Role) : Type 0 where
    uses : (y : Text) (n : Manner) → MayStand V F S y n → q ≡ y → class_of n ≡ r
    calls : (y : Text) → S y → q ≡ y → Subroutine ≡ r

  module _ (q : Text) (r : Role) (in_class : InClass q r) where
    given_only : (u : Usage) → MayStand V F S u.name u.manner → Only r (role_given c q u)
    given_only u h = if_only r (bytes_eq q u.name) (role_used c u) (λ e. subst (Only r) (sym (used_as u.name u.manner h)) (in_class.uses u.name u.manner h (same_text q u.name e)))

    uses_only : (us : List Usage) → AreRight V F S us → Only r (find_map (role_given c q) us)
    uses_only us h = find_only r (role_given c q) us (λ i u e. given_only u (right_at V F S us h i u e))

    called_only : (o : Option Text) → IsCall V F S o → Only r (role_called q o)
    called_only None h = tt
    called_only (Some x) h = if_only r (bytes_eq q x) (Some Subroutine) (λ e. in_class.calls x h (same_text q x e))

    act_only : (a : Act) → IsRight V F S c a → Only r (role_in c q a)
    act_only a h =
        either_only r (role_called q (called_in a)) (first_use c (role_given c q) a) (called_only (called_in a) h.calls)
        (either_only r (find_map (role_given c q) (judged_uses c a)) (find_map (role_given c q) (more_uses c a)) (uses_only (judged_uses c a) h.judged) (uses_only (more_uses c a) h.more))

    module _ (acts : List Act) (right : (i : ℕ) (a : Act) → slice_get acts i ≡ Some a → IsRight V F S c a) (held : Only r (role_held c.header q)) where
      -- so that is its class
      role_is : (i : ℕ) (a : Act) → slice_get acts i ≡ Some a → role_in c q a ≡ Some r → role_of c acts q ≡ Some r
      role_is i a e is = either_gives r (role_held c.header q) (find_map (role_in c q) acts) held (find_gives r (role_in c q) acts (λ j b g. act_only b (right j b g)) i a e is)

  -- ---- the names of a statement ----

  module _ (acts : List Act) (right : (i : ℕ) (a : Act) → slice_get acts i ≡ Some a → IsRight V F S c a) (i : ℕ) (a : Act) (e : slice_get acts i ≡ Some a) where
    use_in_class : (x : Text) (m : Manner) → MayStand V F S x m → InClass x (class_of m)
    use_in_class x m h = record {
      uses = λ y n k same. alike x y m n h k same;
      calls = λ y s same. absurd (true≢false (sym (itself x) ∙ ap (bytes_eq x) same ∙ not_called V F S c known x y m h s));
    }

    given_itself : (u : Usage) → MayStand V F S u.name u.manner → role_given c u.name u ≡ Some (class_of u.manner)
    given_itself u h = ap (λ b. if b then role_used c u else None) (itself u.name) ∙ used_as u.name u.manner h

    fits : (u : Usage) → MayStand V F S u.name u.manner → role_in c u.name a ≡ Some (class_of u.manner) → misuses c acts u ≡ false
    fits u h is =
        ap (λ o. has_other_role o (role_of c acts u.name)) (used_as u.name u.manner h)
        ∙ ap (has_other_role (Some (class_of u.manner))) (role_is u.name (class_of u.manner) (use_in_class u.name u.manner h) acts right (held_as u.name u.manner h) i a e is)
        ∙ ap not (same_itself (class_of u.manner))

    judged_fit : list_any (misuses c acts) (judged_uses c a) ≡ false
    judged_fit = none_passes (misuses c acts) (judged_uses c a) (λ j u g.
        let h = right_at V F S (judged_uses c a) (right i a e).judged j u g in
        let r = class_of u.manner in
        let own = use_in_class u.name u.manner h in
        fits u h
        (either_gives r (role_called u.name (called_in a)) (first_use c (role_given c u.name) a) (called_only u.name r own (called_in a) (right i a e).calls)
        (ap (λ o. option_or o (find_map (role_given c u.name) (more_uses c a)))
        (find_gives r (role_given c u.name) (judged_uses c a) (λ k v w. given_only u.name r own v (right_at V F S (judged_uses c a) (right i a e).judged k v w)) j u g (given_itself u h)))))

    more_fit : list_any (misuses c acts) (more_uses c a) ≡ false
    more_fit = none_passes (misuses c acts) (more_uses c a) (λ j u g.
        let h = right_at V F S (more_uses c a) (right i a e).more j u g in
        let r = class_of u.manner in
        let own = use_in_class u.name u.manner h in
        fits u h
        (either_gives r (role_called u.name (called_in a)) (first_use c (role_given c u.name) a) (called_only u.name r own (called_in a) (right i a e).calls)
        (either_gives r (find_map (role_given c u.name) (judged_uses c a)) (find_map (role_given c u.name) (more_uses c a)) (uses_only u.name r own (judged_uses c a) (right i a e).judged)
        (find_gives r (role_given c u.name) (more_uses c a) (λ k v w. given_only u.name r own v (right_at V F S (more_uses c a) (right i a e).more k v w)) j u g (given_itself u h)))))

    call_in_class : (x : Text) → S x → InClass x Subroutine
    call_in_class x s = record {
      uses = λ y n k same. absurd (true≢false (sym (itself y) ∙ ap (bytes_eq y) (sym same) ∙ not_called V F S c known y x n k s));
      calls = λ y t same. refl;
    }

    call_fits : (x : Text) → S x → called_in a ≡ Some x → miscalls c acts x ≡ false
    call_fits x s is =
        let called : role_called x (called_in a) ≡ Some Subroutine = ap (role_called x) is ∙ ap (λ b. if b then Some Subroutine else None) (itself x) in
        let first : role_of c acts x ≡ Some Subroutine =
        role_is x Subroutine (call_in_class x s) acts right (none_only Subroutine (role_held c.header x) (known.called x s).held) i a e
        (ap (λ o. option_or o (first_use c (role_given c x) a)) called) in
        or_from _ _ (ap (has_other_role (Some Subroutine)) first)
        (or_from _ _ (ap is_some (find_none (type_given x) acts (λ j b g. (right j b g).untyped x s))) (ap is_array_form (known.called x s).form))

    calls_fit : (o : Option Text) → called_in a ≡ o → IsCall V F S o → is_some_and (miscalls c acts) o ≡ false
    calls_fit None is h = refl
    calls_fit (Some x) is h = call_fits x h is

    pub act_fits : mixes_roles c acts a ≡ false
    act_fits = or_from _ _ (or_from _ _ judged_fit more_fit) (calls_fit (called_in a) refl (right i a e).calls)

-- no statement uses a name in another class than its first one
pub roles_fit : (V F : Text → Kind → Type 0) (S : Text → Type 0) (u : Routine) → IsPlainUnit V F S u → (i : ℕ) (s : Line) → slice_get u.lines i ≡ Some s →
    mixes_roles (context_of u) (acts_in_unit u.lines) s.act ≡ false
roles_fit V F S u unit i s e =
    act_fits V F S (context_of u) unit.known (acts_in_unit u.lines)
    (λ j a g.
    let w = map_get (λ (t : Line). t.act) u.lines j a g in
    subst (IsRight V F S (context_of u)) w.2 (line_right V F S u unit (context_of u) unit.known j w.0 w.1))
    i s.act (get_map (λ (t : Line). t.act) u.lines i s e)
