-- The header of the unit of a procedure: which classes and types it gives to names.
use Rattle.std.proofs.Common.{◌≡◌, ℕ, Bool, true, false, true≢false, List, None, Some, refl, sym, ap, ◌∙◌, subst, if◌then◌else◌}
use Rattle.std.specs.List.{list_any}
use Rattle.std.specs.Option.{option_or}
use Rattle.std.specs.Str.{bytes_eq}
use Rattle.ground.specs.declared.value.Kind.{Kind}
use Rattle.ground.specs.declared.value.Kind.TheVariants.{Integer, Logical}
use Rattle.f66_tree.specs.Syntax.{Text, Header, MainUnit}
use Rattle.f66_tree.specs.Units.{dummies_of, by_letter, by_header}
use Rattle.unit_rules.specs.declared.roles.Role.{Role}
use Rattle.unit_rules.specs.declared.roles.Role.TheVariants.{Variable, Subroutine}
use Rattle.unit_rules.specs.Roles.{role_held}
use Rattle.plain_units.specs.Known.{IsVariable}
use Rattle.efl_types.specs.Signatures.{Result, Nothing, Gives, Unknown}
use Rattle.efl_lowered.specs.Naming.{Naming}
use Rattle.efl_lowered.specs.Lowering.{word_of, is_result, named_header}
use Rattle.efl_lowered.proofs.Lists.{same_text}

-- ---- answers ----

neither_role : (r : Role) (a b : Bool) → a ≡ false → b ≡ false → option_or (if a then Some r else None) (if b then Some Variable else None) ≡ None
neither_role r a b h k = ap (λ c. option_or (if c then Some r else None) (if b then Some Variable else None)) h ∙ ap (λ c. if c then Some Variable else None) k

not_first : (r : Role) (a b : Bool) → a ≡ false → IsVariable (option_or (if a then Some r else None) (if b then Some Variable else None))
not_first r true b h = absurd (true≢false h)
not_first r false true h = refl
not_first r false false h = tt

either_one : (a b : Bool) → IsVariable (option_or (if a then Some Variable else None) (if b then Some Variable else None))
either_one true b = refl
either_one false true = refl
either_one false false = tt

pub result_is : (k : Kind) (r : Result) → is_result k r ≡ true → r ≡ Gives k
result_is Integer (Gives Integer) h = refl
result_is Logical (Gives Logical) h = refl
result_is Integer (Gives Logical) h = absurd (true≢false (sym h))
result_is Logical (Gives Integer) h = absurd (true≢false (sym h))
result_is Integer Nothing h = absurd (true≢false (sym h))
result_is Logical Nothing h = absurd (true≢false (sym h))
result_is Integer Unknown h = absurd (true≢false (sym h))
result_is Logical Unknown h = absurd (true≢false (sym h))

module _ (names : Naming) (n : ℕ) where
  -- the header of a main, or of a procedure that gives this
  abbrev pub Head : Bool → Result → List Text → Header
  Head b r ds = if b then MainUnit else (named_header names n r ds)

  abbrev pub own : Text
  own = names.callee n

  -- ---- classes ----

  -- what is neither the unit's own name nor a dummy has no class
  pub unheld : (q : Text) (b : Bool) (r : Result) (ds : List Text) → (b ≡ false → bytes_eq q own ≡ false) → list_any (bytes_eq q) (dummies_of (Head b r ds)) ≡ false → role_held (Head b r ds) q ≡ None
  unheld q true r ds apart free = refl
  unheld q false (Gives k) ds apart free = neither_role Variable _ _ (apart refl) free
  unheld q false Nothing ds apart free = neither_role Subroutine _ _ (apart refl) free
  unheld q false Unknown ds apart free = neither_role Subroutine _ _ (apart refl) free

  -- what is not the unit's own name is no function and no subroutine
  pub held_variable : (q : Text) (b : Bool) (r : Result) (ds : List Text) → (b ≡ false → bytes_eq q own ≡ false) → IsVariable (role_held (Head b r ds) q)
  held_variable q true r ds apart = tt
  held_variable q false (Gives k) ds apart = either_one _ _
  held_variable q false Nothing ds apart = not_first Subroutine _ _ (apart refl)
  held_variable q false Unknown ds apart = not_first Subroutine _ _ (apart refl)

  -- nor is a function's own
  pub held_own : (b : Bool) (r : Result) (ds : List Text) (k : Kind) → is_result k r ≡ true → IsVariable (role_held (Head b r ds) own)
  held_own b r ds k h = subst (λ s. IsVariable (role_held (Head b s ds) own)) (sym (result_is k r h)) (by_main b)
    where
      by_main : (m : Bool) → IsVariable (role_held (Head m (Gives k) ds) own)
      by_main true = tt
      by_main false = either_one _ _

  -- ---- types ----

  pub own_type : (b : Bool) (r : Result) (ds : List Text) (k : Kind) → b ≡ false → is_result k r ≡ true → by_header own (Head b r ds) ≡ word_of k
  own_type b r ds k e h =
      ap (λ m. by_header own (Head m r ds)) e ∙ ap (λ s. by_header own (named_header names n s ds)) (result_is k r h) ∙ ap (λ m. if m then (word_of k) else (by_letter own)) (same_text own)

  pub other_type : (q : Text) (b : Bool) (r : Result) (ds : List Text) → (b ≡ false → bytes_eq q own ≡ false) → by_header q (Head b r ds) ≡ by_letter q
  other_type q true r ds apart = refl
  other_type q false (Gives k) ds apart = ap (λ m. if m then (word_of k) else (by_letter q)) (apart refl)
  other_type q false Nothing ds apart = refl
  other_type q false Unknown ds apart = refl
