-- The header of a procedure that has a name.
use Rattle.std.proofs.Common.{◌≡◌, ℕ, List, [], ◌∷◌, true, false, true≢false, ◌==◌, length, Option, None, Some, refl, sym, ap}
use Rattle.std.specs.Prelude.{is_none, is_some}
use Rattle.std.proofs.lemmas.Option.{none-some, same_Some}
use Rattle.ground.specs.declared.value.Kind.{Kind}
use Rattle.ground.specs.declared.value.Kind.TheVariants.{Integer}
use Rattle.f66_tree.specs.Syntax.{Text, SubUnit, FuncUnit}
use Rattle.efl_types.specs.Signatures.{Result, Nothing, Gives, Unknown}
use Rattle.efl_lowered.specs.Naming.{Naming}
use Rattle.efl_lowered.specs.Lowering.{word_of, or_spare, named_header}
use Rattle.efl_units.specs.Results.{kind_given}

-- a list with a dummy stays as it is
pub kept_dummies : (x : Text) (list : List Text) → (length list == 0) ≡ false → list ≡ or_spare x list
kept_dummies x [] e = absurd (true≢false e)
kept_dummies x (y ∷ ys) e = refl

module _ (names : Naming) (n : ℕ) (list : List Text) where
  pub named_sub : (r : Result) → kind_given r ≡ None → SubUnit (names.callee n) list ≡ named_header names n r list
  named_sub Nothing e = refl
  named_sub Unknown e = refl
  named_sub (Gives k) e = absurd (none-some k (sym e))

  pub named_func : (r : Result) (k : Kind) → kind_given r ≡ Some k → FuncUnit (Some (word_of k)) (names.callee n) (or_spare (names.temp Integer (names.room n)) list) ≡ named_header names n r list
  named_func Nothing k e = absurd (none-some k e)
  named_func Unknown k e = absurd (none-some k e)
  named_func (Gives j) k e = ap (λ t. FuncUnit (Some (word_of t)) (names.callee n) (or_spare (names.temp Integer (names.room n)) list)) (sym (same_Some j k e))

pub named_is : {A : Type 0} (o : Option A) → is_some o ≡ true → false ≡ is_none o
named_is None e = absurd (true≢false (sym e))
named_is (Some x) e = refl
