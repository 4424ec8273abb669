-- What names in memory mean by the definition.
use Rattle.std.proofs.Common.{◌≡◌, List, Bool, true, false, cond, Option, Some, None, refl, sym, ap, subst, ◌∙◌, if◌then◌else◌}
use Rattle.std.specs.Str.{bytes_eq}
use Rattle.std.specs.Option.{option_or}
use Rattle.std.specs.Map.{update}
use Rattle.std.proofs.lemmas.Slice.Eq.{bytes_eq-Decides}
use Rattle.efl_scope.proofs.TableLemmas.{bytes_eq-turned}
use Rattle.efl_tree.specs.Syntax.{Text}
use Rattle.efl_scope.specs.Scopes.{Meaning, IsVariable, IsStructure, meaning, members_if}
use Rattle.efl_scope.specs.Scopes as scopes
use Rattle.efl_scope.specs.DataTypes.{DataType, NoType}
use Rattle.efl_types.specs.Signatures.{Calls, type_by, applied_by}
use Rattle.efl_scoped.specs.Numbers.{Table}
use Rattle.efl_expressions.specs.declared.types.Structure.{Structure}
use Rattle.efl_expressions.specs.declared.names.Meaning as meanings
use Rattle.efl_expressions.specs.declared.names.Meaning.TheVariants as m
use Rattle.efl_expressions.specs.declared.types.DataType as types
use Rattle.efl_expressions.specs.declared.names.Blocks.{Blocks}
use Rattle.efl_expressions.specs.NameViews.{meaning_in, IsMeaning, IsMeaningIfAny, Know}

pub none_known : (f : Table) (ss : List Structure) (bs : scopes.Blocks) (blocks : Blocks) (x : Text) → Know f ss bs blocks → None ≡ meaning_in blocks x → meaning bs x ≡ None
none_known f ss bs blocks x known none = each (meaning bs x) (subst (IsMeaningIfAny f ss (meaning bs x)) (sym none) (known x))
  where
    each : (o : Option Meaning) → IsMeaningIfAny f ss o None → o ≡ None
    each None is = refl
    each (Some m) is = absurd is

pub record IsKnown (f : Table) (ss : List Structure) (o : Option Meaning) (d : meanings.Meaning) : Type 0 where
  pub meaning : Meaning
  pub is : o ≡ Some meaning
  pub made : IsMeaning f ss meaning d

pub some_known : (f : Table) (ss : List Structure) (bs : scopes.Blocks) (blocks : Blocks) (x : Text) (d : meanings.Meaning) → Know f ss bs blocks → Some d ≡ meaning_in blocks x →
    IsKnown f ss (meaning bs x) d
some_known f ss bs blocks x d known some = each (meaning bs x) (subst (IsMeaningIfAny f ss (meaning bs x)) (sym some) (known x))
  where
    each : (o : Option Meaning) → IsMeaningIfAny f ss o (Some d) → IsKnown f ss o d
    each None is = absurd is
    each (Some m) is = record { meaning = m; is = refl; made = is }

pub no_members : (f : Table) (ss : List Structure) (n : Meaning) (e : meanings.Meaning) (d : types.DataType) → IsMeaning f ss n e → e ≡ m.Variable d → members_if (Some n) ≡ None
no_members f ss (IsVariable v) e d made is = refl
no_members f ss (IsStructure ms) e d made is = absurd (subst (IsMeaning f ss (IsStructure ms)) is made)

pub no_variable : (f : Table) (ss : List Structure) (n : Meaning) (e : meanings.Meaning) (d : types.DataType) (t : DataType) → IsMeaning f ss n e → e ≡ m.Structure d → type_by t (Some n) ≡ NoType
no_variable f ss (IsVariable v) e d t made is = absurd (subst (IsMeaning f ss (IsVariable v)) is made)
no_variable f ss (IsStructure ms) e d t made is = refl

pub no_places : (f : Table) (ss : List Structure) (n : Meaning) (e : meanings.Meaning) (d : types.DataType) → IsMeaning f ss n e → e ≡ m.Structure d → applied_by (Some n) ≡ Calls NoType
no_places f ss (IsVariable v) e d made is = absurd (subst (IsMeaning f ss (IsVariable v)) is made)
no_places f ss (IsStructure ms) e d made is = refl

-- a name comes that was not there
pub comes : {X : Type 0} (old new : Text → Option X) (y : Text) (v : X) → None ≡ old y → ((q : Text) → new q ≡ update bytes_eq old y (Some v) q) →
    (q : Text) → new q ≡ option_or (old q) (if bytes_eq q y then Some v else None)
comes {X = X} old new y v none is q = is q ∙ each (bytes_eq y q) (old q) absent ∙ ap (λ b. option_or (old q) (if b then Some v else None)) (bytes_eq-turned y q)
  where
    absent : bytes_eq y q ≡ true → old q ≡ None
    absent same = ap old ((bytes_eq-Decides q y).0 (sym (bytes_eq-turned y q) ∙ same)) ∙ sym none

    or_none : (o : Option X) → option_or o None ≡ o
    or_none None = refl
    or_none (Some x) = refl

    each : (b : Bool) (o : Option X) → (b ≡ true → o ≡ None) → cond b (Some v) o ≡ option_or o (if b then Some v else None)
    each true o missing = sym (ap (λ p. option_or p (Some v)) (missing refl))
    each false o missing = sym (or_none o)
