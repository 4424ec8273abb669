-- Names that come into tables in memory.
use Rattle.std.proofs.Common.{◌≡◌, Bool, true, false, cond, not, ◌&&◌, ◌||◌, Option, Some, is_some, unwrap_or, sym, refl, ap, ◌∙◌}
use Rattle.std.specs.Map.{update}
use Rattle.std.specs.Str.{bytes_eq}
use Rattle.std.proofs.lemmas.Slice.Eq.{bytes_eq-Decides}
use Rattle.efl_tree.specs.Syntax.{Text}
use Rattle.efl_scope.specs.ScopeRules.{Names}
use Rattle.efl_scope.specs.Sights.{with_name, without_name, knowing_if}
use Rattle.efl_scope.proofs.NameLemmas.{same_names}

-- one table is another with a value under one name
abbrev pub IsNoted : {V : Type 0} → (Text → Option V) → (Text → Option V) → Text → V → Type 0
IsNoted f g x v = (q : Text) → g q ≡ update bytes_eq f x (Some v) q

same_either_way : (x y : Text) (b c : Bool) → bytes_eq x y ≡ b → bytes_eq y x ≡ c → b ≡ c
same_either_way x y true true left right = refl
same_either_way x y true false left right = sym ((bytes_eq-Decides y x).1 (sym ((bytes_eq-Decides x y).0 left))) ∙ right
same_either_way x y false true left right = sym left ∙ (bytes_eq-Decides x y).1 (sym ((bytes_eq-Decides y x).0 right))
same_either_way x y false false left right = refl

pub bytes_eq-turned : (x y : Text) → bytes_eq x y ≡ bytes_eq y x
bytes_eq-turned x y = same_either_way x y (bytes_eq x y) (bytes_eq y x) refl refl

module _ {V : Type 0} (f g : Text → Option V) (x : Text) (v : V) (is : IsNoted f g x v) where
  pub name_added : (λ y. is_some (g y)) ≡ with_name x (λ y. is_some (f y))
  name_added = same_names (λ y. is_some (g y)) (with_name x (λ y. is_some (f y))) each
    where
      by : (b : Bool) (o : Option V) → is_some (cond b (Some v) o) ≡ (b || is_some o)
      by true o = refl
      by false o = refl

      each : (y : Text) → is_some (g y) ≡ (bytes_eq y x || is_some (f y))
      each y = ap is_some (is y) ∙ by (bytes_eq x y) (f y) ∙ ap (λ b. b || is_some (f y)) (bytes_eq-turned x y)

module _ (f g : Text → Option Bool) (x : Text) (known : Names) where
  pub structure_added : IsNoted f g x true → (λ y. unwrap_or (g y) (known y)) ≡ with_name x (λ y. unwrap_or (f y) (known y))
  structure_added is = same_names (λ y. unwrap_or (g y) (known y)) (with_name x (λ y. unwrap_or (f y) (known y))) each
    where
      by : (b k : Bool) (o : Option Bool) → unwrap_or (cond b (Some true) o) k ≡ (b || unwrap_or o k)
      by true k o = refl
      by false k o = refl

      each : (y : Text) → unwrap_or (g y) (known y) ≡ (bytes_eq y x || unwrap_or (f y) (known y))
      each y = ap (λ o. unwrap_or o (known y)) (is y) ∙ by (bytes_eq x y) (known y) (f y) ∙ ap (λ b. b || unwrap_or (f y) (known y)) (bytes_eq-turned x y)

  pub variable_added : IsNoted f g x false → (λ y. unwrap_or (g y) (known y)) ≡ without_name x (λ y. unwrap_or (f y) (known y))
  variable_added is = same_names (λ y. unwrap_or (g y) (known y)) (without_name x (λ y. unwrap_or (f y) (known y))) each
    where
      by : (b k : Bool) (o : Option Bool) → unwrap_or (cond b (Some false) o) k ≡ (not b && unwrap_or o k)
      by true k o = refl
      by false k o = refl

      each : (y : Text) → unwrap_or (g y) (known y) ≡ (not (bytes_eq y x) && unwrap_or (f y) (known y))
      each y = ap (λ o. unwrap_or o (known y)) (is y) ∙ by (bytes_eq x y) (known y) (f y) ∙ ap (λ b. not b && unwrap_or (f y) (known y)) (bytes_eq-turned x y)

-- a structure becomes known where it has a name and names are kept
pub known_named : (kept : Bool) (o : Option Text) (x y : Text) → kept ≡ true → o ≡ Some x → y ≡ x → (ns : Names) → with_name y ns ≡ knowing_if kept o ns
known_named kept o x y on is at ns = ap (λ z. with_name z ns) at ∙ sym (ap (λ b. knowing_if b o ns) on ∙ ap (λ p. knowing_if true p ns) is)
