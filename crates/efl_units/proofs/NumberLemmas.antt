-- The numbers that labels get one after another are those of their first places.
use Rattle.std.proofs.Common.{◌≡◌, ℕ, ◌+◌, Bool, true, false, cond, List, [], ◌∷◌, length, Option, None, Some, option_map, refl, ap, ◌∙◌, arith}
use Rattle.std.specs.Prelude.{unwrap_or, if◌then◌else◌}
use Rattle.std.specs.Option.{option_or}
use Rattle.std.specs.Str.{bytes_eq}
use Rattle.rule_table.specs.Words.{first_place}
use Rattle.f66_tree.specs.Syntax.{Text}
use Rattle.efl_units.specs.Numbered.{Numbered, none_numbered, adding, adding_all}
use Rattle.efl_units.specs.Numbers.{label_in}

pub count_all : (ls : List Text) (s : Numbered) → (adding_all ls s).count ≡ s.count + length ls
count_all [] s = omega arith
count_all (l ∷ ls) s = let e = count_all ls (adding l s) in omega (arith, e)

placed : (k : ℕ) (o : Option ℕ) → option_map (λ i. k + 1 + i + 1) o ≡ option_map (λ i. k + i + 1) (option_map (λ i. i + 1) o)
placed k None = refl
placed k (Some i) = let e : k + 1 + i + 1 ≡ k + (i + 1) + 1 = omega arith in ap (λ n. Some n) e

or_both : (o : Option ℕ) (b : Bool) (k : ℕ) (q : Option ℕ) →
    option_or (option_or o (if b then Some (k + 1) else None)) (option_map (λ i. k + 1 + i + 1) q) ≡ option_or o (option_map (λ i. k + i + 1) (cond b (Some 0) (option_map (λ i. i + 1) q)))
or_both (Some n) b k q = refl
or_both None true k q = let e : k + 1 ≡ k + 0 + 1 = omega arith in ap (λ n. Some n) e
or_both None false k q = placed k q

number_all : (ls : List Text) (s : Numbered) (x : Text) → (adding_all ls s).number x ≡ option_or (s.number x) (option_map (λ i. s.count + i + 1) (first_place (bytes_eq x) ls))
number_all [] s x = each (s.number x)
  where
    each : (o : Option ℕ) → o ≡ option_or o None
    each None = refl
    each (Some n) = refl
number_all (l ∷ ls) s x = number_all ls (adding l s) x ∙ or_both (s.number x) (bytes_eq x l) s.count (first_place (bytes_eq x) ls)

pub label_is : (ls : List Text) (x : Text) → unwrap_or ((adding_all ls none_numbered).number x) 0 ≡ label_in ls x
label_is ls x = ap (λ o. unwrap_or o 0) (number_all ls none_numbered x) ∙ each (first_place (bytes_eq x) ls)
  where
    each : (o : Option ℕ) → unwrap_or (option_map (λ i. 0 + i + 1) o) 0 ≡ unwrap_or (option_map (λ i. i + 1) o) 0
    each None = refl
    each (Some i) = omega arith
