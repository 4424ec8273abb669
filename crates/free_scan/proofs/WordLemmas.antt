-- The word that makes a line an include line stands among its characters.
use Rattle.std.proofs.Common.{◌≡◌, ℕ, Bool, true, false, ◌&&◌, List, cond, get_or, refl, sym, ◌∙◌, ap, subst, Some, None}
use Rattle.std.specs.Prelude.{All, Option, codes, slice_get, ◌==◌}
use Rattle.std.proofs.lemmas.Option.{slice_get_within, slice_get-get_or}
use Rattle.free_scan.specs.declared.lines.Character.{Character}
use Rattle.free_scan.specs.IncludeNames.{both, include_word}
use Rattle.free_scan.specs.Lexemes.{word_size}
use Rattle.free_scan.specs.Spellings.{is_spelled}

some_is : {A : Type 0} (x y : A) → Some x ≡ Some y → x ≡ y
some_is x y e = cc

All-slice_get : (P : Character → Type 0) (cs : List Character) (i : ℕ) (c : Character) → All P cs → slice_get cs i ≡ Some c → P c
All-slice_get P cs i c all e =
    let h = slice_get_within cs i c e in
    subst P (some_is (get_or cs i c) c (sym (slice_get-get_or cs i c h) ∙ e)) (all i c h)

ends_within : (P : Character → Type 0) (cs : List Character) (x y : Option Character) (first last : Character) → All P cs → slice_get cs 0 ≡ x → slice_get cs 6 ≡ y
    → both x y ≡ Some (first, last) → P first × P last
ends_within P cs (Some a) (Some b) first last all e f g =
    let same : Some (a, b) ≡ Some (first, last) = g in
    let pair : (a, b) ≡ (first, last) = some_is (a, b) (first, last) same in
    (subst P (ap (λ (p : Character × Character). p.0) pair) (All-slice_get P cs 0 a all e), subst P (ap (λ (p : Character × Character). p.1) pair) (All-slice_get P cs 6 b all f))
ends_within P cs (Some a) None first last all e f g = absurd cc
ends_within P cs None y first last all e f g = absurd cc

word_within : (P : Character → Type 0) (cs : List Character) (is_word : Bool) (first last : Character) → All P cs
    → cond is_word (both (slice_get cs 0) (slice_get cs 6)) None ≡ Some (first, last) → P first × P last
word_within P cs true first last all e = ends_within P cs (slice_get cs 0) (slice_get cs 6) first last all refl refl e
word_within P cs false first last all e = absurd cc

-- what holds of each character holds of the word's ends
pub include_word-within : (P : Character → Type 0) (cs : List Character) (continues : Bool) (first last : Character) → All P cs
    → Some (first, last) ≡ cond continues None (include_word cs) → P first × P last
include_word-within P cs true first last all e = absurd cc
include_word-within P cs false first last all e = word_within P cs (is_spelled (codes "include") cs && word_size cs == 7) first last all (sym e)
