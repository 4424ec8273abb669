-- Lists of names and of what is said of them, of which one more stands behind the others.
use Rattle.std.proofs.Common.{◌≡◌, ◌+◌, ◌<◌, ◌++◌, ℕ, true, false, Option, List, [], ◌∷◌, length, map, take, get_or, refl, ap, sym, ◌∙◌}
use Rattle.std.specs.Option.{option_or}
use Rattle.std.proofs.lemmas.List.{take_more, map-append}
use Rattle.std.specs.List.{list_any}
use Rattle.std.specs.Str.{bytes_eq}
use Rattle.rule_table.specs.Words.{find_map, repeats}
use Rattle.rule_table.proofs.WordLemmas as words
use Rattle.f66_names.proofs.TableLemmas.{option_or-assoc}

itself : (xs : List (List ℕ)) → map (λ x. x) xs ≡ xs
itself [] = refl
itself (x ∷ xs) = ap (λ ys. x ∷ ys) (itself xs)

-- a name that stands before
pub repeated : (xs : List (List ℕ)) (i : ℕ) (x : List ℕ) → i < length xs → x ≡ get_or xs i x → list_any (bytes_eq x) (take i xs) ≡ true → repeats xs ≡ true
repeated xs i x h is e = ap repeats (sym (itself xs)) ∙ words.repeated (λ y. y) xs i x h is (ap (list_any (bytes_eq x)) (itself (take i xs)) ∙ e)

-- and one that does not
pub not_repeated : (xs : List (List ℕ)) (i : ℕ) (x : List ℕ) → i < length xs → x ≡ get_or xs i x → repeats (take i xs) ≡ false → list_any (bytes_eq x) (take i xs) ≡ false → repeats (take (i + 1) xs) ≡ false
not_repeated xs i x h is old new =
    ap repeats (sym (itself (take (i + 1) xs))) ∙ words.not_repeated (λ y. y) xs i x h is (ap repeats (itself (take i xs)) ∙ old) (ap (list_any (bytes_eq x)) (itself (take i xs)) ∙ new)

-- what one statement more says of a name, behind what a header and those before say
pub found_behind : {X A V : Type 0} (held : Option V) (f : A → Option V) (h : X → A) (xs : List X) (i : ℕ) (x : X) → i < length xs → x ≡ get_or xs i x →
    option_or held (find_map f (map h (take (i + 1) xs))) ≡ option_or (option_or held (find_map f (map h (take i xs)))) (f (h x))
found_behind held f h xs i x below is =
    ap (λ ys. option_or held (find_map f (map h ys))) (take_more xs i x below ∙ ap (λ y. take i xs ++ y ∷ []) (sym is))
    ∙ ap (λ ys. option_or held (find_map f ys)) (map-append h (take i xs) (x ∷ []))
    ∙ ap (option_or held) (words.find_map-push f (map h (take i xs)) (h x))
    ∙ sym (option_or-assoc held (find_map f (map h (take i xs))) (f (h x)))
