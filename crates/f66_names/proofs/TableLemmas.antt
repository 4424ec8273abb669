-- Tables of a unit's names against what f66_tree says of them.
use Rattle.std.proofs.Common.{◌≡◌, ℕ, List, [], ◌∷◌, ◌++◌, Option, Some, None, map, take, length, get_or, ◌<◌, ◌+◌, refl, ap, sym, ◌∙◌, arith, append_assoc}
use Rattle.std.specs.List.{flat_map}
use Rattle.std.specs.Option.{option_or}
use Rattle.std.proofs.lemmas.List.{append-nil, take_more, map-append}
use Rattle.rule_table.specs.Words.{find_map}

pub find_map-append : {X V : Type 0} (f : X → Option V) (xs ys : List X) → find_map f (xs ++ ys) ≡ option_or (find_map f xs) (find_map f ys)
find_map-append f [] ys = grind arith
find_map-append f (x ∷ xs) ys = grind (arith, find_map-append f xs ys)

flat_map-push : {X Y : Type 0} (g : X → List Y) (xs : List X) (y : X) → flat_map g (xs ++ y ∷ []) ≡ flat_map g xs ++ g y
flat_map-push g [] y = append-nil (g y)
flat_map-push g (x ∷ xs) y = ap (λ zs. g x ++ zs) (flat_map-push g xs y) ∙ sym (append_assoc (g x) (flat_map g xs) (g y))

-- one more area
pub found_more : {A X Y V : Type 0} (f : Y → Option V) (g : X → List Y) (h : A → X) (xs : List A) (i : ℕ) (x : A) → i < length xs → x ≡ get_or xs i x →
    find_map f (flat_map g (map h (take (i + 1) xs))) ≡ option_or (find_map f (flat_map g (map h (take i xs)))) (find_map f (g (h x)))
found_more f g h xs i x below is =
    ap (λ ys. find_map f (flat_map g (map h ys))) (take_more xs i x below ∙ ap (λ y. take i xs ++ y ∷ []) (sym is))
    ∙ ap (λ ys. find_map f (flat_map g ys)) (map-append h (take i xs) (x ∷ []))
    ∙ ap (find_map f) (flat_map-push g (map h (take i xs)) (h x))
    ∙ find_map-append f (flat_map g (map h (take i xs))) (g (h x))

pub option_or-assoc : {V : Type 0} (a b d : Option V) → option_or (option_or a b) d ≡ option_or a (option_or b d)
option_or-assoc None b d = refl
option_or-assoc (Some v) b d = refl

-- a table with more values, where those that came before count first
pub noted_more : {V : Type 0} (new mid old f g h : Option V) → new ≡ option_or mid g → mid ≡ option_or old f → h ≡ option_or f g → new ≡ option_or old h
noted_more new mid old f g h last before whole = last ∙ ap (λ o. option_or o g) before ∙ option_or-assoc old f g ∙ ap (option_or old) (sym whole)
