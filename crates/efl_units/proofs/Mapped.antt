-- Lists that are made one member after another.
use Rattle.std.proofs.Common.{◌≡◌, ◌<◌, ℕ, List, [], ◌∷◌, ◌++◌, length, get_or, map, Some, option_map, sym, ap, ◌∙◌, append_assoc}
use Rattle.std.specs.List.{slice_get}
use Rattle.std.proofs.lemmas.List.{append-nil}
use Rattle.std.proofs.lemmas.Option.{slice_get-map, slice_get-get_or}

-- one member more
pub mapped_more : {A B : Type 0} (f : A → B) (out more : List B) (x : A) (y : B) (here left : List A) → here ≡ x ∷ left → more ≡ out ++ y ∷ [] → y ≡ f x → more ++ map f left ≡ out ++ map f here
mapped_more f out more x y here left is longer same =
    ap (λ all. all ++ map f left) longer ∙ append_assoc out (y ∷ []) (map f left) ∙ ap (λ v. out ++ v ∷ map f left) same ∙ ap (λ all. out ++ map f all) (sym is)

-- none is left
pub mapped_over : {A B : Type 0} (f : A → B) (out : List B) (left : List A) → left ≡ [] → out ++ map f left ≡ out
mapped_over f out left is = ap (λ all. out ++ map f all) is ∙ append-nil out

-- a member of a list of what is made of each
pub mapped_at : {A B : Type 0} (f : A → B) (xs : List A) (i : ℕ) (x : A) → i < length xs → x ≡ get_or xs i x → slice_get (map f xs) i ≡ Some (f x)
mapped_at f xs i x lt is = slice_get-map f xs i ∙ ap (option_map f) (slice_get-get_or xs i x lt ∙ ap (λ y. Some y) (sym is))
