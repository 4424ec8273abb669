-- Lists in memory, and the lists that are read into them.
use Rattle.std.proofs.Common.{◌≡◌, List, [], ◌∷◌, ◌++◌, map, ap, sym, ◌∙◌}

-- A list that began with one item, with what is read behind it.
pub behind_first : {A B : Type 0} (view : B → A) (x : B) {none first : List B} {tail all : List A}
    → none ≡ [] → first ≡ none ++ x ∷ [] → map view first ++ tail ≡ all → view x ∷ tail ≡ all
behind_first view x {tail = tail} empty one is = sym (ap (λ xs. map view xs ++ tail) (one ∙ ap (λ xs. xs ++ x ∷ []) empty)) ∙ is

-- A list that began with two items.
pub behind_two : {A B : Type 0} (view : B → A) (x y : B) {none first second : List B} {tail all : List A}
    → none ≡ [] → first ≡ none ++ x ∷ [] → second ≡ first ++ y ∷ [] → map view second ++ tail ≡ all → view x ∷ view y ∷ tail ≡ all
behind_two view x y {tail = tail} empty one two is =
    sym (ap (λ xs. map view xs ++ tail) (two ∙ ap (λ xs. xs ++ y ∷ []) (one ∙ ap (λ xs. xs ++ x ∷ []) empty))) ∙ is

-- A list that began with one item, as it stands in memory.
pub behind_own : {A : Type 0} (x : A) {none first tail all : List A} → none ≡ [] → first ≡ none ++ x ∷ [] → first ++ tail ≡ all → x ∷ tail ≡ all
behind_own x {tail = tail} empty one is = sym (ap (λ xs. xs ++ tail) (one ∙ ap (λ xs. xs ++ x ∷ []) empty)) ∙ is
