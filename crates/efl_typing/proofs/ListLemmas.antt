-- A list is made item by item.
use Rattle.std.proofs.Common.{◌≡◌, Bool, false, List, [], ◌∷◌, ◌++◌, map, refl, sym, ap, ◌∙◌, append_assoc}
use Rattle.std.specs.List.{list_any}
use Rattle.std.proofs.lemmas.List.{append-nil}
use Rattle.efl_typing.proofs.BuiltLemmas.{or_left, or_right}

-- What is seen of the items so far, and what will be told of those that are left, is what is told of all, where no item fails a test.
pub record ItemsLeft {X T Y : Type 0} (fails : X → Bool) (seen : T → Y) (told : X → Y) (all rest : List X) (made : List T) : Type 0 where
  pub clean : list_any fails all ≡ false → list_any fails rest ≡ false
  pub so : list_any fails all ≡ false → (more : List T) → map seen more ≡ map told rest → map seen (made ++ more) ≡ map told all

pub items_begun : {X T Y : Type 0} (fails : X → Bool) (seen : T → Y) (told : X → Y) (all : List X) → ItemsLeft fails seen told all all []
items_begun fails seen told all = record { clean = λ h. h; so = λ h more e. e }

-- one item more
pub item_passed : {X T Y : Type 0} (fails : X → Bool) (seen : T → Y) (told : X → Y) (all rest : List X) (made : List T) (x : X) (t : T) →
    ItemsLeft fails seen told all (x ∷ rest) made → (fails x ≡ false → seen t ≡ told x) → ItemsLeft fails seen told all rest (made ++ t ∷ [])
item_passed fails seen told all rest made x t left is = record {
  clean = λ h. or_right (fails x) (list_any fails rest) (left.clean h);
  so = λ h more e.
      ap (map seen) (append_assoc made (t ∷ []) more)
      ∙ left.so h (t ∷ more) (ap (λ y. y ∷ map seen more) (is (or_left (fails x) (list_any fails rest) (left.clean h))) ∙ ap (λ ys. told x ∷ ys) e);
}

pub items_ended : {X T Y : Type 0} (fails : X → Bool) (seen : T → Y) (told : X → Y) (all : List X) (made : List T) → ItemsLeft fails seen told all [] made →
    list_any fails all ≡ false → map seen made ≡ map told all
items_ended fails seen told all made left h = ap (map seen) (sym (append-nil made)) ∙ left.so h [] refl
