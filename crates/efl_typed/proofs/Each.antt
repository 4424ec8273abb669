-- A fact of each element of a list.
use Rattle.std.proofs.Common.{List, [], ◌∷◌, ◌++◌, map, Option, Some, None}
use Rattle.std.specs.Prelude.{⊤, filter_map, flat_map}
use Rattle.std.specs.List.{cons_option}

abbrev pub Each : {X : Type 0} → (X → Type 0) → List X → Type 0
Each P [] = ⊤
Each P (x ∷ xs) = P x × Each P xs

pub each_right : {X : Type 0} (P : X → Type 0) (xs ys : List X) → Each P (xs ++ ys) → Each P ys
each_right P [] ys h = h
each_right P (x ∷ xs) ys h = each_right P xs ys h.1

pub each_left : {X : Type 0} (P : X → Type 0) (xs ys : List X) → Each P (xs ++ ys) → Each P xs
each_left P [] ys h = tt
each_left P (x ∷ xs) ys h = (h.0, each_left P xs ys h.1)

pub each_map : {X Y : Type 0} (P : Y → Type 0) (f : X → Y) (xs : List X) → Each P (map f xs) → Each (λ x. P (f x)) xs
each_map P f [] h = tt
each_map P f (x ∷ xs) h = (h.0, each_map P f xs h.1)

pub each_flat : {X Y : Type 0} (P : Y → Type 0) (f : X → List Y) (xs : List X) → Each P (flat_map f xs) → Each (λ x. Each P (f x)) xs
each_flat P f [] h = tt
each_flat P f (x ∷ xs) h = (each_left P (f x) (flat_map f xs) h, each_flat P f xs (each_right P (f x) (flat_map f xs) h))

-- of the value, if there is one
abbrev pub OfAny : {X : Type 0} → (X → Type 0) → Option X → Type 0
OfAny P None = ⊤
OfAny P (Some x) = P x

consed : {Y : Type 0} (P : Y → Type 0) (o : Option Y) (ys : List Y) → Each P (cons_option o ys) → OfAny P o × Each P ys
consed P None ys h = (tt, h)
consed P (Some y) ys h = (h.0, h.1)

pub each_filtered : {X Y : Type 0} (P : Y → Type 0) (f : X → Option Y) (xs : List X) → Each P (filter_map f xs) → Each (λ x. OfAny P (f x)) xs
each_filtered P f [] h = tt
each_filtered P f (x ∷ xs) h = let s = consed P (f x) (filter_map f xs) h in (s.0, each_filtered P f xs s.1)
