-- Type statements of names, one behind the last: what they say of each name.
use Rattle.std.proofs.Common.{◌≡◌, ℕ, zero, suc, ◌+◌, ◌≤◌, Bool, true, false, List, [], ◌∷◌, ◌++◌, map, length, take, drop, None, refl, sym, ap, ◌∙◌, arith, if◌then◌else◌, ◌||◌}
use Rattle.std.specs.List.{list_any}
use Rattle.std.specs.Str.{bytes_eq}
use Rattle.std.proofs.lemmas.List.{take-append-drop, length-drop}
use Rattle.std.proofs.lemmas.List.Folds.{list_any-append}
use Rattle.ground.specs.declared.place.Place.{Place}
use Rattle.f66_tree.specs.declared.declaration.TypeWord.{TypeWord}
use Rattle.f66_tree.specs.Syntax.{Text, Par, Typed, Line}
use Rattle.f66_tree.specs.Units.{Context, Note, notes_of, sizes_in, sizes_of, lists, type_in}
use Rattle.f66_program.specs.Mentions.{Mention, mentions_of_sizes, mentioned, declares}
use Rattle.f66_program.specs.Association.{Filled, line_ties}
use Rattle.f66_program.specs.Initial.{line_presets}
use Rattle.routes.specs.PlacedUnit.{AreDeclarations}
use Rattle.efl_lowered.specs.Lowering.{on_a_card, declared_scalar, typed_lines}

-- ---- one statement ----

lists_any : (q : Text) (xs : List Text) → lists q (map declared_scalar xs) ≡ list_any (bytes_eq q) xs
lists_any q [] = refl
lists_any q (x ∷ xs) = ap (λ b. bytes_eq q x || b) (lists_any q xs)

declared_any : (q : Text) (xs : List Text) → list_any (λ d. bytes_eq q d.name) (map declared_scalar xs) ≡ list_any (bytes_eq q) xs
declared_any q [] = refl
declared_any q (x ∷ xs) = ap (λ b. bytes_eq q x || b) (declared_any q xs)

no_sizes : (q : Text) (xs : List Text) (others : List Par) → sizes_in q (map declared_scalar xs) others ≡ others
no_sizes q [] others = refl
no_sizes q (x ∷ xs) others = either (bytes_eq q x) (no_sizes q xs others)
  where
    either : (b : Bool) → sizes_in q (map declared_scalar xs) others ≡ others → (if b then (sizes_in q (map declared_scalar xs) others) else (sizes_in q (map declared_scalar xs) others)) ≡ others
    either true h = h
    either false h = h

no_mentions : (xs : List Text) → mentions_of_sizes (map declared_scalar xs) ≡ []
no_mentions [] = refl
no_mentions (x ∷ xs) = no_mentions xs

-- a name is among the first so many or among the others
any_split : (f : Text → Bool) (n : ℕ) (xs : List Text) → (list_any f (take n xs) || list_any f (drop n xs)) ≡ list_any f xs
any_split f n xs = sym (list_any-append f (take n xs) (drop n xs)) ∙ ap (list_any f) (take-append-drop n xs)

shorter : (most : ℕ) (x : Text) (xs : List Text) → length (x ∷ xs) ≤ suc most → length (drop on_a_card (x ∷ xs)) ≤ most
shorter most x xs le = let e : length (drop 8 (x ∷ xs)) + 0 ≡ length (drop 8 (x ∷ xs)) = omega arith in omega (arith, le, length-drop 8 (x ∷ xs))

-- ---- all of them ----

module _ (p : Place) (t : TypeWord) where
  abbrev Lines : ℕ → List Text → List Line
  Lines most xs = typed_lines most p t xs

  pub typed_declared : (most : ℕ) (xs : List Text) → AreDeclarations (Lines most xs)
  typed_declared zero xs = tt
  typed_declared (suc most) [] = tt
  typed_declared (suc most) (x ∷ xs) = (refl, refl, typed_declared most (drop on_a_card (x ∷ xs)))

  -- each of the names is declared
  pub typed_declares : (q : Text) (most : ℕ) (xs : List Text) → length xs ≤ most → list_any (λ s. declares q s.act) (Lines most xs) ≡ list_any (bytes_eq q) xs
  typed_declares q zero [] le = refl
  typed_declares q zero (x ∷ xs) le = absurd (omega (le, arith))
  typed_declares q (suc most) [] le = refl
  typed_declares q (suc most) (x ∷ xs) le =
      let ys = drop on_a_card (x ∷ xs) in
      ap (λ b. b || list_any (λ s. declares q s.act) (Lines most ys)) (declared_any q (take on_a_card (x ∷ xs)))
      ∙ ap (λ b. list_any (bytes_eq q) (take on_a_card (x ∷ xs)) || b) (typed_declares q most ys (shorter most x xs le))
      ∙ any_split (bytes_eq q) on_a_card (x ∷ xs)

  -- the first statement that has a name gives its type
  pub typed_type : (q : Text) (most : ℕ) (xs : List Text) (rest : List Note) (last : TypeWord) → length xs ≤ most →
      type_in q (notes_of (Lines most xs) ++ rest) last ≡ (if (list_any (bytes_eq q) xs) then t else (type_in q rest last))
  typed_type q zero [] rest last le = refl
  typed_type q zero (x ∷ xs) rest last le = absurd (omega (le, arith))
  typed_type q (suc most) [] rest last le = refl
  typed_type q (suc most) (x ∷ xs) rest last le =
      let ys = drop on_a_card (x ∷ xs) in
      ap (λ b. if b then t else (type_in q (notes_of (Lines most ys) ++ rest) last)) (lists_any q (take on_a_card (x ∷ xs)))
      ∙ ap (λ w. if (list_any (bytes_eq q) (take on_a_card (x ∷ xs))) then t else w) (typed_type q most ys rest last (shorter most x xs le))
      ∙ either (list_any (bytes_eq q) (take on_a_card (x ∷ xs))) (list_any (bytes_eq q) ys)
      ∙ ap (λ b. if b then t else (type_in q rest last)) (any_split (bytes_eq q) on_a_card (x ∷ xs))
    where
      either : (a b : Bool) → (if a then t else (if b then t else (type_in q rest last))) ≡ (if (a || b) then t else (type_in q rest last))
      either true b = refl
      either false b = refl

  pub typed_notes : (most : ℕ) (xs : List Text) (rest : List Line) → notes_of (Lines most xs ++ rest) ≡ notes_of (Lines most xs) ++ notes_of rest
  typed_notes zero xs rest = refl
  typed_notes (suc most) [] rest = refl
  typed_notes (suc most) (x ∷ xs) rest = ap (λ ns. record { label = None; act = Typed t (map declared_scalar (take on_a_card (x ∷ xs))) } ∷ ns) (typed_notes most (drop on_a_card (x ∷ xs)) rest)

  pub typed_sizes : (q : Text) (most : ℕ) (xs : List Text) (rest : List Note) → sizes_of q (notes_of (Lines most xs) ++ rest) ≡ sizes_of q rest
  typed_sizes q zero xs rest = refl
  typed_sizes q (suc most) [] rest = refl
  typed_sizes q (suc most) (x ∷ xs) rest =
      no_sizes q (take on_a_card (x ∷ xs)) (sizes_of q (notes_of (Lines most (drop on_a_card (x ∷ xs))) ++ rest)) ∙ typed_sizes q most (drop on_a_card (x ∷ xs)) rest

  -- they name nothing besides
  pub typed_mentions : (test : Mention → Bool) (c : Context) (most : ℕ) (xs : List Text) (rest : List Line) → mentioned test c (Lines most xs ++ rest) ≡ mentioned test c rest
  typed_mentions test c zero xs rest = refl
  typed_mentions test c (suc most) [] rest = refl
  typed_mentions test c (suc most) (x ∷ xs) rest =
      ap (λ ms. list_any test ms || mentioned test c (Lines most (drop on_a_card (x ∷ xs)) ++ rest)) (no_mentions (take on_a_card (x ∷ xs))) ∙ typed_mentions test c most (drop on_a_card (x ∷ xs)) rest

  -- they associate no places, and fill none
  pub typed_ties : (u : ℕ) (c : Context) (f : Filled) (most : ℕ) (xs : List Text) (rest : List Line) → line_ties u c f (Lines most xs ++ rest) ≡ line_ties u c f rest
  typed_ties u c f zero xs rest = refl
  typed_ties u c f (suc most) [] rest = refl
  typed_ties u c f (suc most) (x ∷ xs) rest = typed_ties u c f most (drop on_a_card (x ∷ xs)) rest

  pub typed_fills : (u i : ℕ) (c : Context) (most : ℕ) (xs : List Text) (rest : List Line) → ((j : ℕ) → line_presets u j c rest ≡ []) → line_presets u i c (Lines most xs ++ rest) ≡ []
  typed_fills u i c zero xs rest h = h i
  typed_fills u i c (suc most) [] rest h = h i
  typed_fills u i c (suc most) (x ∷ xs) rest h = typed_fills u (suc i) c most (drop on_a_card (x ∷ xs)) rest h
