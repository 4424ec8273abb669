-- What a definition knows of a library, and what it has fetched.
use Rattle.std.specs.Prelude.{◌≡◌, ℕ, List, [], ◌∷◌, ◌++◌, Option, Some, None}

-- the text under each name, or what fetches give one after the other
pub data Known : Type 0 where
  Holds : (List ℕ → Option (List ℕ)) → Known
  InTurn : List (Option (List ℕ)) → Known

-- what is known, and the names that were fetched so far, in order
pub record Answers : Type 0 where
  pub known : Known
  pub fetched : List (List ℕ)

abbrev pub knows : Known → List (List ℕ) → Answers
knows known fetched = record { known = known; fetched = fetched }

-- what a fetch of this name gives
abbrev pub answer : Known → List ℕ → Option (List ℕ)
answer (Holds held) name = held name
answer (InTurn []) name = None
answer (InTurn (got ∷ more)) name = got

-- what is known after a fetch
abbrev pub later : Known → Known
later (Holds held) = Holds held
later (InTurn []) = InTurn []
later (InTurn (got ∷ more)) = InTurn more

-- after a fetch of this name
abbrev pub after_fetch : List ℕ → Answers → Answers
after_fetch name answers = knows (later answers.known) (answers.fetched ++ name ∷ [])

-- A library that tells what it holds answers by that.
abbrev pub IsOf : Option (List ℕ → Option (List ℕ)) → Known → Type 0
IsOf (Some held) known = known ≡ Holds held
IsOf None known = (got : List (Option (List ℕ))) × (known ≡ InTurn got)

-- A fact of what is known before some fetches, of whose names F holds, and after them: by what the library tells, or by
-- what the fetches gave, whatever was fetched before and whatever later ones give.
abbrev pub Through : Option (List ℕ → Option (List ℕ)) → (List (List ℕ) → Type 0) → (Answers → Answers → Type 0) → Type 0
Through (Some held) F P = (names : List (List ℕ)) × (F names × ((past : List (List ℕ)) → P (knows (Holds held) past) (knows (Holds held) (past ++ names))))
Through None F P = (names : List (List ℕ)) × (F names × ((got : List (Option (List ℕ))) × ((more : List (Option (List ℕ))) (past : List (List ℕ)) → P (knows (InTurn (got ++ more)) past) (knows (InTurn more) (past ++ names)))))
