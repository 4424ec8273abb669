-- What gather answers.
use Rattle.std.specs.Prelude.{◌≡◌, ◌++◌, ◌∷◌, [], ⊤, ℕ, List, Option, Result, Ok, Err}
use Rattle.ground.specs.declared.token.Dialect.{Dialect}
use Rattle.ground.specs.declared.token.Token.{Token}
use Rattle.ground.specs.declared.token.TokenKind.TheVariants.{TextEnd}
use Rattle.macro_define.specs.declared.whole_text.Gathered.{Gathered}
use Rattle.macro_define.specs.declared.refusal.TextRefusal.{TextRefusal}
use Rattle.macro_define.specs.declared.refusal.TextRefusal.TheVariants as refusals
use Rattle.macro_define.specs.Answers.{Known, IsOf}
use Rattle.macro_define.specs.Expansion.{Stop, GatherState, gathered}

-- The tokens and the files are those of the definition, or the fault is, and so are the names that were fetched; a failed
-- fetch and want of memory say nothing.
abbrev pub IsAnswer : Result GatherState Stop → List (List ℕ) → Result Gathered TextRefusal → Type 0
IsAnswer told names (Ok all) = (w : GatherState) × ((told ≡ Ok w) × (all.tokens.items ≡ w.made.tokens) × (all.files.items ≡ w.files) × (names ≡ w.answers.fetched))
IsAnswer told names (Err (refusals.Fault fault name)) = told ≡ Err (record { fault = fault; file = name; fetched = names })
IsAnswer told names (Err refusals.Library) = ⊤
IsAnswer told names (Err refusals.Memory) = ⊤

-- the last token is the end of the text
abbrev pub EndsText : List Token → Type 0
EndsText ts = (front : List Token) × (last : Token) × (ts ≡ front ++ last ∷ []) × (last.kind ≡ TextEnd)

-- The answer is that of the definition, by what the library tells, or where it tells nothing by what its fetches gave. F
-- holds of the names that were fetched.
pub record IsGathered (files : Option (List ℕ → Option (List ℕ))) (F : List (List ℕ) → Type 0) (d : Dialect) (name : List ℕ) (result : Result Gathered TextRefusal) : Type 0 where
  pub known : Known
  pub of : IsOf files known
  pub names : List (List ℕ)
  pub fetched : F names
  pub by : IsAnswer (gathered d name known) names result
