-- What is added to the statements of a unit, and the labels that are made for it.
use Rattle.std.specs.Prelude.{◌≡◌, ℕ, ◌+◌, List, [], ◌∷◌, ◌++◌}
use Rattle.f66_tree.specs.Syntax.{Line}
use Rattle.routes.specs.Routes.{Routes}
use Rattle.routes.specs.Code.{Behind, all_labels, all_code}

-- the statements so far, and how many labels were made
pub record Emission : Type 0 where
  pub lines : List Line
  pub made : ℕ

-- one statement was added
pub record Puts (a : Line) (before after : Emission) : Type 0 where
  pub lines : after.lines ≡ before.lines ++ a ∷ []
  pub made : after.made ≡ before.made

-- a label was made
pub record Makes (label_at : ℕ → ℕ) (l : ℕ) (before after : Emission) : Type 0 where
  pub label : l ≡ label_at before.made
  pub made : after.made ≡ before.made + 1
  pub lines : after.lines ≡ before.lines

-- The statements of the routes that f puts before others were added, and their labels made, within rings with these labels
-- behind them: whatever comes next, the statements before, with those of all routes, are the statements after, with those of the
-- routes that are left.
pub record EmittedIn (made : ℕ → ℕ) (f : Routes → Routes) (ls : Behind) (before after : Emission) : Type 0 where
  pub labels : (rest : Routes) → before.made + all_labels (f rest) ≡ after.made + all_labels rest
  pub lines : (rest : Routes) (next : List Line) → before.lines ++ all_code made (f rest) before.made ls next ≡ after.lines ++ all_code made rest after.made ls next

-- the same within whatever rings
pub record Emitted (made : ℕ → ℕ) (f : Routes → Routes) (before after : Emission) : Type 0 where
  pub within : (ls : Behind) → EmittedIn made f ls before after
