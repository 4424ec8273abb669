-- A source takes pieces that are not empty; with one more behind them they are so too.
use Rattle.std.proofs.Common.{◌≡◌, ℕ, Bool, true, ◌&&◌, List, [], ◌∷◌, ◌++◌, length, nat_lt, ◌∙◌, ap₂}
use Rattle.std.specs.Prelude.{Vec}
use Rattle.std.specs.declared.alloc.Global.{Global}
use Rattle.std.proofs.lemmas.List.Folds.{list_all-append}
use Rattle.ports.specs.Left.{all_full}

pub full_more : (pieces : List (Vec ℕ Global)) (piece : Vec ℕ Global) → all_full pieces ≡ true → nat_lt 0 (length piece.items) ≡ true → all_full (pieces ++ piece ∷ []) ≡ true
full_more pieces piece all one = list_all-append (λ v. nat_lt 0 (length v.items)) pieces (piece ∷ []) ∙ ap₂ (λ y z. y && (z && true)) all one
