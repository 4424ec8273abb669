-- Where the statements of routes stand in a unit: each label leads to its place, and each format is that of its label.
use Rattle.std.specs.Prelude.{◌≡◌, ℕ, ◌+◌, List, ◌∷◌, Some, ⊤}
use Rattle.f66_tree.specs.Syntax.{Act, Assign, Goto, Computed, Sign, Invoke, Continue, Stop, Return, Line}
use Rattle.f66_tree.specs.Units.{format_of, Note}
use Rattle.f66_tree.specs.Execution.{from_label}
use Rattle.routes.specs.Routes.{Route, Plain, BreakIf, Break, Ring, Cycle, Block, InTurn, Labelled, Transfer, Routes, NoRoute, AndRoute}
use Rattle.routes.specs.Code.{Behind, jump, here, labels, all_labels, code_of, all_code}

-- an act that a route may be: it is executed, and is no DO and no logical IF
abbrev pub IsPlain : Act → Type 0
IsPlain (Assign x e) = ⊤
IsPlain (Goto m) = ⊤
IsPlain (Computed ms x) = ⊤
IsPlain (Sign e n m k) = ⊤
IsPlain (Invoke x es) = ⊤
IsPlain Continue = ⊤
IsPlain (Stop n) = ⊤
IsPlain Return = ⊤
IsPlain _ = ⊥

module _ (made : ℕ → ℕ) (notes : List Note) (code : List Line) where
  abbrev mutual
    pub Placed : Route → ℕ → Behind → List Line → Type 0
    Placed (Plain p a) n ls next = IsPlain a
    Placed (BreakIf p e k) n ls next = ⊤
    Placed (Break p k) n ls next = ⊤
    Placed (Ring p rs) n ls next = (from_label (made n) code ≡ here (made n) p ∷ next) × AllPlaced rs (n + 1) (made n ∷ ls) (here (made n) p ∷ next)
    Placed (Cycle p top rest) n ls next =
        (from_label (made n) code ≡ code_of made (Cycle p top rest) n ls next) × (from_label (made (n + 1)) code ≡ here (made (n + 1)) p ∷ next)
        × AllPlaced top (n + 2) (made (n + 1) ∷ ls) (all_code made rest (n + 2 + all_labels top) (made (n + 1) ∷ ls) (jump p (made n) ∷ here (made (n + 1)) p ∷ next))
        × AllPlaced rest (n + 2 + all_labels top) (made (n + 1) ∷ ls) (jump p (made n) ∷ here (made (n + 1)) p ∷ next)
    Placed (Block rs) n ls next = AllPlaced rs n ls next
    Placed (InTurn rs) n ls next = AllPlaced rs n ls next
    Placed (Labelled m p r) n ls next = (from_label m code ≡ here m p ∷ code_of made r n ls next) × Placed r n ls next
    Placed (Transfer p way u fs es) n ls next = format_of (made n) notes ≡ Some fs

    pub AllPlaced : Routes → ℕ → Behind → List Line → Type 0
    AllPlaced NoRoute n ls next = ⊤
    AllPlaced (AndRoute r rs) n ls next = Placed r n ls (all_code made rs (n + labels r) ls next) × AllPlaced rs (n + labels r) ls next
