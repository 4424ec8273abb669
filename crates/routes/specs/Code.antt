-- The statements of FORTRAN that routes become, before those that come next.
use Rattle.std.specs.Prelude.{ℕ, zero, suc, ◌+◌, List, [], ◌∷◌}
use Rattle.ground.specs.declared.place.Place.{Place}
use Rattle.f66_tree.specs.declared.editing.Way.{Way}
use Rattle.f66_tree.specs.declared.editing.Way.TheVariants.{Reading, Writing}
use Rattle.f66_tree.specs.Syntax.{Par, Entries, Act, Goto, When, Continue, Read, Write, Format, Line, unlabelled_line, labelled_line}
use Rattle.routes.specs.Routes.{Route, Plain, BreakIf, Break, Ring, Cycle, Block, InTurn, Labelled, Transfer, Routes, NoRoute, AndRoute}

-- the labels behind the rings around a statement, from the inside out
abbrev pub Behind : Type 0
Behind = List ℕ

abbrev pub label_behind : Behind → ℕ → ℕ
label_behind [] k = 0
label_behind (l ∷ ls) zero = l
label_behind (l ∷ ls) (suc k) = label_behind ls k

abbrev pub jump : Place → ℕ → Line
jump p l = unlabelled_line p (Goto l)

abbrev pub here : ℕ → Place → Line
here l p = labelled_line l p Continue

abbrev pub transfer : Way → Par → ℕ → Entries → Act
transfer Reading u l es = Read u l es
transfer Writing u l es = Write u l es

-- how many labels are made for a route
abbrev mutual
  pub labels : Route → ℕ
  labels (Plain p a) = 0
  labels (BreakIf p e k) = 0
  labels (Break p k) = 0
  labels (Ring p rs) = all_labels rs + 1
  labels (Cycle p top rest) = all_labels top + all_labels rest + 2
  labels (Block rs) = all_labels rs
  labels (InTurn rs) = all_labels rs
  labels (Labelled l p r) = labels r
  labels (Transfer p way u fs es) = 1

  pub all_labels : Routes → ℕ
  all_labels NoRoute = 0
  all_labels (AndRoute r rs) = labels r + all_labels rs

-- where made n is the n-th of the labels that are made
module _ (made : ℕ → ℕ) where
  abbrev mutual
    pub code_of : Route → ℕ → Behind → List Line → List Line
    code_of (Plain p a) n ls next = unlabelled_line p a ∷ next
    code_of (BreakIf p e k) n ls next = unlabelled_line p (When e (Goto (label_behind ls k))) ∷ next
    code_of (Break p k) n ls next = jump p (label_behind ls k) ∷ next
    code_of (Ring p rs) n ls next = all_code rs (n + 1) (made n ∷ ls) (here (made n) p ∷ next)
    code_of (Cycle p top rest) n ls next =
        here (made n) p ∷ all_code top (n + 2) (made (n + 1) ∷ ls) (all_code rest (n + 2 + all_labels top) (made (n + 1) ∷ ls) (jump p (made n) ∷ here (made (n + 1)) p ∷ next))
    code_of (Block rs) n ls next = all_code rs n ls next
    code_of (InTurn rs) n ls next = all_code rs n ls next
    code_of (Labelled l p r) n ls next = here l p ∷ code_of r n ls next
    code_of (Transfer p way u fs es) n ls next = unlabelled_line p (transfer way u (made n) es) ∷ labelled_line (made n) p (Format fs) ∷ next

    pub all_code : Routes → ℕ → Behind → List Line → List Line
    all_code NoRoute n ls next = next
    all_code (AndRoute r rs) n ls next = code_of r n ls (all_code rs (n + labels r) ls next)
