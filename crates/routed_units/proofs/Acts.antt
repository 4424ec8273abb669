-- What each line of routes says, and that the lines of routes stand before what comes next.
use Rattle.std.proofs.Common.{◌≡◌, ℕ, ◌+◌, List, ◌∷◌, ◌++◌, refl, ap, ◌∙◌}
use Rattle.std.specs.List.{All}
use Rattle.std.proofs.lemmas.List.Elements.{All-cons}
use Rattle.f66_tree.specs.Syntax.{Act, Goto, Continue, Format, Line, labelled_line}
use Rattle.routes.specs.Routes.{Route, Plain, BreakIf, Break, Ring, Cycle, Block, InTurn, Labelled, Transfer, Routes, NoRoute, AndRoute}
use Rattle.routes.specs.Code.{Behind, label_behind, jump, here, labels, all_labels, code_of, all_code}
use Rattle.routed_units.specs.Routed.{RouteActs, AllActs}

module _ (made : ℕ → ℕ) where
  module _ (P : Act → Type 0) (goes : (l : ℕ) → P (Goto l)) (goes_on : P Continue) where
    abbrev Lines : List Line → Type 0
    Lines lines = All (λ s. P s.act) lines

    before : (s : Line) (lines : List Line) → P s.act → Lines lines → Lines (s ∷ lines)
    before s lines h rest = All-cons (λ t. P t.act) s lines h rest

    mutual
      route_acts : (r : Route) (n : ℕ) (ls : Behind) (next : List Line) → RouteActs P r → Lines next → Lines (code_of made r n ls next)
      route_acts (Plain p a) n ls next h rest = before _ next h rest
      route_acts (BreakIf p e k) n ls next h rest = before _ next (h (label_behind ls k)) rest
      route_acts (Break p k) n ls next h rest = before _ next (goes (label_behind ls k)) rest
      route_acts (Ring p rs) n ls next h rest = all_acts rs (n + 1) (made n ∷ ls) (here (made n) p ∷ next) h (before _ next goes_on rest)
      route_acts (Cycle p top rest) n ls next h after =
          let out = jump p (made n) ∷ here (made (n + 1)) p ∷ next in
          let second = all_code made rest (n + 2 + all_labels top) (made (n + 1) ∷ ls) out in
          before _ (all_code made top (n + 2) (made (n + 1) ∷ ls) second) goes_on
          (all_acts top (n + 2) (made (n + 1) ∷ ls) second h.0
          (all_acts rest (n + 2 + all_labels top) (made (n + 1) ∷ ls) out h.1 (before _ (here (made (n + 1)) p ∷ next) (goes (made n)) (before _ next goes_on after))))
      route_acts (Block rs) n ls next h rest = all_acts rs n ls next h rest
      route_acts (InTurn rs) n ls next h rest = all_acts rs n ls next h rest
      route_acts (Labelled m p r) n ls next h rest = before _ (code_of made r n ls next) goes_on (route_acts r n ls next h rest)
      route_acts (Transfer p way u fs es) n ls next h rest = before _ (labelled_line (made n) p (Format fs) ∷ next) (h.0 (made n)) (before (labelled_line (made n) p (Format fs)) next h.1 rest)

      pub all_acts : (rs : Routes) (n : ℕ) (ls : Behind) (next : List Line) → AllActs P rs → Lines next → Lines (all_code made rs n ls next)
      all_acts NoRoute n ls next h rest = rest
      all_acts (AndRoute r rs) n ls next h rest = route_acts r n ls (all_code made rs (n + labels r) ls next) h.0 (all_acts rs (n + labels r) ls next h.1 rest)

  -- the lines of routes, and then others
  mutual
    route_before : (r : Route) (n : ℕ) (ls : Behind) (a b : List Line) → code_of made r n ls (a ++ b) ≡ code_of made r n ls a ++ b
    route_before (Plain p a) n ls c b = refl
    route_before (BreakIf p e k) n ls a b = refl
    route_before (Break p k) n ls a b = refl
    route_before (Ring p rs) n ls a b = all_before rs (n + 1) (made n ∷ ls) (here (made n) p ∷ a) b
    route_before (Cycle p top rest) n ls a b =
        let out = jump p (made n) ∷ here (made (n + 1)) p ∷ a in
        ap (λ c. here (made n) p ∷ c)
        (ap (all_code made top (n + 2) (made (n + 1) ∷ ls)) (all_before rest (n + 2 + all_labels top) (made (n + 1) ∷ ls) out b)
        ∙ all_before top (n + 2) (made (n + 1) ∷ ls) (all_code made rest (n + 2 + all_labels top) (made (n + 1) ∷ ls) out) b)
    route_before (Block rs) n ls a b = all_before rs n ls a b
    route_before (InTurn rs) n ls a b = all_before rs n ls a b
    route_before (Labelled m p r) n ls a b = ap (λ c. here m p ∷ c) (route_before r n ls a b)
    route_before (Transfer p way u fs es) n ls a b = refl

    pub all_before : (rs : Routes) (n : ℕ) (ls : Behind) (a b : List Line) → all_code made rs n ls (a ++ b) ≡ all_code made rs n ls a ++ b
    all_before NoRoute n ls a b = refl
    all_before (AndRoute r rs) n ls a b =
        ap (code_of made r n ls) (all_before rs (n + labels r) ls a b) ∙ route_before r n ls (all_code made rs (n + labels r) ls a) b
