-- The labels of the lines of routes: those of the source, and those that are made. What holds of these holds of each line's label.
use Rattle.std.proofs.Common.{◌≡◌, ℕ, ◌+◌, ◌≤◌, ◌<◌, List, ◌∷◌, None, Some, refl, ap, subst, arith}
use Rattle.std.specs.List.{All}
use Rattle.std.proofs.lemmas.List.Elements.{All-cons}
use Rattle.std.proofs.lemmas.Option.{none-some, same_Some}
use Rattle.ground.specs.declared.place.Place.{Place}
use Rattle.f66_tree.specs.Syntax.{Act, Format, Line, unlabelled_line, labelled_line}
use Rattle.routes.specs.Routes.{Route, Plain, BreakIf, Break, Ring, Cycle, Block, InTurn, Labelled, Transfer, Routes, NoRoute, AndRoute}
use Rattle.routes.specs.Code.{Behind, jump, here, labels, all_labels, code_of, all_code}
use Rattle.routes.specs.Numbered.{bit, given, all_given}
use Rattle.routes.proofs.Distinct.{same_number}

module _ (Q : ℕ → Type 0) where
  -- what holds of a line's label, where it has one
  abbrev pub OfLabel : Line → Type 0
  OfLabel s = (l : ℕ) → s.label ≡ Some l → Q l

  pub of_none : (s : Line) → s.label ≡ None → OfLabel s
  of_none s h l e = absurd (none-some l (subst (λ o. o ≡ Some l) h e))

  unlabelled : (p : Place) (a : Act) (lines : List Line) → All OfLabel lines → All OfLabel (unlabelled_line p a ∷ lines)
  unlabelled p a lines h = All-cons OfLabel (unlabelled_line p a) lines (of_none (unlabelled_line p a) refl) h

  labelled : (m : ℕ) (p : Place) (a : Act) (lines : List Line) → Q m → All OfLabel lines → All OfLabel (labelled_line m p a ∷ lines)
  labelled m p a lines q h = All-cons OfLabel (labelled_line m p a) lines (λ l e. subst Q (same_Some m l e) q) h

  module _ (made : ℕ → ℕ) where
    -- the labels of the source, and so many that are made from n on
    abbrev Given : (ℕ → ℕ) → Type 0
    Given count = (l : ℕ) → 1 ≤ count l → Q l

    abbrev Made : ℕ → ℕ → Type 0
    Made n k = (i : ℕ) → n ≤ i → i < n + k → Q (made i)

    mutual
      route_labels : (r : Route) (n : ℕ) (ls : Behind) (next : List Line) → Given (λ l. given l r) → Made n (labels r) → All OfLabel next → All OfLabel (code_of made r n ls next)
      route_labels (Plain p a) n ls next g m h = unlabelled p a next h
      route_labels (BreakIf p e k) n ls next g m h = unlabelled p _ next h
      route_labels (Break p k) n ls next g m h = unlabelled p _ next h
      route_labels (Ring p rs) n ls next g m h =
          routes_labels rs (n + 1) (made n ∷ ls) (here (made n) p ∷ next) g (λ i le lt. m i (omega (arith, le)) (omega (arith, lt))) (labelled (made n) p _ next (m n (omega arith) (omega arith)) h)
      route_labels (Cycle p top rest) n ls next g m h =
          let out = jump p (made n) ∷ here (made (n + 1)) p ∷ next in
          let second = all_code made rest (n + 2 + all_labels top) (made (n + 1) ∷ ls) out in
          labelled (made n) p _ (all_code made top (n + 2) (made (n + 1) ∷ ls) second) (m n (omega arith) (omega arith))
          (routes_labels top (n + 2) (made (n + 1) ∷ ls) second (λ l le. g l (omega (arith, le))) (λ i le lt. m i (omega (arith, le)) (omega (arith, lt)))
          (routes_labels rest (n + 2 + all_labels top) (made (n + 1) ∷ ls) out (λ l le. g l (omega (arith, le))) (λ i le lt. m i (omega (arith, le)) (omega (arith, lt)))
          (unlabelled p _ (here (made (n + 1)) p ∷ next) (labelled (made (n + 1)) p _ next (m (n + 1) (omega arith) (omega arith)) h))))
      route_labels (Block rs) n ls next g m h = routes_labels rs n ls next g m h
      route_labels (InTurn rs) n ls next g m h = routes_labels rs n ls next g m h
      route_labels (Labelled q p r) n ls next g m h =
          labelled q p _ (code_of made r n ls next) (g q (omega (arith, ap bit (same_number q)))) (route_labels r n ls next (λ l le. g l (omega (arith, le))) m h)
      route_labels (Transfer p way u fs es) n ls next g m h =
          unlabelled p _ (labelled_line (made n) p (Format fs) ∷ next) (labelled (made n) p (Format fs) next (m n (omega arith) (omega arith)) h)

      pub routes_labels : (rs : Routes) (n : ℕ) (ls : Behind) (next : List Line) → Given (λ l. all_given l rs) → Made n (all_labels rs) → All OfLabel next → All OfLabel (all_code made rs n ls next)
      routes_labels NoRoute n ls next g m h = h
      routes_labels (AndRoute r rs) n ls next g m h =
          route_labels r n ls (all_code made rs (n + labels r) ls next) (λ l le. g l (omega (arith, le))) (λ i le lt. m i le (omega (arith, lt)))
          (routes_labels rs (n + labels r) ls next (λ l le. g l (omega (arith, le))) (λ i le lt. m i (omega (arith, le)) (omega (arith, lt))) h)
