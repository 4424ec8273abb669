-- The labels of a unit whose lines are declarations and those of routes are as they have to be.
use Rattle.std.proofs.Common.{ℕ, ◌≤◌, ◌<◌, Bool, true, false, List, [], ◌∷◌, ◌++◌, None, refl, arith}
use Rattle.std.specs.List.{All}
use Rattle.std.proofs.lemmas.List.Elements.{All-nil, All-cons, All-append, All-contains}
use Rattle.ground.specs.declared.place.Place.{Place}
use Rattle.f66_tree.specs.Syntax.{Stop, Return, Line, unlabelled_line}
use Rattle.f66_flow.specs.Acts.{branches, formats_named}
use Rattle.routes.specs.Routes.{Routes}
use Rattle.routes.specs.Code.{here, all_labels, all_code}
use Rattle.routes.specs.Units.{ending}
use Rattle.routes.specs.Numbered.{all_given, IsNumbered}
use Rattle.routes.specs.PlacedUnit.{AreDeclarations}
use Rattle.routes.proofs.Distinct.{distinct}
use Rattle.routes.proofs.Placing.{ending_unlabelled}
use Rattle.plain_units.specs.Labels.{HasLabels}
use Rattle.plain_units.proofs.Found.{item_of}
use Rattle.routed_units.specs.Routed.{Leads}
use Rattle.routed_units.proofs.Standing.{behind_others, one_place, all_stand}
use Rattle.routed_units.proofs.Ranges.{OfLabel, of_none, routes_labels}
use Rattle.routed_units.proofs.Leading.{Goes, HasFormat, Names, no_names, note_names, routes_names}

abbrev pub IsLabel : ℕ → Type 0
IsLabel l = (1 ≤ l) × (l ≤ 99999)

heads_labels : (heads : List Line) → AreDeclarations heads → All (OfLabel IsLabel) heads
heads_labels [] is = All-nil (OfLabel IsLabel)
heads_labels (s ∷ heads) is = All-cons (OfLabel IsLabel) s heads (of_none IsLabel s is.0) (heads_labels heads is.2)

end_labels : (main : Bool) (p : Place) → All (OfLabel IsLabel) (ending main p)
end_labels true p = All-cons (OfLabel IsLabel) (unlabelled_line p (Stop None)) [] (of_none IsLabel (unlabelled_line p (Stop None)) refl) (All-nil (OfLabel IsLabel))
end_labels false p = All-cons (OfLabel IsLabel) (unlabelled_line p Return) [] (of_none IsLabel (unlabelled_line p Return) refl) (All-nil (OfLabel IsLabel))

heads_names : (lines heads : List Line) → AreDeclarations heads → All (λ s. Names lines s.act) heads
heads_names lines [] is = All-nil (λ s. Names lines s.act)
heads_names lines (s ∷ heads) is = All-cons (λ t. Names lines t.act) s heads (note_names lines s.act is.1) (heads_names lines heads is.2)

end_names : (lines : List Line) (main : Bool) (p : Place) → All (λ s. Names lines s.act) (ending main p)
end_names lines true p = All-cons (λ t. Names lines t.act) (unlabelled_line p (Stop None)) [] (no_names lines) (All-nil (λ t. Names lines t.act))
end_names lines false p = All-cons (λ t. Names lines t.act) (unlabelled_line p Return) [] (no_names lines) (All-nil (λ t. Names lines t.act))

module _ (made : ℕ → ℕ) (rs : Routes) (heads : List Line) (main : Bool) (p : Place) (declared : AreDeclarations heads) (numbered : IsNumbered made rs) (leads : Leads rs (λ l. all_given l rs) 0)
    (own : (l : ℕ) → 1 ≤ all_given l rs → IsLabel l) (new : (i : ℕ) → i < all_labels rs → IsLabel (made i)) where
  abbrev code : List Line
  code = all_code made rs 0 [] (ending main p)

  abbrev lines : List Line
  lines = heads ++ code

  in_range : All (OfLabel IsLabel) lines
  in_range = All-append (OfLabel IsLabel) heads code (heads_labels heads declared) (routes_labels IsLabel made rs 0 [] (ending main p) own (λ i le lt. new i (omega (arith, lt))) (end_labels main p))

  stands : (l : ℕ) → 1 ≤ all_given l rs → Goes lines l
  stands l h =
      let found = all_stand made l rs 0 [] (ending main p) h in
      let at = behind_others heads code (here l found.0) found.1 in
      record { place = at.0; line = here l found.0; at = at.1; label = refl; passes = refl }

  names : All (λ s. Names lines s.act) lines
  names =
      All-append (λ s. Names lines s.act) heads code (heads_names lines heads declared)
      (routes_names lines (λ l. all_given l rs) stands made rs 0 [] (ending main p) leads (λ k lt. absurd (omega (arith, lt))) (behind_others heads code) (end_names lines main p))

  pub has_labels : HasLabels lines
  has_labels = record {
    range = λ i l s e h. item_of (OfLabel IsLabel) lines i s in_range e l h;
    once = λ i j l s t e f h k. one_place l lines i j s t (distinct made rs heads (ending main p) numbered declared (ending_unlabelled main p) l) e f h k;
    leads = λ i l s e h. All-contains (Goes lines) (branches s.act) l (item_of (λ t. Names lines t.act) lines i s names e).0 h;
    formats = λ i l s e h. All-contains (HasFormat lines) (formats_named s.act) l (item_of (λ t. Names lines t.act) lines i s names e).1 h;
  }
