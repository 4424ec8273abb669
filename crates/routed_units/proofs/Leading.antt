-- Each jump of the lines of routes leads to a CONTINUE, and each READ or WRITE to its FORMAT.
use Rattle.std.proofs.Common.{◌≡◌, ℕ, zero, suc, ◌+◌, ◌≤◌, ◌<◌, true, true≢false, List, [], ◌∷◌, length, refl, sym, arith}
use Rattle.std.specs.List.{All}
use Rattle.std.proofs.lemmas.List.Elements.{All-nil, All-cons}
use Rattle.ground.specs.declared.place.Place.{Place}
use Rattle.f66_tree.specs.declared.editing.Way.{Way}
use Rattle.f66_tree.specs.declared.editing.Way.TheVariants.{Reading, Writing}
use Rattle.f66_tree.specs.Fields.{Fields}
use Rattle.f66_tree.specs.Syntax.{Par, Entries, Act, Assign, Goto, Invoke, Continue, Stop, Return, Format, Typed, Dimension, Common, Equivalence, Preset, Line, unlabelled_line, labelled_line}
use Rattle.f66_tree.specs.Units.{is_note}
use Rattle.f66_flow.specs.Acts.{is_executable, is_format, branches, formats_named}
use Rattle.routes.specs.Routes.{Route, Plain, BreakIf, Break, Ring, Cycle, Block, InTurn, Labelled, Transfer, Routes, NoRoute, AndRoute}
use Rattle.routes.specs.Code.{Behind, label_behind, transfer, jump, here, labels, all_labels, code_of, all_code}
use Rattle.plain_units.specs.Labels.{LeadsTo}
use Rattle.routed_units.specs.Routed.{ActLeads, RouteLeads, Leads}
use Rattle.routed_units.proofs.Standing.{Has, Within, in_rest, next_of_route, next_of_all}

module _ (lines : List Line) where
  abbrev pub Goes : ℕ → Type 0
  Goes l = LeadsTo is_executable lines l

  abbrev pub HasFormat : ℕ → Type 0
  HasFormat l = LeadsTo is_format lines l

  -- each label that a statement names leads to where it has to
  abbrev pub Names : Act → Type 0
  Names a = All Goes (branches a) × All HasFormat (formats_named a)

  pub no_names : All Goes [] × All HasFormat []
  no_names = (All-nil Goes, All-nil HasFormat)

  one_branch : (l : ℕ) → Goes l → All Goes (l ∷ []) × All HasFormat []
  one_branch l g = (All-cons Goes l [] g (All-nil Goes), All-nil HasFormat)

  one_format : (way : Way) (u : Par) (l : ℕ) (es : Entries) → HasFormat l → Names (transfer way u l es)
  one_format Reading u l es f = (All-nil Goes, All-cons HasFormat l [] f (All-nil HasFormat))
  one_format Writing u l es f = (All-nil Goes, All-cons HasFormat l [] f (All-nil HasFormat))

  -- a statement that is not executed names none
  pub note_names : (a : Act) → is_note a ≡ true → Names a
  note_names (Format f) is = no_names
  note_names (Typed t ds) is = no_names
  note_names (Dimension ds) is = no_names
  note_names (Common areas) is = no_names
  note_names (Equivalence es) is = no_names
  note_names (Preset ps) is = no_names
  note_names _ is = absurd (true≢false (sym is))

  module _ (count : ℕ → ℕ) (stand : (l : ℕ) → 1 ≤ count l → Goes l) where
    act_names : (a : Act) → ActLeads a count → Names a
    act_names (Goto l) h = one_branch l (stand l h)
    act_names (Assign x e) h = no_names
    act_names (Invoke x es) h = no_names
    act_names Continue h = no_names
    act_names (Stop n) h = no_names
    act_names Return h = no_names
    act_names _ h = absurd h

    module _ (made : ℕ → ℕ) where
      abbrev AllNames : List Line → Type 0
      AllNames code = All (λ s. Names s.act) code

      -- each ring around has a label behind it
      abbrev AllGo : Behind → Type 0
      AllGo ls = (k : ℕ) → k < length ls → Goes (label_behind ls k)

      ring_goes : (l : ℕ) (ls : Behind) → Goes l → AllGo ls → AllGo (l ∷ ls)
      ring_goes l ls g gs zero lt = g
      ring_goes l ls g gs (suc k) lt = gs k (omega (arith, lt))

      here_goes : (l : ℕ) (p : Place) → Has lines (here l p) → Goes l
      here_goes l p h = record { place = h.0; line = here l p; at = h.1; label = refl; passes = refl }

      format_is : (l : ℕ) (p : Place) (fs : Fields) → Has lines (labelled_line l p (Format fs)) → HasFormat l
      format_is l p fs h = record { place = h.0; line = labelled_line l p (Format fs); at = h.1; label = refl; passes = refl }

      before : (s : Line) (code : List Line) → Names s.act → AllNames code → AllNames (s ∷ code)
      before s code h rest = All-cons (λ t. Names t.act) s code h rest

      mutual
        route_names : (r : Route) (n : ℕ) (ls : Behind) (next : List Line) → RouteLeads r count (length ls) → AllGo ls → Within (code_of made r n ls next) lines → AllNames next → AllNames (code_of made r n ls next)
        route_names (Plain p a) n ls next h gs is rest = before (unlabelled_line p a) next (act_names a h) rest
        route_names (BreakIf p e k) n ls next h gs is rest = before _ next (one_branch (label_behind ls k) (gs k h)) rest
        route_names (Break p k) n ls next h gs is rest = before _ next (one_branch (label_behind ls k) (gs k h)) rest
        route_names (Ring p rs) n ls next h gs is rest =
            let out = here (made n) p ∷ next in
            let goes = here_goes (made n) p (is (here (made n) p) (next_of_all made rs (n + 1) (made n ∷ ls) out (here (made n) p) (0, refl))) in
            routes_names rs (n + 1) (made n ∷ ls) out h (ring_goes (made n) ls goes gs) is (before (here (made n) p) next no_names rest)
        route_names (Cycle p top rest) n ls next h gs is after =
            let end = here (made (n + 1)) p in
            let out = jump p (made n) ∷ end ∷ next in
            let second = all_code made rest (n + 2 + all_labels top) (made (n + 1) ∷ ls) out in
            let first = all_code made top (n + 2) (made (n + 1) ∷ ls) second in
            let in_first : Within first lines = λ s h. is s (in_rest (here (made n) p) first s h) in
            let in_second : Within second lines = λ s h. in_first s (next_of_all made top (n + 2) (made (n + 1) ∷ ls) second s h) in
            let in_out : Within out lines = λ s h. in_second s (next_of_all made rest (n + 2 + all_labels top) (made (n + 1) ∷ ls) out s h) in
            let again = here_goes (made n) p (is (here (made n) p) (0, refl)) in
            let leaves = ring_goes (made (n + 1)) ls (here_goes (made (n + 1)) p (in_out end (1, refl))) gs in
            before (here (made n) p) first no_names
            (routes_names top (n + 2) (made (n + 1) ∷ ls) second h.0 leaves in_first
            (routes_names rest (n + 2 + all_labels top) (made (n + 1) ∷ ls) out h.1 leaves in_second
            (before (jump p (made n)) (end ∷ next) (one_branch (made n) again) (before end next no_names after))))
        route_names (Block rs) n ls next h gs is rest = routes_names rs n ls next h gs is rest
        route_names (InTurn rs) n ls next h gs is rest = routes_names rs n ls next h gs is rest
        route_names (Labelled m p r) n ls next h gs is rest =
            let code = code_of made r n ls next in
            before (here m p) code no_names (route_names r n ls next h gs (λ s k. is s (in_rest (here m p) code s k)) rest)
        route_names (Transfer p way u fs es) n ls next h gs is rest =
            let format = labelled_line (made n) p (Format fs) in
            before (unlabelled_line p (transfer way u (made n) es)) (format ∷ next) (one_format way u (made n) es (format_is (made n) p fs (is format (1, refl)))) (before format next no_names rest)

        pub routes_names : (rs : Routes) (n : ℕ) (ls : Behind) (next : List Line) → Leads rs count (length ls) → AllGo ls → Within (all_code made rs n ls next) lines → AllNames next → AllNames (all_code made rs n ls next)
        routes_names NoRoute n ls next h gs is rest = rest
        routes_names (AndRoute r rs) n ls next h gs is rest =
            let code = all_code made rs (n + labels r) ls next in
            route_names r n ls code h.0 gs is (routes_names rs (n + labels r) ls next h.1 gs (λ s k. is s (next_of_route made r n ls code s k)) rest)
