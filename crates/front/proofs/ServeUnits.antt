-- The units that serve for those of an accepted program link, by any linkage do what it means, and fit their cards.
use Rattle.std.proofs.Common.{◌≡◌, ◌≤◌, ℕ, pos, ◌-ℤ◌, List, [], ◌∷◌, length, map, Option, refl, sym, ap, subst, arith}
use Rattle.std.specs.Prelude.{◌↔◌, All}
use Rattle.std.specs.List.{AllZip}
use Rattle.std.proofs.lemmas.List.Elements.{All-nil, All-cons, All-map}
use Rattle.ground.specs.declared.place.Place.{Place}
use Rattle.ground.specs.declared.fault.FaultKind.TheVariants.{InitialTwice}
use Rattle.f66_tree.specs.declared.unit.Unit.{Unit as AUnit}
use Rattle.f66_tree.specs.Syntax.{Text, Line, Routine}
use Rattle.f66_tree.specs.Views.{routine_of}
use Rattle.f66_tree.specs.World.{Record, Shown}
use Rattle.f66_tree.specs.Units.{Linkage}
use Rattle.f66_tree.specs.Execution.{f66}
use Rattle.f66_tree.specs.Agreement.{Agrees}
use Rattle.f66_check.specs.Answers.{IsSoundUnit}
use Rattle.f66_program.specs.Association.{Own, IsSame, ties_of, IsReal, IsBadUnit, IsNumbering}
use Rattle.f66_program.specs.Linking.{Program, IsWhole, IsLinkage}
use Rattle.linked_soundness.specs.Laws.{AreCodes}
use Rattle.stmt_text.specs.Fitting.{IsPrintable}
use Rattle.call_ranks.specs.Ranks.{HaveRanks}
use Rattle.call_ranks.proofs.RankLemmas.{whole_ranks}
use Rattle.renumbering.specs.Laws.{IsMatched}
use Rattle.renumbering.proofs.NumberLemmas.{whole_is_matched}
use Rattle.renumbering.proofs.NumberedLemmas.{by_numbers, links_by}
use Rattle.spared_units.specs.Spared.{said_units}
use Rattle.spared_units.proofs.Places.{IsSpareAt}
use Rattle.spared_units.proofs.Numbers.{spared_number, spare_apart, spared_same}
use Rattle.rat_tree.specs.Syntax.{RatRoutine, RatProgram}
use Rattle.rat_said.specs.Said.{said_routine}
use Rattle.rat_link.specs.Linking.{IsAccepted}
use Rattle.rat_lower.specs.Linkages.{source_of}
use Rattle.rat_lower.specs.Served.{AllServe}
use Rattle.rat_linked.specs.Made.{IsMadeOf}
use Rattle.rat_linked.specs.Meaning.{bodies_of, means_program}
use Rattle.rat_linked.proofs.Programs.{Paired, paired, made_are_well, made_are_whole}
use Rattle.legal_decks.proofs.Linkages.{HasMain, main_there}
use Rattle.rat_linked.proofs.Sources.{source_links}
use Rattle.rat_linked.proofs.Serving.{AllFaultless, all_made, own_codes, lines_in, units_do, units_found}
use Rattle.front.specs.Checked.{Meaning}
use Rattle.front.specs.Laws.{DoTheSame, UnitsServe}
use Rattle.front.proofs.ProgramLemmas.{all_sound}
use Rattle.renumbering.proofs.SameRuns.{same_run}

-- ---- units ----

own_are_codes : (rs : List Routine) → AreCodes rs (own_codes rs)
own_are_codes rs u r here = ap lines_in here

-- ---- cards ----

all_printable : (us : List RatRoutine) (finish : Place) (made : List AUnit) → AllServe us finish made → All IsPrintable (map routine_of made)
all_printable [] finish [] h = All-nil IsPrintable
all_printable [] finish (m ∷ made) h = absurd h
all_printable (u ∷ us) finish [] h = absurd h
all_printable (u ∷ us) finish (m ∷ made) h = All-cons IsPrintable (routine_of m) (map routine_of made) h.0.printable (all_printable us finish made h.1)

-- ---- a program ----

module _ (p : RatProgram) (made : List AUnit) (accepted : IsAccepted p) (few : length p.routines ≤ 500) (all : AllServe p.routines p.finish made) where
  abbrev us : List RatRoutine
  us = p.routines

  abbrev rs : List Routine
  rs = map routine_of made

  abbrev units : Program
  units = record { units = rs; finish = p.finish }

  faultless : AllFaultless p.finish us
  faultless i d lt = (accepted.units i d lt).rules

  abbrev zipped : AllZip IsMadeOf us rs
  zipped = all_made p.finish us made all faultless

  abbrev k : Paired us rs
  k = paired us rs zipped

  -- ---- they link ----

  said_well : All (λ r. ¬ IsBadUnit r) (map said_routine us)
  said_well = All-map (λ r. ¬ IsBadUnit r) said_routine us (λ i d lt. (accepted.units i d lt).well)

  well : All (λ r. ¬ IsBadUnit r) rs
  well = made_are_well us rs zipped said_well

  is_whole : IsWhole units
  is_whole =
      let small = accepted.linked.few.2 in
      made_are_whole us rs p.finish accepted.linked.few.0 zipped said_well accepted.linked.few.1 (omega (arith, few, small)) accepted.linked.whole

  sound : All IsSoundUnit rs
  sound = all_sound us p.finish made all

  matched : IsMatched units
  matched = whole_is_matched units is_whole

  main : HasMain rs
  main = main_there units is_whole

  -- ---- a linkage ----

  abbrev total : ℕ
  total = accepted.linked.few.0

  -- the numbers of the storage units of what the program says
  abbrev other : ℕ → Text → ℕ → Option ℕ
  other = accepted.linked.few.1.0

  numbering : IsNumbering (said_units k.pairs) other total
  numbering = subst (λ ss. IsNumbering ss other total) (sym k.said) accepted.linked.few.1.1

  abbrev number : ℕ → Text → ℕ → ℕ
  number = spared_number k.pairs other total numbering

  abbrev AreNumbers : List Routine → Type 0
  AreNumbers ss = (u : ℕ) (x : Text) (o v : ℕ) (y : Text) (q : ℕ) → IsReal ss u x o → IsReal ss v y q → (number u x o ≡ number v y q) ↔ IsSame (ties_of ss) (Own u x) (Own v y) (pos q -ℤ pos o)

  same_numbers : AreNumbers rs
  same_numbers = subst AreNumbers k.made (spared_same k.pairs other total numbering)

  numbers_apart : (u : ℕ) (y : Text) → IsSpareAt k.pairs u y → (v : ℕ) (x : Text) (o : ℕ) → number v x o ≡ number u y 0 → (v ≡ u) × (x ≡ y)
  numbers_apart = spare_apart k.pairs other total numbering

  abbrev linkage : Linkage
  linkage = by_numbers rs main.0 number

  links : IsLinkage rs linkage
  links = links_by units sound (is_whole.clean InitialTwice) number same_numbers main.0 main.1 main.2 main.3

  -- ---- what they do ----

  ranks : HaveRanks rs
  ranks = whole_ranks units is_whole

  abbrev meaning : Meaning
  meaning = means_program us (source_of linkage (bodies_of us))

  own_agree : (input : List Record) → Agrees (meaning input) (f66 linkage (own_codes rs) input)
  own_agree input = units_do p.finish us made all faultless linkage links numbers_apart ranks.0 ranks.1 ranks.2 input

  do_the_same : (l : Linkage) → IsLinkage rs l → (codes : ℕ → List Line) → AreCodes rs codes → DoTheSame p rs l codes
  do_the_same l is codes are = record {
    meaning = meaning;
    means = record { linkage = source_of linkage (bodies_of us); links = source_links us rs linkage zipped links; is = refl };
    agrees = λ input. subst (λ (run : ℕ → Shown). Agrees (meaning input) run) (λ i n. same_run units sound matched linkage l links is (own_codes rs) codes (own_are_codes rs) are input n i) (own_agree input);
    found = λ input b. units_found p.finish us made all faultless linkage links numbers_apart ranks.0 ranks.1 ranks.2 input b;
  }

-- ---- all ----

pub units_serve : UnitsServe
units_serve p made few accepted all = record {
  well = well p made accepted few all;
  whole = is_whole p made accepted few all;
  linkage = linkage p made accepted few all;
  links = links p made accepted few all;
  same = do_the_same p made accepted few all;
  printable = all_printable p.routines p.finish made all;
}
