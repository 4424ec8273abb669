-- The units of an accepted program of EFL are a legal deck.
use Rattle.std.proofs.Common.{◌≡◌, ◌<◌, ◌≤◌, ℕ, true, List, [], ◌∷◌, length, Some, ap, subst, arith}
use Rattle.std.specs.Prelude.{is_some}
use Rattle.std.specs.List.{All, AllByRecursion, slice_get}
use Rattle.std.proofs.lemmas.List.Elements.{All-tail}
use Rattle.std.proofs.lemmas.Option.{slice_get_within}
use Rattle.ground.specs.declared.value.Kind.{Kind}
use Rattle.f66_tree.specs.Syntax.{Routine}
use Rattle.f66_check.specs.Answers.{IsSoundUnit}
use Rattle.f66_program.specs.Association.{IsBadUnit}
use Rattle.f66_program.specs.Linking.{IsWhole}
use Rattle.deck.specs.Decks.{unit_cards}
use Rattle.deck_link.specs.Linking.{AreClean}
use Rattle.deck_laws.specs.Whole.{IsShallowUnit, IsSoundDeck}
use Rattle.deck_laws.proofs.FittingTexts.{units_pass}
use Rattle.legal_decks.specs.Legal.{IsLegal}
use Rattle.legal_decks.proofs.Printable.{all_printable}
use Rattle.stmt_text.specs.Fitting.{IsPrintable}
use Rattle.plain_units.specs.Units.{IsPlainUnit}
use Rattle.plain_decks.specs.Bytes.{unit_bytes}
use Rattle.plain_decks.specs.Few.{HasFewDummies}
use Rattle.plain_decks.proofs.Bytes.{deck_short, statements_many}
use Rattle.plain_decks.proofs.Units.{everywhere}
use Rattle.efl_tree.specs.Syntax.{EflProcedure, EflProgram}
use Rattle.efl_scope.specs.Marks.{program_variables}
use Rattle.efl_typed.specs.Typing.{bodies_of}
use Rattle.efl_typed.specs.Laws.{AcceptedIsScoped}
use Rattle.efl_lowered.specs.Lowering.{header_of, lines_of, unit_of, units_of}
use Rattle.efl_lowered.specs.Facts.{is_unit, gives_kind, IsOverScalars, AreReady}
use Rattle.efl_lowered.specs.Grammatical.{IsGrammatical}
use Rattle.efl_lowered.specs.Needs.{all_need}
use Rattle.efl_lowered.specs.Laws.{AcceptedIsReady}
use Rattle.efl_lowered.proofs.UnitLemmas.{at_unit, many_units}
use Rattle.efl_naming.specs.Choice.{naming_of}
use Rattle.efl_naming.specs.Laws.{NamesAreApart, NamingHasRoom}
use Rattle.efl_shape.specs.Laws.{BuiltIsOverScalars}
use Rattle.efl_plain.specs.Names.{IsVariableName, IsFunctionName, IsProcedureName}
use Rattle.efl_plain.specs.Tree.{IsWrittenTree}
use Rattle.efl_plain.specs.Written.{AllWritten}
use Rattle.efl_plain.proofs.Associated.{well}
use Rattle.efl_plain.proofs.Linked.{main_there}
use Rattle.efl_plain.proofs.MatchedBodies.{bodies_matched}
use Rattle.efl_plain.proofs.PlainActs.{ArePlainActs, plain_acts}
use Rattle.efl_plain.proofs.Said.{Say}
use Rattle.efl_plain.proofs.Sound.{unit_plain, units_are_sound}
use Rattle.efl_plain.proofs.Storage.{HasFewUnits, each_few, program_whole}
use Rattle.efl_plain.proofs.WrittenBodies.{bodies_written}
use Rattle.efl_lower.specs.Laws.{IsAccepted}
use Rattle.efl_lower.specs.Lowered.{made_of}
use Rattle.efl_lower.proofs.FewExpressions.{Short}
use Rattle.efl_lower.proofs.FewUnits.{header_short, lines_short, short_printable, short_bytes, short_shallow}
use Rattle.efl_lower.proofs.Limited.{IsLimited}
use Rattle.efl_lower.proofs.Ranked.{ranked}

-- ---- units ----

all_clean : (rs : List Routine) → All IsSoundUnit rs → All (λ r. ¬ IsBadUnit r) rs → All HasFewUnits rs → AreClean rs
all_clean [] sound good few = tt
all_clean (r ∷ rs) sound good few = (
  record {
    sound = sound 0 r (omega arith);
    fit = let has = few 0 r (omega arith) in record { well = good 0 r (omega arith); total = has.0; has = has.1; few = has.2 };
  },
  all_clean rs (All-tail IsSoundUnit r rs sound) (All-tail (λ r. ¬ IsBadUnit r) r rs good) (All-tail HasFewUnits r rs few),
)

-- ---- programs ----

module _ (scalars : BuiltIsOverScalars) (ready : AcceptedIsReady) (room : NamingHasRoom) (apart : NamesAreApart) (scoped : AcceptedIsScoped) (p : EflProgram) (tree : IsWrittenTree p) (shaped : IsGrammatical p) (accepted : IsAccepted p) (limits : IsLimited p) where
  abbrev Rs : List Routine
  Rs = units_of (naming_of p) p

  over : IsOverScalars p
  over = scalars p accepted.scopes accepted.types accepted.built

  able : AreReady p (naming_of p)
  able = ready p accepted.scopes accepted.types accepted.whole over shaped (naming_of p) (room p)

  written : (n : ℕ) → is_unit p n ≡ true → (K : Kind) → ((k : Kind) → gives_kind p n k ≡ true → k ≡ K) → AllWritten K (bodies_of p n)
  written n is = bodies_written p accepted.scopes accepted.types accepted.whole over shaped tree n is

  acts : (n : ℕ) → is_unit p n ≡ true → ArePlainActs p (naming_of p) n
  acts n is = plain_acts p (naming_of p) able n is (written n is)

  -- there is as much room as is needed
  rooms : (n : ℕ) → (naming_of p).room n ≤ all_need (bodies_of p n) 0
  rooms n = omega arith

  sound : All IsSoundUnit Rs
  sound = let r = ranked p accepted.scopes accepted.whole in units_are_sound ready scoped room apart p r.0 r.1 accepted.types accepted.whole over shaped tree limits.small limits.labels

  clean : AreClean Rs
  clean = all_clean Rs sound (well p (naming_of p) able) (each_few p (naming_of p) able acts rooms limits.storage)

  linked : IsWhole (made_of p)
  linked =
      program_whole p (naming_of p) able acts (apart p accepted.scopes accepted.whole shaped limits.small) accepted.whole (bodies_matched p accepted.scopes accepted.types accepted.whole over shaped) rooms limits.storage

  some : 0 < length Rs
  some = let m = main_there p accepted.whole in let lt = slice_get_within p.procedures m.0 m.1 m.2 in let many = many_units p (naming_of p) in omega (lt, many, arith)

  -- ---- texts ----

  module _ (n : ℕ) (u : EflProcedure) (here : slice_get p.procedures n ≡ Some u) where
    plain : IsPlainUnit (IsVariableName p (naming_of p) n) (IsFunctionName p (naming_of p) n) (IsProcedureName p (naming_of p) n) (unit_of (naming_of p) p n u)
    plain = let r = ranked p accepted.scopes accepted.whole in unit_plain ready scoped room apart p r.0 r.1 accepted.types accepted.whole over shaped tree limits.small limits.labels n u here

    header : HasFewDummies (header_of (naming_of p) (program_variables p) n u)
    header = header_short p (naming_of p) able accepted.types written n u here

    lines : Say Short (lines_of (naming_of p) p n u)
    lines = lines_short p (naming_of p) able accepted.types written n u (ap is_some here)

    fits_cards : IsPrintable (unit_of (naming_of p) p n u)
    fits_cards = short_printable (IsVariableName p (naming_of p) n) (IsFunctionName p (naming_of p) n) (IsProcedureName p (naming_of p) n) (unit_of (naming_of p) p n u) plain header lines

    is_short : length (unit_cards (unit_of (naming_of p) p n u)) ≤ unit_bytes (unit_of (naming_of p) p n u)
    is_short = short_bytes (IsVariableName p (naming_of p) n) (IsFunctionName p (naming_of p) n) (IsProcedureName p (naming_of p) n) (unit_of (naming_of p) p n u) plain header lines

    is_shallow : IsShallowUnit (unit_of (naming_of p) p n u)
    is_shallow = short_shallow (IsVariableName p (naming_of p) n) (IsFunctionName p (naming_of p) n) (IsProcedureName p (naming_of p) n) (unit_of (naming_of p) p n u) plain header lines

  each_unit : (P : Routine → Type 0) → ((n : ℕ) (u : EflProcedure) → slice_get p.procedures n ≡ Some u → P (unit_of (naming_of p) p n u)) → AllByRecursion P Rs
  each_unit P f = everywhere P Rs (λ n r e. let w = at_unit p (naming_of p) n r e in subst P w.2 (f n w.0 w.1))

  deck : IsSoundDeck Rs
  deck =
      let many = many_units p (naming_of p) in
      let few = limits.few in
      let bytes = limits.bytes in
      record {
        each = each_unit IsShallowUnit is_shallow;
        texts = units_pass Rs (each_unit IsPrintable fits_cards);
        some = some;
        few = omega (arith, many, few);
        statements = omega (arith, bytes, statements_many Rs);
        bytes = omega (arith, bytes, deck_short Rs (each_unit (λ r. length (unit_cards r) ≤ unit_bytes r) is_short));
      }

  pub legal : IsLegal (made_of p)
  legal = record { accepted = record { units = clean; whole = linked }; printable = all_printable Rs deck.texts; deck = deck }
