-- The deck of a text has few bytes, and passes no limit.
--
-- Each unit by itself becomes few statements, so that its deck alone passes no limit, and the unit fits its cards. Then the deck of all
-- units costs what their statements do, for which the tokens of the text pay.
use Rattle.std.proofs.Common.{◌≡◌, ◌≤◌, ℕ, ◌+◌, ◌*◌, arith, List, [], ◌∷◌, length, length-append, map, None, refl}
use Rattle.std.specs.List.{All, AllByRecursion}
use Rattle.std.proofs.lemmas.List.{length-map}
use Rattle.std.proofs.lemmas.List.Elements.{All-head, All-tail}
use Rattle.ground.specs.declared.place.Place.{Place}
use Rattle.ground.specs.declared.token.Token.{Token}
use Rattle.grammar.specs.Limits.{IsAccepted}
use Rattle.f66_tree.specs.Syntax.{Text, Line, Routine}
use Rattle.f66_check.specs.Answers.{IsSoundUnit}
use Rattle.rat_tree.specs.Syntax.{RatRoutine, RatProgram}
use Rattle.rat_parse_table.specs.Limits.{meter}
use Rattle.rat_parse_values.specs.Values.{program}
use Rattle.rat_parse.specs.Ratfor.{grammar}
use Rattle.rat_lower.specs.Code.{unit_code}
use Rattle.rat_room.specs.Room.{IsFew}
use Rattle.rat_room.proofs.LineRooms.{parsed_is_few}
use Rattle.rat_room.proofs.UnitCounts.{parsed_has_few_units}
use Rattle.rat_room.proofs.Weights.{total}
use Rattle.rat_shapes.specs.Shapes.{AllBecome, IsLow}
use Rattle.rat_shapes.proofs.ShallowUnits as shallow
use Rattle.rat_shapes.proofs.WholeUnits as whole
use Rattle.deck.specs.LongTexts.{fault_of_unit, first_fault, fault_of_deck}
use Rattle.deck.specs.Written.{written_header, written_line, written_unit}
use Rattle.deck_laws.specs.Fitting.{IsShallow, IsFittingUnit}
use Rattle.deck_laws.specs.Whole.{IsWhole, IsShallowUnit, IsSoundDeck}
use Rattle.deck_laws.proofs.CardBytes.{small_is_sound}
use Rattle.deck_laws.proofs.SoundDecks.{deck_fits}
use Rattle.deck_laws.proofs.WritableLines.{none_both}
use Rattle.deck_room.specs.Printed.{printed, ArePrinted, PrintedAreShort, PrintedPassesNoLimit, OnePassesNoLimit}
use Rattle.deck_room.proofs.Costs.{routine_cost, unit_cost}
use Rattle.deck_room.proofs.CodeCosts.{unit_costs}
use Rattle.deck_room.proofs.CardCosts.{deck_costs}
use Rattle.deck_room.proofs.PaidTrees.{program_costs}
use Rattle.deck_room.proofs.PrintedTexts.{header_one, of_printed, same_many, printed_are_few}

-- ---- each unit ----

-- what the parser's limits say of a unit
record IsBounded (u : RatRoutine) : Type 0 where
  few : IsFew u
  low : AllBecome IsLow u
  whole : AllBecome IsWhole u

all_bounded : (us : List RatRoutine) → All IsFew us → AllByRecursion (AllBecome IsLow) us → AllByRecursion (AllBecome IsWhole) us → AllByRecursion IsBounded us
all_bounded [] few low whole = tt
all_bounded (u ∷ us) few low whole = (record { few = All-head IsFew u us few; low = low.0; whole = whole.0 }, all_bounded us (All-tail IsFew u us few) low.1 whole.1)

text_bounded : (ts : List Token) (tree : RatProgram) → IsAccepted grammar meter ts (program tree) → AllByRecursion IsBounded tree.routines
text_bounded ts tree accepted = all_bounded tree.routines (parsed_is_few ts tree accepted) (shallow.parsed_is_shallow ts tree accepted) (whole.parsed_is_whole ts tree accepted)

lines_shallow : (lines : List Line) → AllByRecursion (λ (line : Line). IsLow line.act) lines → AllByRecursion (λ (line : Line). IsShallow line.act) lines
lines_shallow [] low = tt
lines_shallow (line ∷ lines) low = (let here = low.0 in omega (arith, here), lines_shallow lines low.1)

-- a printed unit that is sound
record IsKept (unit : Routine) : Type 0 where
  shallow : IsSoundUnit unit → IsShallowUnit unit
  few : length (written_unit unit) ≤ 80003

printed_kept : (made : ℕ → ℕ) (spare : Text) (last : Place) (u : RatRoutine) → IsBounded u → IsKept (printed made spare last u)
printed_kept made spare last u bounded =
    let code : List Line = unit_code made spare u.header u.place last u.body in
    record {
      shallow = λ sound. record { sound = sound; whole = bounded.whole made spare last; shallow = lines_shallow code (bounded.low made spare last) };
      few = (let counted = bounded.few made spare last in omega (arith, counted, length-append (written_header u.header) (map written_line code), length-map code written_line, header_one u.header));
    }

all_kept : (last : Place) (us : List RatRoutine) (units : List Routine) → AllByRecursion IsBounded us → ArePrinted last us units → AllByRecursion IsKept units
all_kept last [] [] bounded h = tt
all_kept last [] (unit ∷ units) bounded h = absurd h
all_kept last (u ∷ us) [] bounded h = absurd h
all_kept last (u ∷ us) (unit ∷ units) bounded h =
    (of_printed (λ u r. IsBounded u → IsKept r) printed_kept last u unit h.0 bounded.0, all_kept last us units bounded.1 h.1)

all_shallow : (units : List Routine) → AllByRecursion IsKept units → AllByRecursion IsSoundUnit units → AllByRecursion IsShallowUnit units
all_shallow [] kept sound = tt
all_shallow (unit ∷ units) kept sound = (kept.0.shallow sound.0, all_shallow units kept.1 sound.1)

-- the deck of one unit
one_sound : (unit : Routine) → IsKept unit → IsShallowUnit unit → fault_of_deck (unit ∷ []) ≡ None → IsSoundDeck (unit ∷ [])
one_sound unit kept shallow none = small_is_sound (unit ∷ []) (record { each = (shallow, tt); texts = none; some = omega arith; few = omega arith; statements = (let few = kept.few in omega (arith, few)) })

alone : (unit : Routine) → fault_of_unit unit ≡ None → fault_of_deck (unit ∷ []) ≡ None
alone unit none = rw none refl

all_fit : (units : List Routine) → AllByRecursion IsKept units → AllByRecursion IsShallowUnit units → fault_of_deck units ≡ None → AllByRecursion IsFittingUnit units
all_fit [] kept shallow none = tt
all_fit (unit ∷ units) kept shallow none =
    let both = none_both (fault_of_unit unit) (first_fault fault_of_unit units) none in
    ((deck_fits (unit ∷ []) (one_sound unit kept.0 shallow.0 (alone unit both.0))).each.0, all_fit units kept.1 shallow.1 both.1)

-- ---- all units ----

printed_cost : (made : ℕ → ℕ) (spare : Text) (last : Place) (u : RatRoutine) → unit_cost (printed made spare last u) ≤ routine_cost u + 1070
printed_cost made spare last u = omega (arith, unit_costs made spare u.header u.place last u.body)

all_cost : (last : Place) (us : List RatRoutine) (units : List Routine) → ArePrinted last us units → total unit_cost units ≤ total routine_cost us + 1070 * length units
all_cost last [] [] h = omega arith
all_cost last [] (unit ∷ units) h = absurd h
all_cost last (u ∷ us) [] h = absurd h
all_cost last (u ∷ us) (unit ∷ units) h = omega (arith, of_printed (λ u r. unit_cost r ≤ routine_cost u + 1070) printed_cost last u unit h.0, all_cost last us units h.1)

pub printed_are_short : PrintedAreShort
printed_are_short ts tree last units accepted made may =
    let kept = all_kept last tree.routines units (text_bounded ts tree accepted) made in
    let fit = all_fit units kept (all_shallow units kept may.each) may.texts in
    omega (arith, deck_costs units fit may.texts, all_cost last tree.routines units made, program_costs ts tree accepted)

pub printed_passes : PrintedPassesNoLimit
printed_passes ts tree last units accepted made few may =
    let kept = all_kept last tree.routines units (text_bounded ts tree accepted) made in
    let many = printed_are_few ts tree last units accepted made in
    let short = printed_are_short ts tree last units accepted made may in
    let same = same_many last tree.routines units made in
    let most = parsed_has_few_units ts tree accepted in
    record {
      each = all_shallow units kept may.each;
      texts = may.texts;
      some = may.some;
      few = omega (arith, same, most);
      statements = omega (arith, many, few, same, most);
      bytes = omega (arith, short, few, same, most);
    }

pub one_passes : OnePassesNoLimit
one_passes ts tree last unit accepted made may =
    let kept = all_kept last tree.routines (unit ∷ []) (text_bounded ts tree accepted) made in
    one_sound unit kept.0 (all_shallow (unit ∷ []) kept may.each).0 may.texts
