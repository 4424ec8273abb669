-- Each unit of a text that passes no limit becomes at most four statements for each of 20,000 tokens, and two more.
use Rattle.std.proofs.Common.{◌≡◌, ◌≤◌, arith, List, [], ◌∷◌, None}
use Rattle.ground.specs.declared.token.Token.{Token}
use Rattle.grammar.specs.declared.language.Event.TheVariants.{Open}
use Rattle.grammar.specs.Grammar.{Trees, DerivesAll, values_of}
use Rattle.grammar.specs.Limits.{history_all, first_passing}
use Rattle.rat_tree.specs.Syntax.{RatRoutine}
use Rattle.rat_parse_table.specs.declared.table.Production.{Production}
use Rattle.rat_parse_table.specs.declared.table.Production.TheVariants as productions
use Rattle.rat_parse_table.specs.Table.{symbols}
use Rattle.rat_parse_table.specs.Limits.{meter}
use Rattle.rat_parse_values.specs.Kinds as part
use Rattle.rat_parse_values.specs.Values.{Val, program, last_of, others, at}
use Rattle.rat_parse_values.specs.Values as val
use Rattle.rat_parse_values.specs.Parts.{with_routine}
use Rattle.rat_parse.specs.Build.{build}
use Rattle.rat_parse.specs.Ratfor.{grammar}
use Rattle.rat_room.proofs.TreeWeights.{Each, node_balance, balance_all, all_free, all_more}
use Rattle.rat_room.proofs.PartWeights.{IsEven}
use Rattle.rat_room.proofs.UnitTokens.{unit_few}
use Rattle.rat_room.proofs.UnitTexts.{Past, units_good}
use Rattle.std.proofs.lemmas.List.Elements.{All-nil, All-cons}
use Rattle.std.specs.List.{All}
use Rattle.rat_room.specs.Room.{IsFew, ParsedIsFew}
use Rattle.rat_room.proofs.Lines.{lines_in, unit_length}
use Rattle.rat_room.proofs.LineWeights.{size}
use Rattle.rat_room.proofs.LineProductions.{line_credit, line_pays, line_token}

abbrev IsShort : RatRoutine → Type 0
IsShort u = lines_in u.body ≤ 80000

short_unit : (v : Val) → size v ≤ 80000 → Each IsShort (with_routine v [])
short_unit (val.unit (part.routine u)) h = (h, tt)
short_unit _ h = tt

short_text : (cs : Trees Token Production) (ts rest : List Token) (past : Past) → DerivesAll grammar cs (symbols productions.OneUnit) ts rest →
    first_passing meter (history_all grammar cs (Open productions.OneUnit ∷ past)) ≡ None → Each IsShort (with_routine (build productions.OneUnit (values_of grammar cs [])) [])
short_text cs ts rest past h quiet =
    let few = unit_few cs ts rest past h quiet in
    let all = balance_all grammar 4 size line_credit IsEven line_token line_pays cs [] (symbols productions.OneUnit) ts rest h tt in
    let whole = node_balance grammar 4 size line_credit IsEven line_token line_pays productions.OneUnit cs all in
    short_unit (build productions.OneUnit (values_of grammar cs [])) (omega (arith, few, whole.weighs, all_free cs, all_more 0 cs, all_more 1 cs, all_more 2 cs, all_more 3 cs))

short_is_few : (u : RatRoutine) → IsShort u → IsFew u
short_is_few u h = λ made spare last. omega (arith, unit_length made spare u.header u.place last u.body, h)

all_few : (us : List RatRoutine) → Each IsShort us → All IsFew us
all_few [] h = All-nil IsFew
all_few (u ∷ us) h = All-cons IsFew u us (short_is_few u h.0) (all_few us h.1)

pub parsed_is_few : ParsedIsFew
parsed_is_few ts tree accepted = all_few tree.routines (units_good IsShort short_text ts tree accepted)
