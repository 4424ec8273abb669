-- Each unit of a text that passes no limit weighs at most three for each of 20,000 tokens.
use Rattle.std.proofs.Common.{◌≡◌, ◌≤◌, ◌+◌, arith, List, [], ◌∷◌, None}
use Rattle.ground.specs.declared.token.Token.{Token}
use Rattle.grammar.specs.declared.language.Event.TheVariants.{Open}
use Rattle.grammar.specs.Grammar.{Trees, DerivesAll, values_of}
use Rattle.grammar.specs.Limits.{history_all, first_passing, IsAccepted}
use Rattle.rat_tree.specs.Syntax.{RatRoutine, RatProgram}
use Rattle.rat_parse_table.specs.declared.table.Production.{Production}
use Rattle.rat_parse_table.specs.declared.table.Production.TheVariants as productions
use Rattle.rat_parse_table.specs.Table.{symbols}
use Rattle.rat_parse_table.specs.Limits.{meter}
use Rattle.rat_parse_values.specs.Kinds as part
use Rattle.rat_parse_values.specs.Values.{Val, program, last_of, others, at}
use Rattle.rat_parse_values.specs.Values as val
use Rattle.rat_parse_values.specs.Parts.{with_routine}
use Rattle.rat_parse.specs.Build.{build}
use Rattle.rat_parse.specs.Ratfor.{grammar}
use Rattle.rat_room.proofs.Weights.{of_commands, of_header, weight}
use Rattle.rat_room.proofs.TreeWeights.{Each, node_balance, balance_all, all_free, all_more}
use Rattle.rat_room.proofs.PartWeights.{IsEven}
use Rattle.rat_room.proofs.ProductionWeights.{credit, token, pays}
use Rattle.rat_room.proofs.UnitTokens.{unit_few}
use Rattle.rat_room.proofs.UnitTexts.{Past, units_good}

abbrev pub IsLight : RatRoutine → Type 0
IsLight u = of_header u.header + of_commands u.body ≤ 60000

light_unit : (v : Val) → weight v ≤ 60000 → Each IsLight (with_routine v [])
light_unit (val.unit (part.routine u)) h = (h, tt)
light_unit _ h = tt

-- a unit's text is light
light_text : (cs : Trees Token Production) (ts rest : List Token) (past : Past) → DerivesAll grammar cs (symbols productions.OneUnit) ts rest →
    first_passing meter (history_all grammar cs (Open productions.OneUnit ∷ past)) ≡ None → Each IsLight (with_routine (build productions.OneUnit (values_of grammar cs [])) [])
light_text cs ts rest past h quiet =
    let few = unit_few cs ts rest past h quiet in
    let all = balance_all grammar 3 weight credit IsEven token pays cs [] (symbols productions.OneUnit) ts rest h tt in
    let whole = node_balance grammar 3 weight credit IsEven token pays productions.OneUnit cs all in
    light_unit (build productions.OneUnit (values_of grammar cs [])) (omega (arith, few, whole.weighs, all_free cs, all_more 0 cs, all_more 1 cs, all_more 2 cs))

pub units_light : (ts : List Token) (tree : RatProgram) → IsAccepted grammar meter ts (program tree) → Each IsLight tree.routines
units_light ts tree accepted = units_good IsLight light_text ts tree accepted
