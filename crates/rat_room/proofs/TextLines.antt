-- All units of a text together become at most four statements for each of its tokens, and two more each.
use Rattle.std.proofs.Common.{◌≡◌, ◌≤◌, ◌+◌, ◌*◌, arith, List, [], length, refl, subst}
use Rattle.ground.specs.declared.token.Token.{Token}
use Rattle.grammar.specs.Grammar.{Parse}
use Rattle.grammar.specs.Limits.{IsAccepted}
use Rattle.rat_tree.specs.Syntax.{RatProgram}
use Rattle.rat_parse_table.specs.declared.table.Production.TheVariants as productions
use Rattle.rat_parse_table.specs.Table.{symbols}
use Rattle.rat_parse_table.specs.Limits.{meter}
use Rattle.rat_parse_values.specs.Values.{program}
use Rattle.rat_parse.specs.Ratfor.{grammar}
use Rattle.rat_room.proofs.TreeWeights.{tokens_all, trees_take, paid_all, node_balance, balance_all, all_free, all_more}
use Rattle.rat_room.proofs.PartWeights.{IsEven}
use Rattle.rat_room.proofs.LineWeights.{size, lines_of_units}
use Rattle.rat_room.proofs.LineProductions.{line_credit, line_pays, line_token}

pub text_lines : (ts : List Token) (tree : RatProgram) → IsAccepted grammar meter ts (program tree) → lines_of_units tree.routines ≤ 4 * length ts
text_lines ts tree accepted =
    let found = (accepted.value (program tree)).1 refl in
    let parse : Parse grammar ts = found.0 in
    let cs = parse.trees in
    let all = balance_all grammar 4 size line_credit IsEven line_token line_pays cs [] (symbols productions.Whole) ts [] parse.derives tt in
    let whole = node_balance grammar 4 size line_credit IsEven line_token line_pays productions.Whole cs all in
    let paid = whole.weighs in
    let made : size (program tree) ≤ paid_all 4 cs = subst (λ v. size v ≤ paid_all 4 cs) found.1 (omega (arith, paid)) in
    let many : length ts ≡ tokens_all cs + 0 = trees_take grammar cs (symbols productions.Whole) ts [] parse.derives in
    omega (arith, made, many, all_free cs, all_more 0 cs, all_more 1 cs, all_more 2 cs, all_more 3 cs)
