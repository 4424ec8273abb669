-- What a text becomes costs no more than its tokens pay for.
use Rattle.std.proofs.Common.{◌≤◌, ◌+◌, ◌*◌, arith, List, [], ◌∷◌, length, refl, sym, ap, subst}
use Rattle.ground.specs.declared.token.Token.{Token}
use Rattle.grammar.specs.declared.language.Symbol.{Symbol}
use Rattle.grammar.specs.declared.language.Symbol.TheVariants.{Nonterminal}
use Rattle.grammar.specs.Grammar.{Tree, Trees, leaf, node, none, some, Parse, Derives, DerivesAll, value_of, values_of}
use Rattle.grammar.specs.Limits.{IsAccepted}
use Rattle.grammar.specs.Stack.{piled}
use Rattle.rat_tree.specs.Syntax.{RatProgram}
use Rattle.rat_parse_table.specs.declared.table.Terminal.{Terminal as ATerminal}
use Rattle.rat_parse_table.specs.declared.table.Nonterminal.{Nonterminal as ANonterminal}
use Rattle.rat_parse_table.specs.declared.table.Production.{Production}
use Rattle.rat_parse_table.specs.declared.table.Production.TheVariants as productions
use Rattle.rat_parse_table.specs.Table.{symbols}
use Rattle.rat_parse_table.specs.Limits.{meter}
use Rattle.rat_parse_values.specs.Values.{Val, program, tok}
use Rattle.rat_parse_values.specs.Parts.{as_program}
use Rattle.rat_parse.specs.Ratfor.{grammar}
use Rattle.rat_room.proofs.Weights.{total}
use Rattle.rat_room.proofs.TreeWeights.{Each, offered_by, trees_hold}
use Rattle.rat_room.proofs.PartWeights.{IsEven}
use Rattle.rat_room.proofs.ProductionWeights.{keeps}
use Rattle.deck_room.proofs.Costs.{routine_cost}
use Rattle.deck_room.proofs.Payments.{paid, all_paid, pays}

all_even : (cs : Trees Token Production) → Each IsEven (values_of grammar cs [])
all_even cs = trees_hold grammar IsEven (λ t. tt) keeps cs [] tt

mutual
  tree_pays : (c : Tree Token Production) (x : Symbol ATerminal ANonterminal) (ts rest : List Token) → Derives grammar c x ts rest → paid x (value_of grammar c) + 500 * length rest ≤ 500 * length ts
  tree_pays (leaf t) x ts rest h =
      let taken = ap (λ us. length us) h.1 in
      subst (λ y. paid y (tok t) + 500 * length rest ≤ 500 * length ts) (sym h.0) (omega (arith, taken))
  tree_pays (node p cs) x ts rest h =
      subst (λ y. paid y (value_of grammar (node p cs)) + 500 * length rest ≤ 500 * length ts) (sym h.1)
      (subst (λ n. paid (Nonterminal n) (value_of grammar (node p cs)) + 500 * length rest ≤ 500 * length ts) (offered_by grammar h.0 p ts h.2)
      (omega (arith, pays p (values_of grammar cs []) (all_even cs), trees_pay cs (symbols p) ts rest [] [] h.3)))

  trees_pay : (cs : Trees Token Production) (xs : List (Symbol ATerminal ANonterminal)) (ts rest : List Token) (seen : List (Symbol ATerminal ANonterminal)) (earlier : List Val) → DerivesAll grammar cs xs ts rest →
      all_paid (piled (λ x. x) xs seen) (values_of grammar cs earlier) + 500 * length rest ≤ all_paid seen earlier + 500 * length ts
  trees_pay none xs ts rest seen earlier h =
      let same = ap (λ us. length us) h.1 in
      subst (λ ys. all_paid (piled (λ x. x) ys seen) earlier + 500 * length rest ≤ all_paid seen earlier + 500 * length ts) (sym h.0) (omega (arith, same))
  trees_pay (some c cs) xs ts rest seen earlier h =
      subst (λ ys. all_paid (piled (λ x. x) ys seen) (values_of grammar cs (value_of grammar c ∷ earlier)) + 500 * length rest ≤ all_paid seen earlier + 500 * length ts) (sym h.3)
      (omega (arith, tree_pays c h.0 ts h.2 h.4, trees_pay cs h.1 h.2 rest (h.0 ∷ seen) (value_of grammar c ∷ earlier) h.5))

-- the units of an accepted program cost 500 bytes at most for each of its tokens
pub program_costs : (ts : List Token) (tree : RatProgram) → IsAccepted grammar meter ts (program tree) → total routine_cost tree.routines ≤ 500 * length ts
program_costs ts tree accepted =
    let found = (accepted.value (program tree)).1 refl in
    let parse : Parse grammar ts = found.0 in
    subst (λ v. total routine_cost (as_program v).routines ≤ 500 * length ts) found.1
    (omega (arith, pays productions.Whole (values_of grammar parse.trees []) (all_even parse.trees), trees_pay parse.trees (symbols productions.Whole) ts [] [] [] parse.derives))
