-- What a tree gives is no deeper than 100 parentheses less those that are open before it, where no limit is passed.
use Rattle.std.proofs.Common.{◌≤◌, ℕ, ◌+◌, arith, List, [], ◌∷◌, refl, sym, subst}
use Rattle.std.specs.Prelude.{◌-◌}
use Rattle.ground.specs.declared.token.Token.{Token}
use Rattle.grammar.specs.declared.language.Symbol.{Symbol}
use Rattle.grammar.specs.declared.language.Symbol.TheVariants.{Terminal, Nonterminal}
use Rattle.grammar.specs.declared.language.Event.TheVariants.{Open}
use Rattle.grammar.specs.Grammar.{Tree, Trees, leaf, node, none, some, Parse, Derives, DerivesAll, value_of, values_of}
use Rattle.grammar.specs.Limits.{history, history_all, IsAccepted}
use Rattle.grammar.specs.Stack.{piled}
use Rattle.rat_tree.specs.Syntax.{RatProgram}
use Rattle.rat_parse_table.specs.declared.table.Terminal.{Terminal as ATerminal}
use Rattle.rat_parse_table.specs.declared.table.Terminal.TheVariants as terminals
use Rattle.rat_parse_table.specs.declared.table.Nonterminal.{Nonterminal as ANonterminal}
use Rattle.rat_parse_table.specs.declared.table.Production.{Production}
use Rattle.rat_parse_table.specs.declared.table.Production.TheVariants as productions
use Rattle.rat_parse_table.specs.Table.{symbols, nonterminal_of}
use Rattle.rat_parse_table.specs.Limits.{nesting_with, meter}
use Rattle.rat_parse_values.specs.Values.{Val, program, tok}
use Rattle.rat_parse_values.specs.Parts.{as_program}
use Rattle.rat_parse.specs.Build.{build}
use Rattle.rat_parse.specs.Ratfor.{grammar}
use Rattle.rat_room.proofs.TreeWeights.{offered_by, trees_hold}
use Rattle.rat_room.proofs.MeteredUnits.{all_quiet_before}
use Rattle.rat_room.proofs.UnitTexts.{Past}
use Rattle.deck_laws.specs.Nesting.{deepest}
use Rattle.rat_shapes.proofs.Depths.{depth_of_unit, depth_at}
use Rattle.rat_shapes.proofs.Splits.{IsSplit, keeps}
use Rattle.rat_shapes.proofs.Openings.{IsQuiet, open_after, all_open, all_close, deepens, token_low, tree_kept, inside_kept}
use Rattle.rat_shapes.proofs.Productions.{Within, made_deep}

-- a token has no depth, but that a parenthesis opens
token_deep : (k : ATerminal) (t : Token) (n : ℕ) → nesting_with k n ≤ 100 → depth_at (Terminal k) (tok t) ≤ 100 - n
token_deep terminals.Open t n h = omega (arith, h)
token_deep _ t n h = omega arith

-- less is left for what is deeper
node_deep : (p : Production) (cs : Trees Token Production) (before n : ℕ) → before + deepens p ≤ n → Within n (piled (λ x. x) (symbols p) []) (values_of grammar cs []) →
    depth_at (Nonterminal (nonterminal_of p)) (build p (values_of grammar cs [])) ≤ 100 - before
node_deep p cs before n more parts = omega (arith, more, made_deep p (values_of grammar cs []) n (trees_hold grammar IsSplit (λ t. tt) keeps cs [] tt) parts)

mutual
  tree_deep : (c : Tree Token Production) (x : Symbol ATerminal ANonterminal) (ts rest : List Token) (past : Past) → Derives grammar c x ts rest → IsQuiet (history grammar c past) →
      depth_at x (value_of grammar c) ≤ 100 - open_after past
  tree_deep (leaf t) x ts rest past h quiet =
      let k : ATerminal = grammar.terminal_of t in
      subst (λ y. depth_at y (tok t) ≤ 100 - open_after past) (sym h.0) (token_deep k t (open_after past) (token_low k past quiet))
  tree_deep (node p cs) x ts rest past h quiet =
      let inside : Past = Open p ∷ past in
      subst (λ y. depth_at y (value_of grammar (node p cs)) ≤ 100 - open_after past) (sym h.1)
      (subst (λ n. depth_at (Nonterminal n) (value_of grammar (node p cs)) ≤ 100 - open_after past) (offered_by grammar h.0 p ts h.2)
      (node_deep p cs (open_after past) (open_after inside) (inside_kept p cs ts rest past h.3 quiet) (trees_deep cs (symbols p) ts rest inside (open_after inside) [] [] h.3 quiet (omega arith) (omega arith, tt))))

  trees_deep : (cs : Trees Token Production) (xs : List (Symbol ATerminal ANonterminal)) (ts rest : List Token) (past : Past) (n : ℕ) (seen : List (Symbol ATerminal ANonterminal)) (earlier : List Val) →
      DerivesAll grammar cs xs ts rest → IsQuiet (history_all grammar cs past) → n + all_open seen ≤ open_after past + all_close seen → Within n seen earlier →
      Within n (piled (λ x. x) xs seen) (values_of grammar cs earlier)
  trees_deep none xs ts rest past n seen earlier h quiet kept parts = subst (λ ys. Within n (piled (λ x. x) ys seen) earlier) (sym h.0) parts
  trees_deep (some c cs) xs ts rest past n seen earlier h quiet kept parts =
      let middle : Past = history grammar c past in
      let here : IsQuiet middle = all_quiet_before grammar meter cs middle quiet in
      subst (λ ys. Within n (piled (λ x. x) ys seen) (values_of grammar cs (value_of grammar c ∷ earlier))) (sym h.3)
      (trees_deep cs h.1 h.2 rest middle n (h.0 ∷ seen) (value_of grammar c ∷ earlier) h.5 quiet (omega (arith, kept, tree_kept c h.0 ts h.2 past h.4 here)) (omega (arith, kept, tree_deep c h.0 ts h.2 past h.4 here), parts))

-- the expressions and plain statements of an accepted program have at most 100 open parentheses
pub program_deep : (ts : List Token) (tree : RatProgram) → IsAccepted grammar meter ts (program tree) → deepest depth_of_unit tree.routines ≤ 100
program_deep ts tree accepted =
    let found = (accepted.value (program tree)).1 refl in
    let parse : Parse grammar ts = found.0 in
    let start : Past = Open productions.Whole ∷ [] in
    subst (λ v. deepest depth_of_unit (as_program v).routines ≤ 100) found.1
    (node_deep productions.Whole parse.trees 0 0 (omega arith) (trees_deep parse.trees (symbols productions.Whole) ts [] start 0 [] [] parse.derives (accepted.within parse) (omega arith) (omega arith, tt)))
