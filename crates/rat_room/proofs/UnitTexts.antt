-- What holds of each unit whose text passes no limit holds of all units of a program that the parser accepts.
use Rattle.std.proofs.Common.{◌≡◌, List, [], ◌∷◌, None}
use Rattle.ground.specs.declared.token.Token.{Token}
use Rattle.grammar.specs.declared.language.Event.{Event}
use Rattle.grammar.specs.declared.language.Event.TheVariants.{Open}
use Rattle.grammar.specs.Grammar.{Trees, Offers, DerivesAll, values_of}
use Rattle.grammar.specs.Limits.{history_all, first_passing, IsAccepted}
use Rattle.grammar.specs.Stack.{piled}
use Rattle.rat_tree.specs.Syntax.{RatRoutine, RatProgram}
use Rattle.rat_parse_table.specs.declared.table.Terminal.{Terminal as ATerminal}
use Rattle.rat_parse_table.specs.declared.table.Nonterminal.{Nonterminal as ANonterminal}
use Rattle.rat_parse_table.specs.declared.table.Nonterminal.TheVariants as nonterminals
use Rattle.rat_parse_table.specs.declared.table.Production.{Production}
use Rattle.rat_parse_table.specs.declared.table.Production.TheVariants as productions
use Rattle.rat_parse_table.specs.Table.{symbols, nonterminal_of}
use Rattle.rat_parse_table.specs.Limits.{meter}
use Rattle.rat_parse_values.specs.Kinds as part
use Rattle.rat_parse_values.specs.Values.{Val, nothing, program, at}
use Rattle.rat_parse_values.specs.Values as val
use Rattle.rat_parse_values.specs.Parts.{as_units, as_program, with_routine}
use Rattle.rat_parse.specs.Build.{build}
use Rattle.rat_parse.specs.Ratfor.{grammar}
use Rattle.rat_room.proofs.TreeWeights.{Each}
use Rattle.rat_room.proofs.TreeValues.{AllGood, accepted_good}

abbrev pub Past : Type 0
Past = List (Event ATerminal Production)

module _ (Good : RatRoutine → Type 0)
    (text : (cs : Trees Token Production) (ts rest : List Token) (past : Past) → DerivesAll grammar cs (symbols productions.OneUnit) ts rest →
    first_passing meter (history_all grammar cs (Open productions.OneUnit ∷ past)) ≡ None → Each Good (with_routine (build productions.OneUnit (values_of grammar cs [])) [])) where
  -- the units of a value are good
  abbrev GoodUnits : ANonterminal → Val → Type 0
  GoodUnits nonterminals.Program v = Each Good (as_program v).routines
  GoodUnits nonterminals.Units v = Each Good (as_units v)
  GoodUnits nonterminals.Unit v = Each Good (with_routine v [])
  GoodUnits _ v = Unit {0}

  good_with : (v : Val) (us : List RatRoutine) → Each Good (with_routine v []) → Each Good us → Each Good (with_routine v us)
  good_with (val.unit (part.routine u)) us h g = (h.0, g)
  good_with _ us h g = g

  keeps : (p : Production) (cs : Trees Token Production) (ts rest : List Token) (past : Past) (n : ANonterminal) → Offers grammar n p ts → DerivesAll grammar cs (symbols p) ts rest →
      first_passing meter (history_all grammar cs (Open p ∷ past)) ≡ None → AllGood nothing GoodUnits (piled (λ x. x) (symbols p) []) (values_of grammar cs []) →
      GoodUnits (nonterminal_of p) (build p (values_of grammar cs []))
  keeps productions.Whole cs ts rest past n offers h quiet parts = parts.1.0
  keeps productions.BlankLine cs ts rest past n offers h quiet parts = parts.0
  keeps productions.MoreUnits cs ts rest past n offers h quiet parts =
      good_with (at 1 (values_of grammar cs [])) (as_units (at 0 (values_of grammar cs []))) parts.1.0 parts.0
  keeps productions.NoUnit cs ts rest past n offers h quiet parts = tt
  keeps productions.OneUnit cs ts rest past n offers h quiet parts = text cs ts rest past h quiet
  keeps _ cs ts rest past n offers h quiet parts = tt

  pub units_good : (ts : List Token) (tree : RatProgram) → IsAccepted grammar meter ts (program tree) → Each Good tree.routines
  units_good ts tree accepted = accepted_good grammar meter nothing GoodUnits keeps (λ vs parts. parts.1.0) ts (program tree) accepted
