-- What holds of each procedure whose text passes no limit holds of all procedures of a program that the parser accepts.
use Rattle.std.proofs.Common.{◌≡◌, List, [], ◌∷◌, None}
use Rattle.ground.specs.declared.token.Token.{Token}
use Rattle.grammar.specs.declared.language.Event.{Event}
use Rattle.grammar.specs.declared.language.Event.TheVariants.{Open}
use Rattle.grammar.specs.Grammar.{Trees, Offers, DerivesAll, values_of}
use Rattle.grammar.specs.Limits.{history_all, first_passing, IsAccepted}
use Rattle.grammar.specs.Stack.{piled}
use Rattle.efl_tree.specs.Syntax.{EflProcedure, EflProgram}
use Rattle.efl_parse_table.specs.declared.table.Terminal.{Terminal as ATerminal}
use Rattle.efl_parse_table.specs.declared.table.Nonterminal.{Nonterminal as ANonterminal}
use Rattle.efl_parse_table.specs.declared.table.Nonterminal.TheVariants as nonterminals
use Rattle.efl_parse_table.specs.declared.table.Production.{Production}
use Rattle.efl_parse_table.specs.declared.table.Production.TheVariants as productions
use Rattle.efl_parse_table.specs.Table.{symbols, nonterminal_of}
use Rattle.efl_parse_table.specs.Limits.{meter}
use Rattle.efl_parse_values.specs.Values.{Val, nothing, program}
use Rattle.efl_parse_values.specs.Parts.{as_procedure, as_procedures, as_program}
use Rattle.efl_parse.specs.Build.{build, build_lists, build_statements, build_records}
use Rattle.efl_parse.specs.Phrases.{build_expressions, build_acts, build_types, build_declarations}
use Rattle.efl_parse.specs.Efl.{grammar}
use Rattle.rat_room.proofs.TreeWeights.{Each}
use Rattle.rat_room.proofs.TreeValues.{AllGood, accepted_good}

abbrev pub Past : Type 0
Past = List (Event ATerminal Production)

module _ (Good : EflProcedure → Type 0)
    (text : (cs : Trees Token Production) (ts rest : List Token) (past : Past) → DerivesAll grammar cs (symbols productions.OneProcedure) ts rest →
    first_passing meter (history_all grammar cs (Open productions.OneProcedure ∷ past)) ≡ None → (n : ANonterminal) → Offers grammar n productions.OneProcedure ts →
    Good (as_procedure (build productions.OneProcedure (values_of grammar cs [])))) where
  -- the procedures of a value are good
  abbrev GoodProcedures : ANonterminal → Val → Type 0
  GoodProcedures nonterminals.Program v = Each Good (as_program v).procedures
  GoodProcedures nonterminals.Procedures v = Each Good (as_procedures v)
  GoodProcedures nonterminals.ProcedureText v = Good (as_procedure v)
  GoodProcedures _ v = Unit {0}

  keeps : (p : Production) (cs : Trees Token Production) (ts rest : List Token) (past : Past) (n : ANonterminal) → Offers grammar n p ts → DerivesAll grammar cs (symbols p) ts rest →
      first_passing meter (history_all grammar cs (Open p ∷ past)) ≡ None → AllGood nothing GoodProcedures (piled (λ x. x) (symbols p) []) (values_of grammar cs []) →
      GoodProcedures (nonterminal_of p) (build p (values_of grammar cs []))
  unfolding build build_lists build_statements build_records build_expressions build_acts build_types build_declarations
  keeps productions.Whole cs ts rest past n offers h quiet parts = parts.1.0
  keeps productions.BlankLine cs ts rest past n offers h quiet parts = parts.0
  keeps productions.MoreProcedures cs ts rest past n offers h quiet parts = (parts.1.0, parts.0)
  keeps productions.NoProcedure cs ts rest past n offers h quiet parts = tt
  keeps productions.OneProcedure cs ts rest past n offers h quiet parts = text cs ts rest past h quiet n offers
  keeps _ cs ts rest past n offers h quiet parts = tt

  whole : (vs : List Val) → AllGood nothing GoodProcedures (piled (λ x. x) (symbols productions.Whole) []) vs → GoodProcedures nonterminals.Program (build productions.Whole vs)
  unfolding build
  whole vs parts = parts.1.0

  pub procedures_good : (ts : List Token) (tree : EflProgram) → IsAccepted grammar meter ts (program tree) → Each Good tree.procedures
  procedures_good ts tree accepted = accepted_good grammar meter nothing GoodProcedures keeps whole ts (program tree) accepted
