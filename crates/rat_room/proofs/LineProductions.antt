-- What each production of Ratfor makes of its parts becomes no more statements than they do, with four for each of its terminals.
use Rattle.std.proofs.Common.{◌≤◌, ℕ, ◌+◌, arith, List, Some, None, refl}
use Rattle.ground.specs.declared.token.Token.{Token}
use Rattle.grammar.specs.declared.language.Symbol.{Symbol}
use Rattle.grammar.specs.declared.language.Symbol.TheVariants.{Terminal, Nonterminal}
use Rattle.rat_parse_table.specs.declared.table.Terminal.{Terminal as ATerminal}
use Rattle.rat_parse_table.specs.declared.table.Nonterminal.{Nonterminal as ANonterminal}
use Rattle.rat_parse_table.specs.declared.table.Nonterminal.TheVariants as nonterminals
use Rattle.rat_parse_table.specs.declared.table.Production.{Production}
use Rattle.rat_parse_table.specs.declared.table.Production.TheVariants as productions
use Rattle.rat_parse_table.specs.Table.{symbols, nonterminal_of}
use Rattle.rat_parse_values.specs.Values.{Val, at, tok}
use Rattle.rat_parse_values.specs.Parts.{place_in, name_in, number_in, count_or_one, as_exprs, as_statements, as_clauses, as_formula, as_command, as_units, act_part, formula_part}
use Rattle.rat_parse_values.specs.Phrases.{looped, lengthened, pended, begun}
use Rattle.rat_parse_values.specs.Plain.{counted}
use Rattle.rat_parse_values.specs.Statements.{labelled_value}
use Rattle.rat_parse.specs.Build.{build}
use Rattle.rat_parse.specs.Ratfor.{grammar}
use Rattle.rat_room.proofs.Weights.{total}
use Rattle.rat_room.proofs.TreeWeights.{Each, Pays}
use Rattle.rat_room.proofs.NineParts.{WeighNine, part_at}
use Rattle.rat_room.proofs.NineParts.{nine as parts_nine}
use Rattle.rat_room.proofs.BeforeOthers.{looped_bare, lengthened_bare, pended_bare, begun_bare, counted_bare}
use Rattle.rat_room.proofs.PartWeights.{IsEven}
use Rattle.rat_room.proofs.ProductionWeights.{keeps}
use Rattle.rat_room.proofs.LineWeights as sizes
use Rattle.rat_room.proofs.LineWeights.{size}

-- what a symbol pays: four for a terminal and a condition, and one for what a plain statement begins with and for a label
abbrev pub line_credit : Symbol ATerminal ANonterminal → ℕ
line_credit (Terminal t) = 4
line_credit (Nonterminal nonterminals.Condition) = 4
line_credit (Nonterminal nonterminals.Plain) = 1
line_credit (Nonterminal nonterminals.Simple) = 1
line_credit (Nonterminal nonterminals.GoWords) = 1
line_credit (Nonterminal nonterminals.TypeWord) = 1
line_credit (Nonterminal nonterminals.AnyNumber) = 1
line_credit (Nonterminal _) = 0

nine : (vs : List Val) → WeighNine size vs
nine vs = parts_nine size refl vs

sized : (p : Production) (vs : List Val) → Each IsEven vs → size (build p vs) + line_credit (Nonterminal (nonterminal_of p)) ≤ total size vs + total line_credit (symbols p)
sized productions.Whole vs e = omega (arith, nine vs, sizes.units_size (at 1 vs))
sized productions.MoreUnits vs e = omega (arith, nine vs, sizes.with_routine_size (at 1 vs) (as_units (at 0 vs)), sizes.units_size (at 0 vs))
sized productions.HeadedUnit vs e = omega (arith, nine vs, sizes.statements_size (at 0 vs))
sized productions.TypedUnit vs e = omega (arith, nine vs, sizes.typed_unit_size (at 3 vs) (at 2 vs) (as_statements (at 0 vs)), sizes.statements_size (at 0 vs))
sized productions.MarkedMain vs e =
    omega (arith, nine vs, sizes.labelled_size (number_in (at 2 vs)) (at 1 vs), sizes.command_size (labelled_value (number_in (at 2 vs)) (at 1 vs)), sizes.statements_size (at 0 vs))
sized productions.PlainMain vs e = omega (arith, nine vs, sizes.command_size (at 1 vs), sizes.statements_size (at 0 vs))
sized productions.BodyMore vs e = omega (arith, nine vs, sizes.command_size (at 1 vs), sizes.statements_size (at 0 vs))
sized productions.StatementsMore vs e = omega (arith, nine vs, sizes.command_size (at 1 vs), sizes.statements_size (at 0 vs))
sized productions.Marked vs e = omega (arith, nine vs, sizes.labelled_size (number_in (at 1 vs)) (at 0 vs))
sized productions.Braces vs e = omega (arith, nine vs, sizes.statements_size (at 1 vs))
sized productions.IfStatement vs e = omega (arith, nine vs, sizes.command_size (at 1 vs), sizes.conditional_size (place_in (at 3 vs)) (as_formula (at 2 vs)) (as_command (at 1 vs)) (at 0 vs))
sized productions.WhileStatement vs e = omega (arith, nine vs, sizes.command_size (at 0 vs))
sized productions.ForStatement vs e = omega (arith, nine vs, sizes.any_one (act_part (at 6 vs)), sizes.any_one (formula_part (at 4 vs)), sizes.any_one (act_part (at 2 vs)), sizes.command_size (at 0 vs))
sized productions.RepeatStatement vs e = omega (arith, nine vs, sizes.command_size (at 1 vs), sizes.repetition_size (place_in (at 2 vs)) (as_command (at 1 vs)) (at 0 vs))
sized productions.DoStatement vs e = omega (arith, nine vs, sizes.command_size (at 0 vs))
sized productions.SwitchStatement vs e = omega (arith, nine vs, sizes.clauses_size (at 1 vs))
sized productions.LeaveStatement vs e = omega (arith, nine vs, sizes.left_size (at 2 vs) (place_in (at 2 vs)) (count_or_one (at 1 vs)))
sized productions.ReturnStatement vs e = omega (arith, nine vs, sizes.return_size (place_in (at 2 vs)) (formula_part (at 1 vs)))
sized productions.MoreClauses vs e = omega (arith, nine vs, sizes.clauses_size (at 0 vs), sizes.with_clause_size (at 1 vs) (as_clauses (at 0 vs)) (part_at IsEven tt 1 vs e))
sized productions.CaseClause vs e = omega (arith, nine vs, sizes.exprs_size (at 2 vs), sizes.chained_size (as_exprs (at 2 vs)), sizes.statements_size (at 0 vs))
sized productions.DefaultClause vs e = omega (arith, nine vs, sizes.statements_size (at 0 vs))
sized productions.SomeActuals vs e = omega (arith, nine vs, sizes.exprs_size (at 1 vs))
sized productions.MoreActual vs e = omega (arith, nine vs, sizes.exprs_size (at 0 vs))
sized productions.Loop vs e = omega (arith, nine vs, sizes.bare_size (looped (at 2 vs) (at 0 vs)) (looped_bare (at 2 vs) (at 0 vs)))
sized productions.LoopLoop vs e = omega (arith, nine vs, sizes.bare_size (lengthened (at 2 vs) (at 0 vs)) (lengthened_bare (at 2 vs) (at 0 vs)))
sized productions.LoopName vs e = omega (arith, nine vs, sizes.bare_size (begun (name_in (at 1 vs)) (at 0 vs)) (begun_bare (name_in (at 1 vs)) (at 0 vs)))
sized productions.LoopElement vs e = omega (arith, nine vs, sizes.bare_size (pended (Some (as_exprs (at 2 vs))) (at 0 vs)) (pended_bare (Some (as_exprs (at 2 vs))) (at 0 vs)))
sized productions.LoopScalar vs e = omega (arith, nine vs, sizes.bare_size (pended None (at 0 vs)) (pended_bare None (at 0 vs)))
sized productions.Alias vs e = omega (arith, nine vs, sizes.exprs_size (at 1 vs))
sized productions.MoreRef vs e = omega (arith, nine vs, sizes.exprs_size (at 0 vs))
sized productions.NumberDatum vs e = omega (arith, nine vs, sizes.bare_size (counted (at 1 vs) (at 0 vs)) (counted_bare (at 1 vs) (at 0 vs)))
sized productions.Subscripts vs e = omega (arith, nine vs, sizes.exprs_size (at 1 vs))
sized productions.MoreExpr vs e = omega (arith, nine vs, sizes.exprs_size (at 0 vs))
sized _ vs e = omega (arith, nine vs)

pub line_pays : (p : Production) (vs : List Val) → Each IsEven vs → Pays grammar size line_credit IsEven p vs
line_pays p vs e = record { weighs = sized p vs e; keeps = keeps p vs e }

pub line_token : (t : Token) → (size (tok t) + line_credit (Terminal (grammar.terminal_of t)) ≤ 4) × IsEven (tok t)
line_token t = (omega arith, tt)
