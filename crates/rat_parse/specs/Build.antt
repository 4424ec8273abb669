-- What each production makes of its parts.
use Rattle.std.specs.Prelude.{true, false, None, Some, List, [], ◌∷◌}
use Rattle.f66_tree.specs.Fields.{NoField, Single, Group, Chars, Slash}
use Rattle.f66_tree.specs.Syntax.{Int, Not, Constant, Named, SubUnit, FuncUnit, DataUnit, One, Assign, Goto, Computed, Invoke, Continue, Stop, Format, Dimension, Common, Equivalence, Preset, NoFormula}
use Rattle.f66_tree.specs.Views.{chained, listed}
use Rattle.rat_tree.specs.Syntax.{Empty, Block, While, For, Do, Switch, Return, Plain, NoCommand, AndCommand, NoClause, AndClause}
use Rattle.rat_parse_table.specs.declared.table.Production.{Production}
use Rattle.rat_parse_table.specs.declared.table.Production.TheVariants as productions
use Rattle.rat_parse_values.specs.Values.{Val, formula, located, formulas, joins, names, numbers, par, pars, range, declared, declareds, area, areas, groups, preset, presets, datum, data_values, entry, entries, field, fields, deed, command, commands, clause, clauses, heading, routine, routines, program, last_of, at}
use Rattle.rat_parse_values.specs.Parts.{place_in, name_in, text_in, integer_in, number_in, count_in, sign_in, operator_of, as_exprs, as_joins, as_names, as_numbers, as_pars, as_declareds, as_areas, as_groups, as_presets, as_data, as_entries, as_fields, as_statements, as_clauses, as_units, with_declared, with_area, with_preset, with_entry, with_field, with_clause, with_routine, with_datum, as_formula, as_par, as_act, as_command, as_header, as_range, formula_part, act_part, name_if_any, count_or_one, octal_if_any, step_or_one}
use Rattle.rat_parse_values.specs.Phrases.{joined, signed, applied, integer, truth, letter, looped, lengthened, pended, begun, worded, counted_field}
use Rattle.rat_parse_values.specs.Plain.{counted, transfer}
use Rattle.rat_parse_values.specs.Statements.{conditional, repetition, labelled_value, left, declares, typed_unit, main, placed}
use Rattle.f66_tree.specs.Syntax as f66

-- Parts are counted from the last one, from 0. A production that is not listed gives what its last part does.
abbrev pub build : Production → List Val → Val
build productions.Whole vs = program (record { routines = as_units (at 1 vs); finish = place_in (at 0 vs) })
build productions.MoreUnits vs = routines (with_routine (at 1 vs) (as_units (at 0 vs)))
build productions.NoUnit vs = routines []
build productions.HeadedUnit vs = routine (record { header = as_header (at 2 vs); body = as_statements (at 0 vs); place = place_in (at 2 vs) })
build productions.TypedUnit vs = routine (typed_unit (at 3 vs) (at 2 vs) (as_statements (at 0 vs)))
build productions.MarkedMain vs =
    routine (main (place_in (at 2 vs)) (AndCommand (as_command (labelled_value (number_in (at 2 vs)) (at 1 vs))) (as_statements (at 0 vs))))
build productions.PlainMain vs = routine (main (place_in (at 1 vs)) (AndCommand (as_command (at 1 vs)) (as_statements (at 0 vs))))
build productions.EmptyMain vs = routine (main (place_in (at 1 vs)) NoCommand)
build productions.SubroutineHeader vs = heading (place_in (at 2 vs)) (SubUnit (name_in (at 1 vs)) (as_names (at 0 vs)))
build productions.FunctionHeader vs = heading (place_in (at 2 vs)) (FuncUnit None (name_in (at 1 vs)) (as_names (at 0 vs)))
build productions.TypedFunction vs = heading (place_in (at 2 vs)) (FuncUnit None (name_in (at 1 vs)) (as_names (at 0 vs)))
build productions.BlockHeader vs = heading (place_in (at 1 vs)) DataUnit
build productions.TwoWords vs = at 1 vs
build productions.NoFormals vs = names []
build productions.FormalList vs = names (name_in (at 2 vs) ∷ as_names (at 1 vs))
build productions.MoreFormal vs = names (name_in (at 1 vs) ∷ as_names (at 0 vs))
build productions.NoMoreFormal vs = names []
build productions.BodyMore vs = commands (AndCommand (as_command (at 1 vs)) (as_statements (at 0 vs)))
build productions.BodyEnd vs = commands NoCommand
build productions.StatementsMore vs = commands (AndCommand (as_command (at 1 vs)) (as_statements (at 0 vs)))
build productions.StatementsDone vs = commands NoCommand
build productions.Marked vs = labelled_value (number_in (at 1 vs)) (at 0 vs)
build productions.TypedBare vs = command (place_in (at 2 vs)) (declares (at 2 vs) (at 1 vs))
build productions.Empty vs = placed (place_in (at 0 vs)) Empty
build productions.Braces vs = placed (place_in (at 2 vs)) (λ p. Block p (as_statements (at 1 vs)))
build productions.IfStatement vs = placed (place_in (at 3 vs)) (λ p. conditional p (as_formula (at 2 vs)) (as_command (at 1 vs)) (at 0 vs))
build productions.WhileStatement vs = placed (place_in (at 2 vs)) (λ p. While p (as_formula (at 1 vs)) (as_command (at 0 vs)))
build productions.ForStatement vs =
    placed (place_in (at 8 vs)) (λ p. For p (act_part (at 6 vs)) (formula_part (at 4 vs)) (act_part (at 2 vs)) (as_command (at 0 vs)))
build productions.RepeatStatement vs = placed (place_in (at 2 vs)) (λ p. repetition p (as_command (at 1 vs)) (at 0 vs))
build productions.DoStatement vs =
    placed (place_in (at 4 vs)) (λ p. Do p (name_in (at 3 vs)) (as_range (at 1 vs)).first (as_range (at 1 vs)).last (as_range (at 1 vs)).step (as_command (at 0 vs)))
build productions.SwitchStatement vs = placed (place_in (at 6 vs)) (λ p. Switch p (as_formula (at 5 vs)) (as_clauses (at 1 vs)))
build productions.LeaveStatement vs = placed (place_in (at 2 vs)) (λ p. left (at 2 vs) p (count_or_one (at 1 vs)))
build productions.ReturnStatement vs = placed (place_in (at 2 vs)) (λ p. Return p (formula_part (at 1 vs)))
build productions.PlainStatement vs = placed (place_in (at 1 vs)) (λ p. Plain None p (as_act (at 1 vs)))
build productions.Condition vs = at 1 vs
build productions.UntilTest vs = located (place_in (at 2 vs)) (as_formula (at 1 vs))
build productions.MoreClauses vs = clauses (with_clause (at 1 vs) (as_clauses (at 0 vs)))
build productions.NoClause vs = clauses NoClause
build productions.CaseClause vs =
    clause (AndClause (chained (as_formula (at 3 vs) ∷ as_exprs (at 2 vs))) false (as_statements (at 0 vs)) (place_in (at 4 vs)))
build productions.DefaultClause vs = clause (AndClause NoFormula true (as_statements (at 0 vs)) (place_in (at 2 vs)))
build productions.GoPlain vs = deed (place_in (at 1 vs)) (as_act (at 0 vs))
build productions.ContinuePlain vs = deed (place_in (at 0 vs)) Continue
build productions.StopPlain vs = deed (place_in (at 1 vs)) (Stop (octal_if_any (at 0 vs)))
build productions.TransferPlain vs =
    deed (place_in (at 6 vs)) (transfer (at 6 vs) (as_par (at 4 vs)) (number_in (at 2 vs)) (listed (as_entries (at 0 vs))))
build productions.FormatPlain vs = deed (place_in (at 3 vs)) (Format (as_fields (at 1 vs)))
build productions.DimensionPlain vs = deed (place_in (at 1 vs)) (Dimension (as_declareds (at 0 vs)))
build productions.CommonPlain vs = deed (place_in (at 2 vs)) (Common (with_area (at 1 vs) (as_areas (at 0 vs))))
build productions.EquivalencePlain vs = deed (place_in (at 2 vs)) (Equivalence (as_exprs (at 1 vs) ∷ as_groups (at 0 vs)))
build productions.DataPlain vs = deed (place_in (at 2 vs)) (Preset (with_preset (at 1 vs) (as_presets (at 0 vs))))
build productions.Assignment vs = deed (place_in (at 2 vs)) (Assign (as_formula (at 2 vs)) (as_formula (at 0 vs)))
build productions.Invocation vs = deed (place_in (at 2 vs)) (Invoke (name_in (at 1 vs)) (chained (as_exprs (at 0 vs))))
build productions.GoToWords vs = at 1 vs
build productions.OneTarget vs = deed (place_in (at 0 vs)) (Goto (number_in (at 0 vs)))
build productions.ComputedTarget vs = deed (place_in (at 5 vs)) (Computed (number_in (at 4 vs) ∷ as_numbers (at 3 vs)) (name_in (at 0 vs)))
build productions.MoreNumber vs = numbers (number_in (at 1 vs) ∷ as_numbers (at 0 vs))
build productions.NoMoreNumber vs = numbers []
build productions.SomeActuals vs = formulas (as_formula (at 2 vs) ∷ as_exprs (at 1 vs))
build productions.NoActuals vs = formulas []
build productions.LetterActual vs = letter (at 0 vs)
build productions.MoreActual vs = formulas (as_formula (at 1 vs) ∷ as_exprs (at 0 vs))
build productions.NoMoreActual vs = formulas []
build productions.NumberPar vs = par (Constant (integer_in (at 0 vs)))
build productions.NamePar vs = par (Named (name_in (at 0 vs)))
build productions.Range vs = range (record { first = as_par (at 3 vs); last = as_par (at 1 vs); step = step_or_one (at 0 vs) })
build productions.SomeEntries vs = entries (with_entry (at 1 vs) (as_entries (at 0 vs)))
build productions.NoEntries vs = entries []
build productions.ItemEntry vs = entry (One (as_formula (at 0 vs)))
build productions.MoreEntry vs = entries (with_entry (at 1 vs) (as_entries (at 0 vs)))
build productions.NoMoreEntry vs = entries []
build productions.Loop vs = looped (at 2 vs) (at 0 vs)
build productions.LoopLoop vs = lengthened (at 2 vs) (at 0 vs)
build productions.LoopName vs = begun (name_in (at 1 vs)) (at 0 vs)
build productions.LoopRange vs = at 1 vs
build productions.LoopElement vs = pended (Some (as_exprs (at 2 vs))) (at 0 vs)
build productions.LoopScalar vs = pended None (at 0 vs)
build productions.DeclaredList vs = declareds (with_declared (at 1 vs) (as_declareds (at 0 vs)))
build productions.MoreDeclared vs = declareds (with_declared (at 1 vs) (as_declareds (at 0 vs)))
build productions.NoMoreDeclared vs = declareds []
build productions.Declared vs = declared (record { name = name_in (at 1 vs); sizes = as_pars (at 0 vs) })
build productions.SomeSizes vs = pars (as_par (at 2 vs) ∷ as_pars (at 1 vs))
build productions.NoSizes vs = pars []
build productions.MorePar vs = pars (as_par (at 1 vs) ∷ as_pars (at 0 vs))
build productions.NoMorePar vs = pars []
build productions.BlankFirst vs = area (record { name = None; list = as_declareds (at 0 vs) })
build productions.Area vs = area (record { name = name_if_any (at 2 vs); list = as_declareds (at 0 vs) })
build productions.MoreArea vs = areas (with_area (at 1 vs) (as_areas (at 0 vs)))
build productions.NoMoreArea vs = areas []
build productions.Alias vs = formulas (as_formula (at 4 vs) ∷ as_formula (at 2 vs) ∷ as_exprs (at 1 vs))
build productions.MoreAlias vs = groups (as_exprs (at 1 vs) ∷ as_groups (at 0 vs))
build productions.NoMoreAlias vs = groups []
build productions.MoreRef vs = formulas (as_formula (at 1 vs) ∷ as_exprs (at 0 vs))
build productions.NoMoreRef vs = formulas []
build productions.Preset vs =
    preset (record { places = as_formula (at 5 vs) ∷ as_exprs (at 4 vs); values = with_datum (at 2 vs) (as_data (at 1 vs)) })
build productions.MorePreset vs = presets (with_preset (at 1 vs) (as_presets (at 0 vs)))
build productions.NoMorePreset vs = presets []
build productions.NumberDatum vs = counted (at 1 vs) (at 0 vs)
build productions.OtherDatum vs = datum 1 (as_formula (at 0 vs))
build productions.MoreDatum vs = data_values (with_datum (at 1 vs) (as_data (at 0 vs)))
build productions.NoMoreDatum vs = data_values []
build productions.NumberConstant vs = integer (at 0 vs)
build productions.SignedNumber vs = formula (signed (at 1 vs) (Int (integer_in (at 0 vs))))
build productions.TruthConstant vs = truth (at 0 vs)
build productions.LetterConstant vs = letter (at 0 vs)
build productions.EditFirst vs = fields (with_field (at 1 vs) (as_fields (at 0 vs)))
build productions.SlashFirst vs = fields (Single 1 Slash (as_fields (at 0 vs)))
build productions.NoFields vs = fields NoField
build productions.EditSlash vs = fields (Single 1 Slash (as_fields (at 0 vs)))
build productions.EditDone vs = fields NoField
build productions.NextEdit vs = fields (with_field (at 1 vs) (as_fields (at 0 vs)))
build productions.NextSlash vs = fields (Single 1 Slash (as_fields (at 0 vs)))
build productions.SlashEdit vs = fields (with_field (at 1 vs) (as_fields (at 0 vs)))
build productions.SlashSlash vs = fields (Single 1 Slash (as_fields (at 0 vs)))
build productions.SlashDone vs = fields NoField
build productions.CountedEdit vs = field (counted_field (count_in (at 1 vs)) (at 0 vs))
build productions.WordEdit vs = field (worded 1 (name_in (at 0 vs)))
build productions.GroupEdit vs = field (Group 1 (as_fields (at 1 vs)))
build productions.LetterEdit vs = field (Single 1 (Chars (text_in (at 0 vs))))
build productions.CharsEdit vs = field (Single 1 (Chars (text_in (at 0 vs))))
build productions.CountedGroup vs = at 1 vs
build productions.Expr vs = formula (joined (as_formula (at 1 vs)) (as_joins (at 0 vs)))
build productions.OrMore vs = joins ((operator_of (sign_in (at 2 vs)), as_formula (at 1 vs)) ∷ as_joins (at 0 vs))
build productions.OrDone vs = joins []
build productions.Conjunction vs = formula (joined (as_formula (at 1 vs)) (as_joins (at 0 vs)))
build productions.AndMore vs = joins ((operator_of (sign_in (at 2 vs)), as_formula (at 1 vs)) ∷ as_joins (at 0 vs))
build productions.AndDone vs = joins []
build productions.Negated vs = formula (Not (as_formula (at 0 vs)))
build productions.Relational vs = formula (joined (as_formula (at 1 vs)) (as_joins (at 0 vs)))
build productions.Compared vs = joins ((operator_of (sign_in (at 1 vs)), as_formula (at 0 vs)) ∷ [])
build productions.NotCompared vs = joins []
build productions.Sum vs = formula (joined (as_formula (at 1 vs)) (as_joins (at 0 vs)))
build productions.SignedTerm vs = formula (signed (at 1 vs) (as_formula (at 0 vs)))
build productions.SumMore vs = joins ((operator_of (sign_in (at 2 vs)), as_formula (at 1 vs)) ∷ as_joins (at 0 vs))
build productions.SumDone vs = joins []
build productions.Term vs = formula (joined (as_formula (at 1 vs)) (as_joins (at 0 vs)))
build productions.TimesMore vs = joins ((operator_of (sign_in (at 2 vs)), as_formula (at 1 vs)) ∷ as_joins (at 0 vs))
build productions.OverMore vs = joins ((operator_of (sign_in (at 2 vs)), as_formula (at 1 vs)) ∷ as_joins (at 0 vs))
build productions.TermDone vs = joins []
build productions.Factor vs = formula (joined (as_formula (at 1 vs)) (as_joins (at 0 vs)))
build productions.Raised vs = joins ((operator_of (sign_in (at 1 vs)), as_formula (at 0 vs)) ∷ [])
build productions.NotRaised vs = joins []
build productions.NumberPrime vs = integer (at 0 vs)
build productions.TruthPrime vs = truth (at 0 vs)
build productions.GroupPrime vs = formula (f66.Group (as_formula (at 1 vs)))
build productions.Ref vs = located (place_in (at 1 vs)) (applied (name_in (at 1 vs)) (at 0 vs))
build productions.Subscripts vs = formulas (as_formula (at 2 vs) ∷ as_exprs (at 1 vs))
build productions.MoreExpr vs = formulas (as_formula (at 1 vs) ∷ as_exprs (at 0 vs))
build productions.NoMoreExpr vs = formulas []
build _ vs = last_of vs
