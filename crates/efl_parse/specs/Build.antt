-- What each production makes of its parts.
use Rattle.std.specs.Prelude.{true, false, None, Some, List, [], ◌∷◌}
use Rattle.efl_tree.specs.declared.statement.EflEdit.TheVariants as edits
use Rattle.efl_tree.specs.Syntax.{Implicit, NoStmt, AndStmt, Empty, Block, Act, While, For, Do, Switch, Return, Goto, Write, Read, Value, Chars, Take, NoCase, AndCase}
use Rattle.efl_tree.specs.Syntax as efl
use Rattle.efl_parse_table.specs.declared.table.Production.{Production}
use Rattle.efl_parse_table.specs.declared.table.Production.TheVariants as productions
use Rattle.efl_parse_values.specs.Kinds.{Declares}
use Rattle.efl_parse_values.specs.Values.{Val, at, nothing, located, names, integers, leaving, edit, write_item, write_items, read_item, read_items, stmts, clause, clauses, lists, opening, heading, header, procedure, procedures, program}
use Rattle.efl_parse_values.specs.Parts.{place_in, name_in, text_in, integer_in, number_in, count_or_one, as_expr, expr_part, as_path, as_names, as_integers, range_in, as_ranges, count_in, loop_in, type_in, as_vars, decl_in, edit_in, write_item_in, as_write_items, read_item_in, as_read_items, as_stmt, as_stmts, with_clause, as_clauses, decls_in, body_in, heading_name, as_procedure, as_procedures}
use Rattle.efl_parse_statements.specs.Lists.{shared, begun, begins, opened}
use Rattle.efl_parse_statements.specs.Statements.{placed, conditional, repetition, left, loop_of, width_edit, made}
use Rattle.efl_parse.specs.Phrases.{build_expressions}

-- records
unfoldable pub build_records : Production → List Val → Val
build_records productions.MoreWrite vs = write_items (write_item_in (at 1 vs) ∷ as_write_items (at 0 vs))
build_records productions.NoMoreWrite vs = write_items []
build_records productions.ValueItem vs = write_item (Value (as_expr (at 2 vs)) (edit_in (at 0 vs)))
build_records productions.SkipWrite vs = write_item (efl.WriteItem.Skip (integer_in (at 1 vs)))
build_records productions.CharsItem vs = write_item (Chars (text_in (at 0 vs)))
build_records productions.MoreRead vs = read_items (read_item_in (at 1 vs) ∷ as_read_items (at 0 vs))
build_records productions.NoMoreRead vs = read_items []
build_records productions.TakeItem vs = read_item (Take (as_path (at 2 vs)) (edit_in (at 0 vs)))
build_records productions.SkipRead vs = read_item (efl.ReadItem.Skip (integer_in (at 1 vs)))
build_records productions.WidthEdit vs = edit (width_edit (at 3 vs) (integer_in (at 1 vs)))
build_records productions.CharEdit vs = edit edits.Letter
build_records p vs = build_expressions p vs

-- statements
unfoldable pub build_statements : Production → List Val → Val
build_statements productions.Empty vs = placed (at 0 vs) Empty
build_statements productions.Braces vs = placed (at 2 vs) (Block (decls_in (at 1 vs)) (body_in (at 1 vs)))
build_statements productions.StepStatement vs = placed (at 1 vs) (Act (as_expr (at 1 vs)))
build_statements productions.IfStatement vs = placed (at 3 vs) (conditional (as_expr (at 2 vs)) (as_stmt (at 1 vs)) (at 0 vs))
build_statements productions.WhileStatement vs = placed (at 2 vs) (While (as_expr (at 1 vs)) (as_stmt (at 0 vs)))
build_statements productions.ForStatement vs =
    placed (at 8 vs) (For (expr_part (at 6 vs)) (expr_part (at 4 vs)) (expr_part (at 2 vs)) (as_stmt (at 0 vs)))
build_statements productions.RepeatStatement vs = placed (at 2 vs) (repetition (as_stmt (at 1 vs)) (at 0 vs))
build_statements productions.DoStatement vs =
    placed (at 7 vs) (Do (name_in (at 6 vs)) (as_expr (at 4 vs)) (as_expr (at 2 vs)) (expr_part (at 1 vs)) (as_stmt (at 0 vs)))
build_statements productions.SwitchStatement vs = placed (at 6 vs) (Switch (as_expr (at 5 vs)) (as_clauses (at 1 vs)))
build_statements productions.LeaveStatement vs = placed (at 2 vs) (left (at 2 vs) (count_in (at 1 vs)) (loop_in (at 1 vs)))
build_statements productions.ReturnStatement vs = placed (at 2 vs) (Return (expr_part (at 1 vs)))
build_statements productions.GotoStatement vs = placed (at 2 vs) (Goto (name_in (at 1 vs)))
build_statements productions.GoToStatement vs = placed (at 3 vs) (Goto (name_in (at 1 vs)))
build_statements productions.WriteStatement vs = placed (at 5 vs) (Write (expr_part (at 3 vs)) (as_write_items (at 2 vs)))
build_statements productions.ReadStatement vs = placed (at 5 vs) (Read (expr_part (at 3 vs)) (as_read_items (at 2 vs)))
build_statements productions.NoElse vs = nothing
build_statements productions.UntilTest vs = located (place_in (at 2 vs)) (as_expr (at 1 vs))
build_statements productions.NoUntil vs = nothing
build_statements productions.MoreClauses vs = clauses (with_clause (at 1 vs) (as_clauses (at 0 vs)))
build_statements productions.NoClause vs = clauses NoCase
build_statements productions.CaseClause vs =
    clause (AndCase (integer_in (at 3 vs) ∷ as_integers (at 2 vs)) false (as_stmts (at 0 vs)) (place_in (at 4 vs)))
build_statements productions.DefaultClause vs = clause (AndCase [] true (as_stmts (at 0 vs)) (place_in (at 2 vs)))
build_statements productions.MoreIntegral vs = integers (integer_in (at 1 vs) ∷ as_integers (at 0 vs))
build_statements productions.NoMoreIntegral vs = integers []
build_statements productions.CountFirst vs = leaving (number_in (at 1 vs)) (loop_of (at 0 vs))
build_statements productions.KindFirst vs = leaving (count_or_one (at 0 vs)) (loop_of (at 1 vs))
build_statements productions.BareLeaving vs = leaving 1 None
build_statements productions.NoKind vs = nothing
build_statements productions.NoCount vs = nothing
build_statements productions.NoOutcome vs = nothing
build_statements p vs = build_records p vs

-- lists of declarations and statements, and statements that begin with a name
unfoldable pub build_lists : Production → List Val → Val
build_lists productions.OuterImplicit vs =
    lists (record { kind = Implicit (range_in (at 4 vs) ∷ as_ranges (at 3 vs)) (type_in (at 1 vs)); place = place_in (at 6 vs) } ∷ decls_in (at 0 vs)) (body_in (at 0 vs))
build_lists productions.OuterCommon vs =
    lists (record { kind = shared (name_in (at 3 vs)) (at 1 vs); place = place_in (at 5 vs) } ∷ decls_in (at 0 vs)) (body_in (at 0 vs))
build_lists productions.OuterDeclaration vs = lists (record { kind = decl_in (at 1 vs); place = place_in (at 1 vs) } ∷ decls_in (at 0 vs)) (body_in (at 0 vs))
build_lists productions.OuterNamed vs = opened (place_in (at 1 vs)) (name_in (at 1 vs)) (at 0 vs)
build_lists productions.OuterStatement vs = lists [] (AndStmt (as_stmt (at 1 vs)) (as_stmts (at 0 vs)))
build_lists productions.OuterDone vs = lists [] NoStmt
build_lists productions.OuterVariables vs = opening (Declares (as_vars (at 2 vs)) (decls_in (at 0 vs)) (body_in (at 0 vs)))
build_lists productions.OuterItem vs = opening (begins (at 1 vs) (as_stmts (at 0 vs)))
build_lists productions.InnerDeclaration vs = lists (record { kind = decl_in (at 1 vs); place = place_in (at 1 vs) } ∷ decls_in (at 0 vs)) (body_in (at 0 vs))
build_lists productions.InnerNamed vs = opened (place_in (at 1 vs)) (name_in (at 1 vs)) (at 0 vs)
build_lists productions.InnerStatement vs = lists [] (AndStmt (as_stmt (at 1 vs)) (as_stmts (at 0 vs)))
build_lists productions.InnerDone vs = lists [] NoStmt
build_lists productions.InnerVariables vs = opening (Declares (as_vars (at 2 vs)) (decls_in (at 0 vs)) (body_in (at 0 vs)))
build_lists productions.InnerItem vs = opening (begins (at 1 vs) (as_stmts (at 0 vs)))
build_lists productions.StatementsMore vs = stmts (AndStmt (as_stmt (at 1 vs)) (as_stmts (at 0 vs)))
build_lists productions.StatementsDone vs = stmts NoStmt
build_lists productions.ListedNamed vs = begun (place_in (at 1 vs)) (name_in (at 1 vs)) (at 0 vs)
build_lists productions.StatementAct vs = begun (place_in (at 2 vs)) (name_in (at 2 vs)) (at 1 vs)
build_lists p vs = build_statements p vs

-- programs, procedures and headers
unfoldable pub build : Production → List Val → Val
build productions.Whole vs = program (record { procedures = as_procedures (at 1 vs); finish = place_in (at 0 vs) })
build productions.MoreProcedures vs = procedures (as_procedure (at 1 vs) ∷ as_procedures (at 0 vs))
build productions.NoProcedure vs = procedures []
build productions.OneProcedure vs = procedure (made (at 4 vs) (decls_in (at 2 vs)) (body_in (at 2 vs)) (place_in (at 1 vs)))
build productions.TypedHeader vs = header (place_in (at 3 vs)) (Some (type_in (at 3 vs))) (Some (name_in (at 1 vs))) (as_names (at 0 vs))
build productions.PlainHeader vs = header (place_in (at 1 vs)) None (heading_name (at 0 vs)) (as_names (at 0 vs))
build productions.NamedHeading vs = heading (Some (name_in (at 1 vs))) (as_names (at 0 vs))
build productions.MainHeading vs = heading None []
build productions.SomeFormals vs = at 1 vs
build productions.NoFormals vs = names []
build productions.SomeNames vs = names (name_in (at 1 vs) ∷ as_names (at 0 vs))
build productions.NoNames vs = names []
build productions.MoreFormal vs = names (name_in (at 1 vs) ∷ as_names (at 0 vs))
build productions.NoMoreFormal vs = names []
build p vs = build_lists p vs
