-- What statements, records and procedures give.
use Rattle.std.specs.Prelude.{ℕ, ℤ, Option, None, Some, List, [], codes, if◌then◌else◌}
use Rattle.ground.specs.declared.place.Place.{Place}
use Rattle.efl_tree.specs.declared.statement.LoopKind.{LoopKind}
use Rattle.efl_tree.specs.declared.statement.LoopKind.TheVariants as loops
use Rattle.efl_tree.specs.declared.statement.EflEdit.{EflEdit}
use Rattle.efl_tree.specs.declared.statement.EflEdit.TheVariants as edits
use Rattle.efl_tree.specs.Syntax.{EflExpr, EflDecl, EflStmt, Statement, EflKind, If, IfElse, Repeat, RepeatUntil, Break, Next, EflStmts, EflProcedure}
use Rattle.efl_parse_values.specs.Kinds as part
use Rattle.efl_parse_values.specs.Values.{Val, tok, stmt}
use Rattle.efl_parse_values.specs.Values as val
use Rattle.efl_parse_values.specs.Parts.{place_in, is_word}

-- statements without a label
abbrev pub placed : Val → EflKind → Val
placed v k = stmt (Statement [] (place_in v) k)

abbrev pub conditional : EflExpr → EflStmt → Val → EflKind
conditional e s (val.statement (part.stmt t)) = IfElse e s t
conditional e s _ = If e s

abbrev pub repetition : EflStmt → Val → EflKind
repetition s (val.expression (part.located p e)) = RepeatUntil s e p
repetition s _ = Repeat s

abbrev pub left : Val → ℕ → Option LoopKind → EflKind
left v n k = if is_word (codes "NEXT") v then Next n k else Break n k

abbrev pub loop_named : Val → LoopKind
loop_named v =
    if is_word (codes "WHILE") v then loops.While
    else (if is_word (codes "FOR") v then loops.For
    else (if is_word (codes "REPEAT") v then loops.Repeat else (if is_word (codes "DO") v then loops.Do else loops.Switch)))

abbrev pub loop_of : Val → Option LoopKind
loop_of (tok t) = Some (loop_named (tok t))
loop_of _ = None

abbrev pub width_edit : Val → ℤ → EflEdit
width_edit v z = if is_word (codes "I") v then edits.Whole z else edits.Truth z

-- a procedure with this header
abbrev pub made : Val → List EflDecl → EflStmts → Place → EflProcedure
made (val.procedure_part (part.header p t x xs)) ds ss q =
    record { result = t; name = x; formals = xs; declarations = ds; body = ss; place = p; finish = q }
made _ ds ss q = record { result = None; name = None; formals = []; declarations = ds; body = ss; place = q; finish = q }
