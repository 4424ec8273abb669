-- A clause of nothing.
use Rattle.std.proofs.Common.{◌∙◌, ap, false, []}
use Rattle.efl_tree.specs.Syntax.{AndCase}
use Rattle.efl_tree.specs.Views.{stmts_of}
use Rattle.efl_parse_values.specs.Parts.{nowhere}
use Rattle.efl_parse_values.proofs.statements.empty_clause.Goals as goal

pub returns : goal.returns
returns c =
    c.clause.ensures
    ∙ (ap (λ tests. AndCase tests false (stmts_of c.new-2.result.items) nowhere) c.new.ensures.items
    ∙ ap (λ body. AndCase [] false (stmts_of body) nowhere) c.new-2.ensures.items)
