-- The statements of a body are those of its list.
use Rattle.std.proofs.Common.{ap, sym, ◌∙◌, ◌++◌}
use Rattle.efl_typed_tree.specs.Views.{stmts_of}
use Rattle.efl_emit.specs.Names.{emission_of}
use Rattle.efl_emit.proofs.Forms.{body_done}
use Rattle.efl_emit.proofs.body.emit_body.Goals as goal

pub returns : goal.returns
returns c =
    λ next. body_done c.args.naming.now 0 (stmts_of c.args.body.now) (emission_of c.new-out.result) (emission_of c.emit_list.new.out) c.new-out.ensures c.in_ok-emit_list.ensures next
    ∙ ap (λ ls. ls ++ next) (sym c.into_code.ensures)
