-- A name alone has the shape of an array exactly where it is one.
use Rattle.std.proofs.Common.{◌∙◌, ap, sym}
use mathlib.Core.Bool.{beq}
use Rattle.f66_tree.specs.Evaluation.{sort_of}
use Rattle.f66_tree.specs.Views.{formula_of}
use Rattle.f66_program.specs.Calls.{shape_of, takes_shape}
use Rattle.linker.specs.TypeViews.{context_typed}
use Rattle.linker.proofs.SortLemmas.{alone_taken}
use Rattle.linker.proofs.kinds.takes_shape.Goals as goal

pub returns-in-Ref : goal.returns-in-Ref
returns-in-Ref c =
    let d = context_typed c.args.unit.now in
    ap (beq c.args.array) c.is_array.ensures ∙ alone_taken c.args.array (sort_of d c.in-Ref.name) ∙ sym (ap (λ e. takes_shape c.args.array (shape_of d (formula_of e))) c.in-Ref.is)
