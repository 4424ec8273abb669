-- An array, or a name that is no intrinsic function's.
use Rattle.std.proofs.Common.{◌≡◌, ◌∙◌, true, sym, arith}
use Rattle.f66_tree.specs.Evaluation.{is_array, sort_of}
use Rattle.linker.specs.TypeViews.{context_typed}
use Rattle.linker.proofs.SortLemmas.{plain_kind, array_kind}
use Rattle.linker.proofs.kinds.kind_applied.Goals as goal
use Rattle.linker.proofs.kinds.kind_applied.Goals.{else-not-is_array-via-then-not-is_array+else-is_intrinsic, else-not-is_array-via-else-not-is_array}

pub returns-else-not-is_array : goal.returns-else-not-is_array
returns-else-not-is_array c =
    let d = context_typed c.args.unit.now in
    let x = c.args.name.now in
    c.kind_of.ensures ∙ elim c.else-not-is_array.branch [
      | else-not-is_array-via-then-not-is_array+else-is_intrinsic w ↦ sym (plain_kind d x (sym w.is_intrinsic.ensures ∙ w.if-is_intrinsic.false))
      | else-not-is_array-via-else-not-is_array w ↦
          let array : is_array (sort_of d x) ≡ true = grind (arith, c.is_array.ensures, w.if-not-is_array.false) in
          sym (array_kind d x (sort_of d x) array)
    ]
