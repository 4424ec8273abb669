-- So far the groups before are emitted.
use Rattle.std.proofs.Common.{◌≡◌, length}
use Rattle.std.specs.Vec.Iter.{into_iter_items, into_iter_len}
use Rattle.f66_tree.specs.Views.{formulas_of}
use Rattle.efl_routes.specs.Expressions.{intrinsic_name as name_of_intrinsic}
use Rattle.efl_typed_tree.specs.Views.{intrinsic_of}
use Rattle.efl_emit.specs.Names.{emission_of}
use Rattle.efl_emit.proofs.Grouping.{GatheredSoFar}
use Rattle.efl_emit.proofs.groups.set_gathered.Given as goal

abbrev pub invariant-loop-e : goal.invariant-loop-e
invariant-loop-e l = record {
  long : into_iter_len l.rest ≡ length (into_iter_items l.rest);
  so_far : GatheredSoFar l.place (name_of_intrinsic (intrinsic_of l.intrinsic)) l.number (formulas_of l.fn.list.items) (formulas_of (into_iter_items l.rest)) l.group.items (emission_of l.initial.out) (emission_of l.out);
}

abbrev pub decreases-loop-e : goal.decreases-loop-e
decreases-loop-e l = into_iter_len l.rest
