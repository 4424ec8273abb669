-- So far the tests of the expressions before are put.
use Rattle.std.proofs.Common.{◌≡◌, List, ◌++◌, length}
use Rattle.std.specs.Vec.Iter.{into_iter_items, into_iter_len}
use Rattle.f66_tree.specs.Syntax.{Line}
use Rattle.f66_tree.specs.Views.{formulas_of, lines_of}
use Rattle.rat_lower.specs.Code.{each_test}
use Rattle.rat_lower.proofs.lines.put_cases.Given as goal

abbrev pub invariant-loop-e : goal.invariant-loop-e
invariant-loop-e l = record {
  long : into_iter_len l.e-iterator ≡ length (into_iter_items l.e-iterator);
  so_far :
      (rest : List Line) →
      lines_of l.code.items ++ each_test l.maker.spare l.place (formulas_of (into_iter_items l.e-iterator)) l.label rest ≡ lines_of l.initial.code.items ++ each_test l.maker.spare l.place (formulas_of l.fn.cases.items) l.label rest;
}
