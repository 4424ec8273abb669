-- The names before have come.
use Rattle.std.proofs.Common.{◌≡◌, drop}
use Rattle.efl_tree.specs.Views.{vars_of}
use Rattle.efl_scope.specs.Parts.{names_of}
use Rattle.efl_scope.specs.Sights.{declaring_all}
use Rattle.efl_scope.specs.NameViews.{chain_of, declared_of}
use Rattle.efl_scope.proofs.names.declare_variables.Given as goal

abbrev pub invariant-loop-variable : goal.invariant-loop-variable
invariant-loop-variable l =
    declaring_all (chain_of l.others) (names_of (vars_of (drop l.variable-index l.list))) (declared_of l.declared)
    ≡ declaring_all (chain_of l.others) (names_of (vars_of l.list)) (declared_of l.initial.declared)
