-- The groups of a type where no name is a structure's.
use Rattle.std.proofs.Common.{false, sym, ap, ◌∙◌}
use Rattle.std.proofs.lemmas.Result.{on_ok_weaker}
use Rattle.efl_tree.specs.Views.{type_of, type_if_any}
use Rattle.efl_scope.specs.ScopeRules.{no_name}
use Rattle.efl_scope.specs.Sights.{Sight, type_seen, header_type_seen}
use Rattle.efl_scope.specs.WalkViews.{walk_of}
use Rattle.efl_scope.proofs.TreeLemmas.{sight_as}
use Rattle.efl_scope.proofs.procedures.see_header_type.Goals as goal

pub returns-in-Some : goal.returns-in-Some
returns-in-Some c =
    let w = walk_of c.args.walk.now in
    on_ok_weaker c.see_type.result
    (λ e. ap (λ (s : Sight). s.walk) (e ∙ ap (λ ns. type_seen false (type_of c.in-Some.kind) (sight_as ns w)) (c.new-kinds.ensures no_name))
    ∙ sym (ap (λ k. header_type_seen (type_if_any k) w) c.in-Some.is))
    c.see_type.ensures
