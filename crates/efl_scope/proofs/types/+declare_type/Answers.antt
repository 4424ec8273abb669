-- The structures within a shape, and then its own name.
use Rattle.std.proofs.Common.{ap, ◌∙◌}
use Rattle.std.proofs.lemmas.Result.{on_ok_weaker}
use Rattle.efl_scope.specs.Sights.{declaring_if, type_declared}
use Rattle.efl_scope.specs.NameViews.{chain_of, declared_of}
use Rattle.efl_scope.proofs.TreeLemmas.{shape_is}
use Rattle.efl_scope.proofs.types.+declare_type.Goals as goal

pub declare_type-returns-in_ok-declare_groups-in-Shape : goal.declare_type-returns-in_ok-declare_groups-in-Shape
declare_type-returns-in_ok-declare_groups-in-Shape t c =
    let out = chain_of c.args.others.now in
    on_ok_weaker c.declare_if_any.result
    (λ e. e ∙ ap (declaring_if out c.in-Shape.name) c.in_ok-declare_groups-in-Shape.ensures
    ∙ ap (λ x. type_declared out x (declared_of c.args.declared.now)) (shape_is c.args.kind.now c.in-Shape.name c.in-Shape.groups c.deref.result.now c.in-Shape.is c.deref.ensures.value))
    c.declare_if_any.ensures
