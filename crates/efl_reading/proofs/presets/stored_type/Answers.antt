-- A call, or no call.
use Rattle.std.proofs.Common.{sym, ap, subst, ◌∙◌, if◌then◌else◌}
use Rattle.efl_scope.specs.DataTypes.{NoType}
use Rattle.efl_types.specs.Types.{place_type}
use Rattle.efl_expressions.specs.TypeViews.{IsType}
use Rattle.efl_reading.proofs.presets.stored_type.Goals as goal

pub returns-then-place : goal.returns-then-place
returns-then-place c = λ f ss n p placed.
    subst (λ t. IsType f ss t c.nothing.result) (sym (ap (λ b. if b then NoType else place_type n p) (placed.call ∙ c.if-place.true))) (c.nothing.ensures f ss)

pub returns : goal.returns
returns c = λ f ss n p placed.
    subst (λ t. IsType f ss t c.args.place.now.kind) (sym (ap (λ b. if b then NoType else place_type n p) (placed.call ∙ c.if-place.false))) placed.kind
