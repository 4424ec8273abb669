-- A formal has none, and another variable those of its letter's type.
use Rattle.std.proofs.Common.{sym, ap, ◌∙◌, if◌then◌else◌}
use Rattle.efl_scope.specs.Scopes.{implicit_type, implied_of}
use Rattle.efl_scope.specs.ScopeRules.{holds}
use Rattle.efl_types.specs.Storage.{counted}
use Rattle.efl_storage.proofs.met.places.Goals as goal

pub returns-then-is_formal : goal.returns-then-is_formal
returns-then-is_formal c = λ f ss us u bs sees.
    sym (ap (λ b. if b then 0 else counted (implicit_type (implied_of u) c.args.name.now)) (ap (λ xs. holds xs c.args.name.now) sees.formals ∙ sym c.is_formal.ensures ∙ c.if-is_formal.true))

pub returns : goal.returns
returns c = λ f ss us u bs sees.
    let told = (c.implicit.ensures f ss (implied_of u) sees.letters).told in
    told.places
    ∙ sym (ap (λ b. if b then 0 else counted (implicit_type (implied_of u) c.args.name.now)) (ap (λ xs. holds xs c.args.name.now) sees.formals ∙ sym c.is_formal.ensures ∙ c.if-is_formal.false))
