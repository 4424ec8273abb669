-- A closed one, or an open one in its place.
use Rattle.std.proofs.Common.{◌&&◌, ◌||◌, ap, ◌∙◌}
use Rattle.efl_scope.specs.DataTypes.{is_closed}
use Rattle.efl_statements.proofs.sizes.is_bound.Goals as goal

pub returns : goal.returns
returns c =
    let may = c.args.is_formal && c.args.is_last in
    c.is_either.ensures ∙ ap (λ a. a || c.are_both.result) c.is_closed.ensures
    ∙ ap (λ d. is_closed c.args.bound || d) (c.are_both.ensures ∙ ap (λ m. m && c.is_open.result) c.are_both-may_be_open.ensures ∙ ap (λ o. may && o) c.is_open.ensures)
