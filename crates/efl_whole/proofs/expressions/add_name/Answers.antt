-- A name with subscripts stands before parentheses.
use Rattle.std.proofs.Common.{sym, ap, ◌∙◌}
use Rattle.std.proofs.lemmas.Result.{on_ok_weaker}
use Rattle.efl_whole.specs.Calls.{using}
use Rattle.efl_whole.specs.CallViews.{calls_of, site_of}
use Rattle.efl_whole.proofs.UseLemmas.{some_named}
use Rattle.efl_whole.proofs.expressions.add_name.Goals as goal

pub returns : goal.returns
returns c =
    on_ok_weaker c.apply.result
    (λ e. e ∙ sym (ap (λ u. using (site_of c.args.site.now) c.args.place u (calls_of c.args.calls.now))
    (some_named c.args.name.now c.args.subscripts.now c.is_empty.result c.is_empty.ensures c.if-is_empty.false)))
    c.apply.ensures
