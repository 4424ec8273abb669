-- The names of the list are those of the statement.
use Rattle.std.proofs.Common.{map, ap, ◌∙◌}
use Rattle.f66_tree.specs.Views.{declared_of}
use Rattle.f66_names.specs.DeclarationViews.{acts_in}
use Rattle.unit_rules.specs.Listed.{common_in}
use Rattle.f66_tree.specs.Views.{act_of}
use Rattle.unit_rules.proofs.AgainLemmas.{again_seen}
use Rattle.unit_rules.proofs.again.recommons_in.Goals as goal

pub returns : goal.returns
returns c =
    c.in_ok-again.ensures
    ∙ again_seen (acts_in c.args.names.now.declarations) c.args.i (λ d. declared_of d.now) c.deref.result.now (common_in (act_of c.args.kind.now))
    (ap (map (λ d. declared_of d.now)) c.deref.ensures.value ∙ c.requires.common)
