-- The classes that one statement more uses names in.
use Rattle.std.proofs.Common.{ap, sym, ◌∙◌}
use Rattle.std.specs.Option.{option_or}
use Rattle.f66_names.specs.ActViews.{act_said}
use Rattle.f66_names.specs.DeclarationViews.{context_in}
use Rattle.unit_rules.specs.Roles.{role_held, role_in}
use Rattle.unit_rules.proofs.NameLemmas.{found_behind}
use Rattle.unit_rules.proofs.roles.role_table.Goals as goal

pub loop-saying-preserved : goal.loop-saying-preserved
loop-saying-preserved c = λ q.
    let around = context_in c.args.declarations.now in
    c.in_ok-note_roles.ensures q
    ∙ ap (λ o. option_or o (role_in around q (act_said c.saying-item.result))) (c.loop-saying.invariant q)
    ∙ sym (found_behind (role_held around.header q) (role_in around q) act_said c.args.declarations.now.sayings.now c.loop-saying.saying-index c.saying-item.result c.loop-saying-test.true c.saying-item.is)
