-- The unit is that of the next procedure, and comes behind.
use Rattle.std.proofs.Common.{◌∙◌, [], ◌∷◌, ◌++◌, ap, map, sym, option_copied}
use Rattle.std.proofs.lemmas.List.{map-append}
use Rattle.rule_table.proofs.WordLemmas.{got_at}
use Rattle.f66_tree.specs.Views.{routine_of}
use Rattle.efl_typed_tree.specs.Views.{stmts_of}
use Rattle.efl_units.proofs.program.put_unit.Goals as goal

pub returns-in_ok-push-in-Some-clause-put : goal.returns-in_ok-push-in-Some-clause-put
returns-in_ok-push-in-Some-clause-put c = λ p are bodies typed names is.
    let old = c.args.units.now.items in
    let body = bodies.each c.args.number c.in-Some.body.now (sym (got_at c.args.bodies.now c.args.number c.get.result c.get.ensures.lookup) ∙ ap option_copied c.in-Some.is) in
    let made = c.in_ok-unit-in-Some.ensures.made p are typed names is (ap stmts_of c.deref.ensures.value ∙ body) in
    ap (map routine_of) c.in_ok-push-in-Some.ensures.items ∙ map-append routine_of old _ ∙ ap (λ r. map routine_of old ++ r ∷ []) made
