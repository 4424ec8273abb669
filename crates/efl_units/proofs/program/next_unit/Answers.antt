-- The names in memory are those that are chosen, so the unit is the one by these.
use Rattle.std.proofs.Common.{◌+◌, ◌∙◌, ap, sym}
use Rattle.std.specs.Prelude.{length}
use Rattle.std.proofs.lemmas.Result.{IfOk-weaker}
use Rattle.efl_lowered.specs.Labels.{all_labels}
use Rattle.efl_emit.specs.Names.{callee_of, home_of, label_of, made_of}
use Rattle.efl_tree.specs.Views.{procedure_of}
use Rattle.efl_units.specs.Numbers.{label_in}
use Rattle.efl_units.proofs.Congruence.{same_unit}
use Rattle.efl_units.proofs.program.next_unit.Goals as goal

pub returns-clause-made : goal.returns-clause-made
returns-clause-made c =
    IfOk-weaker c.unit.result _ _ (λ r h p are typed names is body.
    let named = c.in_ok-name_unit.ensures in
    let s = c.name_unit.new.naming in
    let own = named.own ∙ sym (named.callees c.args.number) in
    let made = h p are typed is body own in
    made ∙ same_unit p c.args.number (procedure_of c.args.procedure.now) (home_of s) (callee_of s) (label_of s) (made_of s) (λ v. named.homes v ∙ names.homes v) (λ m. named.callees m ∙ names.callees m)
    (λ l. named.labels l ∙ ap (λ ss. label_in (all_labels ss) l) body) (λ i. named.made i ∙ ap (λ ss. length (all_labels ss) + 1 + i) body)) c.unit.ensures
