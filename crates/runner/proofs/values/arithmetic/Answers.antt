-- An arithmetic operator with two integers.
use Rattle.std.proofs.Common.{◌≡◌, ◌-◌, ◌∷◌, ◌∙◌, ap, rules, w64}
use mir.Val.{to_z, of_z}
use Rattle.f66_tree.specs.Evaluation.{on_whole}
use Rattle.runner.specs.Words.{pile_of}
use Rattle.runner.specs.Subscripted.{integer_word}
use Rattle.runner.proofs.Operators.{arithmetic_under, arithmetic_works}
use Rattle.runner.proofs.values.arithmetic.Goals as goal

pub put_number-requires-clause-same : goal.put_number-requires-clause-same
put_number-requires-clause-same c = arithmetic_under c.args.op c.requires.kind c.args.stack.now c.args.top _ _ _ c.two_at.ensures c.requires.work

pub returns-in-Ok-clause-works : goal.returns-in-Ok-clause-works
returns-in-Ok-clause-works c = λ plans s w st fine.
    let a : to_z w64 (of_z w64 c.from.result) ≡ c.two_at.result.0.value = search rules in
    let b : to_z w64 (of_z w64 c.from-2.result) ≡ c.two_at.result.1.value = search rules in
    let is = c.in-Ok.ensures.is ∙ ap (λ n. on_whole c.args.op n (to_z w64 (of_z w64 c.from-2.result))) a ∙ ap (on_whole c.args.op c.two_at.result.0.value) b in
    let number : to_z w64 (of_z w64 c.in-Ok.exact) ≡ c.in-Ok.exact = search rules in
    arithmetic_works c.args.op c.requires.kind c.args.stack.now c.args.top _ _ _ c.two_at.ensures plans s w st fine c.in-Ok.exact _ is c.in-Ok.ensures.small (c.put_number.ensures ∙ ap (λ z. integer_word z ∷ pile_of c.args.stack.now (c.args.top - 2)) number)
