-- By the numbers of its parts.
use Rattle.std.proofs.Common.{Some, reverse, sym, ap, ◌∙◌}
use Rattle.efl_scoped.specs.Seen.{table_of}
use Rattle.efl_variables.specs.Keys.{pair, list_number}
use Rattle.efl_variables.proofs.FindLemmas.{key_by_parts}
use Rattle.efl_variables.proofs.keys.find_key.Goals as goal

pub returns-in_err-block : goal.returns-in_err-block
returns-in_err-block c = λ h is.
    let f = table_of c.args.numbers.now in
    let x = c.args.name.now in
    c.from_residual.ensures
    ∙ sym (key_by_parts f c.args.unit c.args.home h x is ∙ ap (λ o. pair f o (list_number f (reverse x))) (sym c.find.ensures ∙ c.in_err-block.was))

pub returns-in_err-word : goal.returns-in_err-word
returns-in_err-word c = λ h is.
    let f = table_of c.args.numbers.now in
    let x = c.args.name.now in
    c.from_residual-in_err-word.ensures
    ∙ sym (key_by_parts f c.args.unit c.args.home h x is ∙ ap (λ o. pair f o (list_number f (reverse x))) (sym c.find.ensures ∙ c.in_ok-block.was)
    ∙ ap (pair f (Some c.in_ok-block.block)) (sym c.find_name.ensures ∙ c.in_err-word.was))

pub returns : goal.returns
returns c = λ h is.
    let f = table_of c.args.numbers.now in
    let x = c.args.name.now in
    c.find-2.ensures
    ∙ sym (key_by_parts f c.args.unit c.args.home h x is ∙ ap (λ o. pair f o (list_number f (reverse x))) (sym c.find.ensures ∙ c.in_ok-block.was)
    ∙ ap (pair f (Some c.in_ok-block.block)) (sym c.find_name.ensures ∙ c.in_ok-word.was))
