-- What the table says of the name is what the statements say.
use Rattle.std.proofs.Common.{◌≡◌, Some, None, unwrap_or, ap, sym, ◌∙◌, arith}
use Rattle.rule_table.specs.Words.{find_map}
use Rattle.f66_names.specs.Declaring.{type_given}
use Rattle.f66_names.specs.DeclarationViews.{acts_in}
use Rattle.f66_names.proofs.ContextLemmas.{type_in-given}
use Rattle.f66_names.proofs.sorts.type_or.Goals as goal

pub returns-in-Some : goal.returns-in-Some
returns-in-Some c =
    let x = c.args.name.now in
    let acts = acts_in c.args.declarations.now in
    let found : Some c.in-Some.word.now ≡ find_map (type_given x) acts = grind (arith, c.in-Some.ensures.value, c.as_bytes.ensures, c.args.declarations.now.words_are x) in
    ap (λ o. unwrap_or o c.args.unsaid) found ∙ sym (type_in-given x acts c.args.unsaid)

pub returns-in-None : goal.returns-in-None
returns-in-None c =
    let x = c.args.name.now in
    let acts = acts_in c.args.declarations.now in
    let found : None ≡ find_map (type_given x) acts = grind (arith, c.in-None.ensures.value, c.as_bytes.ensures, c.args.declarations.now.words_are x) in
    ap (λ o. unwrap_or o c.args.unsaid) found ∙ sym (type_in-given x acts c.args.unsaid)
