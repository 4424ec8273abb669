-- What the table says of the name is what the statements say.
use Rattle.std.proofs.Common.{◌≡◌, Some, None, ap, sym, ◌∙◌, arith}
use Rattle.std.specs.HashMap.{get_by}
use Rattle.std.specs.Str.{bytes_eq}
use Rattle.rule_table.specs.Words.{find_map}
use Rattle.f66_names.specs.Declaring.{count_in}
use Rattle.f66_names.specs.DeclarationViews.{acts_in}
use Rattle.f66_names.proofs.ContextLemmas.{form_of-counted}
use Rattle.f66_names.proofs.sorts.form_of.Goals as goal

pub returns-in-Some : goal.returns-in-Some
returns-in-Some c =
    let x = c.args.name.now in
    let acts = acts_in c.args.declarations.now in
    let found : Some c.in-Some.count.now ≡ find_map (count_in x) acts = grind (arith, c.in-Some.ensures.value, c.as_bytes.ensures, c.args.declarations.now.counts_are x) in
    sym (form_of-counted x acts (Some c.in-Some.count.now) found)

pub returns-in-None : goal.returns-in-None
returns-in-None c =
    let x = c.args.name.now in
    let acts = acts_in c.args.declarations.now in
    let table = c.args.declarations.now.counts in
    let found : None ≡ find_map (count_in x) acts = c.in-None.ensures.value ∙ ap (λ q. get_by (λ k. bytes_eq q k.now) table) c.as_bytes.ensures ∙ c.args.declarations.now.counts_are x in
    c.intrinsic_form.ensures ∙ sym (form_of-counted x acts None found)
