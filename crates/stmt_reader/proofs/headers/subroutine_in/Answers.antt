-- A name with its list.
use Rattle.std.proofs.Common.{List, Option, Some, None, map, sym, ap, ◌∙◌}
use Rattle.f66_tree.specs.Syntax.{Text, SubUnit}
use Rattle.f66_tree.specs.Views.{chained, formula_of}
use Rattle.stmt_reader.specs.Acts.{names_if}
use Rattle.stmt_reader.specs.Declarations.{names_onto, subroutine_in}
use Rattle.stmt_reader.specs.Taking.{then_if}
use Rattle.stmt_reader.proofs.HeaderLemmas.{item_header}
use Rattle.stmt_reader.proofs.headers.subroutine_in.Goals as goal

pub returns-in-None : goal.returns-in-None
returns-in-None c =
    item_header subroutine_in c.args.e c.in-Item.item c.into_inner-name.result c.deref.result.now None c.in-Item.is c.into_inner-name.ensures c.deref.ensures.value
    (ap (λ (o : Option (List Text)). then_if o (λ ds. Some (SubUnit c.into_inner-name.result.0 ds))) (ap names_if (sym c.in-None.is) ∙ c.in_ok-names_in-in-Item.ensures ∙ ap (λ (b : List Text). names_onto b (chained (map formula_of c.deref.result.now))) c.new-in-Item.ensures.items))

pub returns-in-Item : goal.returns-in-Item
returns-in-Item c =
    item_header subroutine_in c.args.e c.in-Item.item c.into_inner-name.result c.deref.result.now (Some (SubUnit c.into_inner-name.result.0 c.in-Some.dummies.items)) c.in-Item.is c.into_inner-name.ensures c.deref.ensures.value
    (ap (λ (o : Option (List Text)). then_if o (λ ds. Some (SubUnit c.into_inner-name.result.0 ds))) (ap names_if (sym c.in-Some.is) ∙ c.in_ok-names_in-in-Item.ensures ∙ ap (λ (b : List Text). names_onto b (chained (map formula_of c.deref.result.now))) c.new-in-Item.ensures.items))
