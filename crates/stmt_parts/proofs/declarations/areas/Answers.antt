-- Without a slash, and with one.
use Rattle.std.proofs.Common.{◌≡◌, List, Option, sym, ap, subst}
use Rattle.std.specs.Prelude.{IfOk}
use Rattle.f66_tree.specs.Syntax.{Area}
use Rattle.f66_tree.specs.Views.{area_of}
use Rattle.stmt_reader.specs.Declarations.{commons_in}
use Rattle.stmt_parts.specs.Lists.{list_if}
use Rattle.stmt_parts.proofs.SlashLemmas.{first_from, one_piece}
use Rattle.stmt_parts.proofs.declarations.areas.Goals as goal

pub returns-in-None : goal.returns-in-None
returns-in-None c = subst (λ (x : Option (List Area)). IfOk c.blank_common.result (λ r. list_if area_of r ≡ x)) (ap commons_in (sym (one_piece c.args.tokens.now c.in-None.ensures.halves))) c.blank_common.ensures

pub returns-in-Some : goal.returns-in-Some
returns-in-Some c =
    let tokens = c.args.tokens.now in
    let at = c.in-Some.at in
    subst (λ (x : Option (List Area)). IfOk c.areas_from.result (λ r. list_if area_of r ≡ x)) (ap commons_in (sym (first_from tokens at c.in-Some.ensures.halves))) c.areas_from.ensures
