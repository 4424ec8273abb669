-- A name with its arguments.
use Rattle.std.proofs.Common.{map, refl}
use Rattle.std.specs.Option.{option_map}
use Rattle.f66_tree.specs.Views.{formula_of}
use Rattle.stmt_reader.specs.Declarations.{group_in}
use Rattle.stmt_parts.proofs.TreeLemmas.{item_read}
use Rattle.stmt_parts.proofs.equivalences.group_in.Goals as goal

pub returns-in-Item : goal.returns-in-Item
returns-in-Item c =
    item_read group_in c.args.e c.in-Item.item c.into_inner-name.result _ (option_map (λ group. map formula_of group.items) c.places_of.result) c.in-Item.is c.into_inner-name.ensures refl c.places_of.ensures
