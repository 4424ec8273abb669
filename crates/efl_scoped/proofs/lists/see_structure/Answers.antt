-- The structure becomes known behind its groups.
use Rattle.std.proofs.Common.{Some, subst}
use Rattle.std.proofs.lemmas.Result.{on_ok_weaker}
use Rattle.efl_tree.specs.Views.{groups_of}
use Rattle.efl_scoped.specs.Seen.{table_of}
use Rattle.efl_scoped.proofs.ShapeLemmas.{Comes}
use Rattle.efl_scoped.proofs.ListLemmas.{structure_known}
use Rattle.efl_scoped.proofs.lists.see_structure.Goals as goal

pub returns : goal.returns
returns c =
    let middle = c.see_members.new.known in
    let s = c.in_ok-shape.shape in
    on_ok_weaker c.know.result
    (λ comes. structure_known (table_of c.args.numbers.now) (table_of c.see_members.new.numbers) c.args.known.now middle c.know.new.self c.args.name.now (groups_of c.args.groups.now) s c.in_ok-shape.ensures
    (subst (λ x. Comes middle (Some x) s c.know.new.self) c.as_bytes.ensures comes))
    c.know.ensures
