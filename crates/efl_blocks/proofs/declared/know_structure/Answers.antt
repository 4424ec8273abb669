-- The structure becomes known behind its groups.
use Rattle.std.proofs.Common.{◌≡◌, subst}
use Rattle.std.specs.Str.{bytes_eq}
use Rattle.std.proofs.lemmas.Result.{on_ok_weaker}
use Rattle.efl_tree.specs.Syntax.{Text}
use Rattle.efl_tree.specs.Views.{groups_of}
use Rattle.efl_expressions.specs.NameViews.{entry_in}
use Rattle.efl_blocks.specs.Within.{learned}
use Rattle.efl_blocks.proofs.DeclaredLemmas.{structure_known}
use Rattle.efl_blocks.proofs.declared.know_structure.Goals as goal

pub returns : goal.returns
returns c =
    let between = c.make_structure.new.block in
    let after = c.know.new.block in
    let d = c.in_ok-made.made in
    on_ok_weaker c.know.result
    (λ comes. structure_known c.args.types.now c.make_structure.new.types c.args.known.now between after c.args.beyond.now c.args.name.now (groups_of c.args.groups.now) d c.in_ok-made.ensures
    (subst (λ x. (q : Text) → entry_in after q ≡ learned (bytes_eq q x) d (entry_in between q)) c.as_bytes.ensures comes))
    c.know.ensures
