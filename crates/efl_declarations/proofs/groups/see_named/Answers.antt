-- The structure becomes known behind its groups.
use Rattle.std.proofs.Common.{◌≡◌, subst}
use Rattle.std.specs.Str.{bytes_eq}
use Rattle.efl_tree.specs.Syntax.{Text}
use Rattle.efl_tree.specs.Views.{groups_of}
use Rattle.efl_expressions.specs.NameViews.{entry_in}
use Rattle.efl_blocks.specs.Within.{learned}
use Rattle.efl_blocks.proofs.DeclaredLemmas.{structure_known}
use Rattle.efl_declarations.proofs.groups.see_named.Goals as goal

pub returns : goal.returns
returns c =
    let between = c.see_structure.new.block in
    let after = c.know.new.block in
    let s = c.in_ok-seen.seen in
    record {
      knows = structure_known c.args.types.now c.see_structure.new.types c.args.block.now between after c.args.beyond.now c.args.name.now (groups_of c.args.groups.now) s.kind c.in_ok-seen.ensures.made
          (subst (λ x. (q : Text) → entry_in after q ≡ learned (bytes_eq q x) s.kind (entry_in between q)) c.as_bytes.ensures c.in_ok-know.ensures);
      tells = c.in_ok-seen.ensures.tells;
    }
