-- A structure becomes known behind its groups.
use Rattle.std.proofs.Common.{sym, ap, ◌∙◌}
use Rattle.std.proofs.lemmas.Result.{on_ok_weaker}
use Rattle.efl_tree.specs.Views.{groups_of, decl_kind_of}
use Rattle.efl_scope.specs.Sights.{groups_seen}
use Rattle.efl_scope.specs.NameViews.{chain_of}
use Rattle.efl_scope.specs.BlockViews.{kinds_of, known_of}
use Rattle.efl_scope.specs.WalkViews.{sight_of, opened_of}
use Rattle.efl_scope.proofs.TreeLemmas.{structure_passed}
use Rattle.efl_scope.proofs.declarations.see_groups.Goals as goal

pub returns-in_ok-see_members-in-Structure : goal.returns-in_ok-see_members-in-Structure
returns-in_ok-see_members-in-Structure c =
    let out = c.args.outside.now in
    let before = opened_of c.args.block.now out c.args.walk.now in
    on_ok_weaker c.know.result
    (λ e. structure_passed (chain_of c.args.formals.now) before (sight_of c.see_members.new.kinds out c.see_members.new.walk) c.in-Structure.name c.as_bytes.result.now
    (kinds_of c.know.new.self (known_of out)) (groups_of c.deref-in-Structure.result.now) (groups_of c.in-Structure.groups.items)
    c.in_ok-see_members-in-Structure.ensures (e (known_of out)) c.as_bytes.ensures (ap groups_of c.deref-in-Structure.ensures.value)
    ∙ sym (ap (λ k. groups_seen (chain_of c.args.formals.now) (decl_kind_of k) before) c.in-Structure.is))
    c.know.ensures
