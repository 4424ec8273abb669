-- One declaration more.
use Rattle.std.proofs.Common.{◌+◌, drop, ap, sym, ◌∙◌}
use Rattle.std.specs.List.{list_any}
use Rattle.std.specs.Option.{option_or}
use Rattle.std.specs.Str.{bytes_eq}
use Rattle.rule_table.specs.Words.{is_some_and}
use Rattle.efl_tree.specs.Views.{decl_of, decls_of}
use Rattle.efl_scope.specs.ScopeRules.{is_of}
use Rattle.efl_scope.specs.AreaViews.{sorts_of}
use Rattle.efl_scope.proofs.TreeLemmas.{drop_next}
use Rattle.efl_scoped.specs.Told.{first_if}
use Rattle.efl_scoped.proofs.ListLemmas.{first_passed}
use Rattle.efl_scoped.proofs.lists.add_firsts.Goals as goal

pub loop-declaration-preserved : goal.loop-declaration-preserved
loop-declaration-preserved c = λ q.
    let l = c.loop-declaration in
    let d = c.declaration-item.result in
    let all = c.args.declarations.now in
    let own = c.args.own.now in
    let rest = list_any (λ d. is_of q d.kind) (decls_of (drop (l.declaration-index + 1) all)) in
    ap (λ o. option_or o (first_if own rest q)) (c.in_ok-add_first_if_any.ensures q ∙ ap (λ o. option_or (sorts_of l.firsts q) (first_if own (is_some_and (bytes_eq q) o) q)) c.area_of.ensures)
    ∙ first_passed (sorts_of l.firsts q) own q (is_of q (decl_of d).kind) rest
    ∙ sym (ap (λ xs. option_or (sorts_of l.firsts q) (first_if own (list_any (λ d. is_of q d.kind) (decls_of xs)) q)) (drop_next all l.declaration-index d c.loop-declaration-test.true c.declaration-item.is))
    ∙ l.invariant q
