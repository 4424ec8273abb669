-- One declaration more.
use Rattle.std.proofs.Common.{◌+◌, drop, ap, sym, ◌∙◌}
use Rattle.std.specs.List.{list_any}
use Rattle.std.specs.Option.{option_or}
use Rattle.std.specs.Str.{bytes_eq}
use Rattle.rule_table.specs.Words.{is_some_and}
use Rattle.efl_tree.specs.Views.{decl_of, decls_of}
use Rattle.efl_scope.specs.ScopeRules.{is_of}
use Rattle.efl_scope.proofs.TreeLemmas.{drop_next}
use Rattle.efl_storage.specs.Firsts.{first_in, first_if}
use Rattle.efl_storage.proofs.FirstLemmas.{first_passed}
use Rattle.efl_storage.proofs.firsts.note_areas.Goals as goal

pub loop-declaration-preserved : goal.loop-declaration-preserved
loop-declaration-preserved c = λ q.
    let l = c.loop-declaration in
    let d = c.declaration-item.result in
    let all = c.args.declarations.now in
    let n = c.args.unit in
    let rest = list_any (λ d. is_of q d.kind) (decls_of (drop (l.declaration-index + 1) all)) in
    ap (λ o. option_or o (first_if rest n)) (c.in_ok-note_if_any.ensures q ∙ ap (λ o. option_or (first_in l.firsts q) (first_if (is_some_and (bytes_eq q) o) n)) c.area_of.ensures)
    ∙ first_passed (first_in l.firsts q) n (is_of q (decl_of d).kind) rest
    ∙ sym (ap (λ xs. option_or (first_in l.firsts q) (first_if (list_any (λ d. is_of q d.kind) (decls_of xs)) n)) (drop_next all l.declaration-index d c.loop-declaration-test.true c.declaration-item.is))
    ∙ l.invariant q
