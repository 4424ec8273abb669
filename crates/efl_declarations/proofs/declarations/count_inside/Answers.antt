-- With the block inside those around it.
use Rattle.std.proofs.Common.{refl}
use Rattle.std.proofs.lemmas.Result.{on_ok_weaker}
use Rattle.efl_tree.specs.Views.{decl_kind_of}
use Rattle.efl_declarations.proofs.CheckLemmas.{entered, inside_counted}
use Rattle.efl_declarations.proofs.declarations.count_inside.Goals as goal

pub returns : goal.returns
returns c =
    let s = c.args.site.now in
    let known = c.args.known.now in
    let inner = c.site_among-inner.result in
    on_ok_weaker c.count_declaration.result
    (inside_counted known s inner c.args.firsts.now (decl_kind_of c.args.kind.now) c.args.storage.now c.count_declaration.new.storage
    (entered s inner known _ _ c.site_among-inner.ensures (λ x. refl) (λ x. refl)))
    c.count_declaration.ensures
