-- A name with subscripts doesn't stand by itself.
use Rattle.std.proofs.Common.{◌++◌, sym, ap, ◌∙◌}
use Rattle.std.proofs.lemmas.List.{append-nil}
use Rattle.efl_storage.specs.Named.{texts_of}
use Rattle.efl_storage.proofs.NamedLemmas.{not_alone}
use Rattle.efl_storage.proofs.named.name_first.Goals as goal

pub returns-else-is_empty : goal.returns-else-is_empty
returns-else-is_empty c =
    let old = texts_of c.args.names.now.items in
    sym (append-nil old) ∙ ap (λ ys. old ++ ys) (sym (not_alone c.args.name.now c.args.subscripts.now c.is_empty.result c.is_empty.ensures c.if-is_empty.false))
