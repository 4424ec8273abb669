-- A file that is noted stands behind those before it.
use Rattle.std.proofs.Common.{ap, ◌∙◌, map}
use Rattle.std.specs.Str.{bytes_eq}
use Rattle.indexmap.specs.IndexSet.{insert_key}
use Rattle.macro_define.proofs.TableLemmas.{keys-insert}
use Rattle.macro_define.proofs.fetches.note_file.Goals as goal

pub returns : goal.returns
returns c =
    let name = c.in_ok-from_slice.field-0 in
    ap (map (λ k. k.items)) c.in_ok-insert_full.ensures.keys ∙ keys-insert c.args.files.now.keys name
    ∙ ap (λ n. insert_key bytes_eq (map (λ k. k.items) c.args.files.now.keys) n) c.in_ok-from_slice.ensures.items
