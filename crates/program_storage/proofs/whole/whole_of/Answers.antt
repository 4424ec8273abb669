-- The numbers of the blocks, and behind them those of the names.
use Rattle.std.proofs.Common.{◌∙◌, ◌∷◌, ℕ, List, Option, ap, map, sym}
use Rattle.std.proofs.lemmas.Simd.{map-map}
use Rattle.std.specs.HashMap.{get_by}
use Rattle.std.specs.Str.{bytes_eq}
use Rattle.storage_assoc.specs.Lists.{row_by}
use Rattle.program_storage.proofs.WholeLemmas.{are_whole}
use Rattle.program_storage.proofs.whole.whole_of.Goals as goal

pub returns : goal.returns
returns c =
    let blocks : List ℕ → Option ℕ = λ q. get_by (λ k. bytes_eq q k.now) c.args.blocks.now in
    let labels = c.args.labels.now in
    are_whole blocks (map (λ q. q.now) labels) c.args.base c.args.names c.in_ok-numbers.numbers.items c.count_on.new.numbers.items
    (c.in_ok-numbers.ensures ∙ ap (λ ns. 0 ∷ ns) (sym (map-map (row_by blocks) (λ q. q.now) labels))) c.in_ok-count_on.ensures
