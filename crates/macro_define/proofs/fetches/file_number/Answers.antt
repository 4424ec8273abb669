-- The number of a file is its place among those that were noted, or the next one.
use Rattle.std.proofs.Common.{ap, sym, ◌∙◌, min}
use Rattle.std.specs.Option.{option_map_or}
use Rattle.std.specs.Str.{bytes_eq}
use Rattle.macro_define.proofs.ListLemmas.{position-map}
use Rattle.macro_define.proofs.fetches.file_number.Goals as goal

pub returns-in-Some : goal.returns-in-Some
returns-in-Some c =
    let place = c.in-Some.ensures.index ∙ sym (position-map (bytes_eq c.args.name.now) (λ k. k.items) c.args.files.now.keys) in
    c.min.ensures ∙ ap (λ o. option_map_or (λ n. min n 65535) o 65535) place

pub returns-in-None : goal.returns-in-None
returns-in-None c =
    let place = c.in-None.ensures.index ∙ sym (position-map (bytes_eq c.args.name.now) (λ k. k.items) c.args.files.now.keys) in
    ap (λ o. option_map_or (λ n. min n 65535) o 65535) place
