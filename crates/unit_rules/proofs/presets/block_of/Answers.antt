-- What the table says of the name is what the statements say.
use Rattle.std.proofs.Common.{ap, ◌∙◌}
use Rattle.std.specs.HashMap.{get_by}
use Rattle.std.specs.Str.{bytes_eq}
use Rattle.unit_rules.proofs.presets.block_of.Goals as goal

pub returns : goal.returns
returns c =
    let names = c.args.names.now in
    c.copied.ensures ∙ c.get.ensures.value ∙ ap (λ q. get_by (λ k. bytes_eq q k.now) names.blocks) c.as_bytes.ensures ∙ names.blocks_are c.args.name.now
