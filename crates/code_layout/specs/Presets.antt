-- Storage units with what DATA gives them.
use Rattle.std.specs.Prelude.{ℕ, Option}
use Rattle.ground.specs.Content.{Content}
use Rattle.ground.specs.declared.value.Value.{Value}
use Rattle.storage_rules.specs.Presets.{content_seen}

abbrev pub pair_in : ℕ × Option Value → ℕ × Content
pair_in p = (p.0, content_seen p.1)
