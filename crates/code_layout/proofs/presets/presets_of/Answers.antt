-- The numbers with their values are the initial values.
use Rattle.std.proofs.Common.{◌≡◌, map, ap, ◌∙◌}
use Rattle.std.proofs.lemmas.Result.{IfOk-weaker}
use Rattle.code_emit.specs.Names.{preset_in}
use Rattle.code_layout.specs.Presets.{pair_in}
use Rattle.code_layout.specs.Ranked.{initial_of}
use Rattle.code_layout.proofs.PresetLemmas.{all_seen}
use Rattle.code_layout.proofs.presets.presets_of.Goals as goal

pub returns : goal.returns
returns c =
    IfOk-weaker c.values_of.result (λ v. map preset_in v.items ≡ map pair_in c.deref.result.now) (λ v. map preset_in v.items ≡ initial_of c.args.linked.now)
    (λ v e. e ∙ ap (map pair_in) (c.deref.ensures.value ∙ c.in_ok-pairs.ensures) ∙ all_seen c.args.linked.now c.requires) c.values_of.ensures
