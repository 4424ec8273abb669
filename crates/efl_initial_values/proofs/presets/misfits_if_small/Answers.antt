-- What is too large has no misfit.
use Rattle.std.proofs.Common.{sym, ◌∙◌}
use Rattle.efl_initial_values.proofs.PresetLemmas.{large_matches, small_matches}
use Rattle.efl_initial_values.proofs.presets.misfits_if_small.Goals as goal

pub returns-then-is_large : goal.returns-then-is_large
returns-then-is_large c = λ f t made. large_matches t c.args.from c.args.values.now (sym (c.if-is_large.ensures f t made.told))

pub returns : goal.returns
returns c = λ f t made.
    let small = sym (c.if-is_large.ensures f t made.told) in
    c.misfits.ensures f t made small ∙ small_matches t c.args.from c.args.values.now small
