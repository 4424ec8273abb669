-- What is too large does not overflow, nor an array with `*`.
use Rattle.std.proofs.Common.{sym, ◌∙◌}
use Rattle.efl_scope.specs.DataTypes.{is_large}
use Rattle.efl_types.specs.Presets.{is_open_array}
use Rattle.efl_initial_values.proofs.PresetLemmas.{or_left, small_exact, small_few, large_fits, small_overflows}
use Rattle.efl_initial_values.proofs.presets.overflows.Goals as goal

pub returns-then-is_unmeasured : goal.returns-then-is_unmeasured
returns-then-is_unmeasured c = λ f ss t n o is counted found. large_fits t n o (sym (c.if-is_unmeasured.ensures f ss t is))

pub returns : goal.returns
returns c = λ f ss t n o is counted found.
    let none = sym (c.if-is_unmeasured.ensures f ss t is) in
    let small = or_left (is_large t) (is_open_array t) none in
    c.are_too_many.ensures t n o (small_exact f t c.args.variable.now.summary is.told small) (small_few f t c.args.variable.now.summary is.told small) counted found ∙ small_overflows t n o none
