-- One statement more is put.
use Rattle.std.proofs.Common.{◌≡◌, ◌∙◌, length, arith}
use Rattle.efl_units.proofs.TypeLines.{line_more}
use Rattle.efl_units.proofs.type_lines.put_types.Goals as goal

pub loop-left-preserved : goal.loop-left-preserved
loop-left-preserved c =
    let some : length c.loop-left.left.now ≡ 0 → ⊥ = grind arith in
    line_more c.args.place c.args.word _ _ c.loop-left.left.now c.split_at.result.0.now c.split_at.result.1.now c.min.result c.min.ensures c.split_at.ensures.front c.split_at.ensures.back some c.in_ok-put_type.ensures ∙ c.loop-left.invariant
