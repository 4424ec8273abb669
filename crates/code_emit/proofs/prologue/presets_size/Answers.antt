-- Each initial value has three instructions.
use Rattle.std.proofs.Common.{◌≡◌, ℕ, ◌+◌, ◌<◌, List, [], ◌∷◌, length, map, drop, refl, arith, length-drop}
use Rattle.ground.specs.declared.value.Value.{Value}
use Rattle.code_gen.specs.Statements.{preset_code}
use Rattle.code_emit.specs.Names.{preset_in}
use Rattle.code_emit.proofs.prologue.presets_size.Goals as goal

presets_long : (presets : List (ℕ × Value)) → length (preset_code (map preset_in presets)) ≡ length presets + (length presets + length presets)
presets_long [] = refl
presets_long (p ∷ presets) = let h = presets_long presets in omega arith

presets_counted : (all : List (ℕ × Value)) (i sum next whole : ℕ) → i < length all → next ≡ sum + 3 → sum + length (preset_code (map preset_in (drop i all))) ≡ whole → next + length (preset_code (map preset_in (drop (i + 1) all))) ≡ whole
presets_counted all i sum next whole within added before =
    omega (arith, presets_long (drop i all), presets_long (drop (i + 1) all), length-drop i all, length-drop (i + 1) all)

pub loop-preset-preserved : goal.loop-preset-preserved
loop-preset-preserved c =
    let l = c.loop-preset in
    presets_counted c.args.presets.now l._preset-index l.sum c.in_ok-sum.sum (length (preset_code (map preset_in c.args.presets.now))) c.loop-preset-test.true c.in_ok-sum.ensures l.invariant
