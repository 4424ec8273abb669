-- What names are to the code of a unit, as they are in memory, and initial values.
use Rattle.std.specs.Prelude.{ℕ, Option, option_map}
use Rattle.ground.specs.Content.{Content, Whole, Truth}
use Rattle.ground.specs.declared.value.Value.{Value}
use Rattle.ground.specs.declared.value.Value.TheVariants as v
use Rattle.f66_tree.specs.Syntax.{Text}
use Rattle.stack_code.specs.Instructions.{Instruction, PushSpot, Dummy}
use Rattle.code_gen.specs.Layout.{Layout, size_in}
use Rattle.code_emit.specs.declared.coded_unit.Base.{Base}
use Rattle.code_emit.specs.declared.coded_unit.Base.TheVariants as b
use Rattle.code_emit.specs.declared.coded_unit.Callee.{Callee}

abbrev pub base_of : Base → Instruction
base_of (b.Own first size) = PushSpot first size
base_of (b.Dummy n) = Dummy n

-- the unit that a name calls: its entry, and where it has the places of that name
abbrev pub callee_of : Layout → Text → Option Callee
callee_of y x = option_map (λ v. record { entry = y.entry v; first = y.linked.number v x 0; size = size_in (y.linked.context v) x }) (y.linked.find x)

abbrev pub content_in : Value → Content
content_in (v.Int z) = Whole z
content_in (v.Log b) = Truth b

-- a storage unit with its initial value
abbrev pub preset_in : ℕ × Value → ℕ × Content
preset_in p = (p.0, content_in p.1)
