-- Parts without initial values: their first fault, whatever stands before them.
use Rattle.std.specs.Prelude.{◌≡◌, List, [], ◌∷◌, Option}
use Rattle.ground.specs.declared.fault.Fault.{Fault}
use Rattle.rule_table.specs.Words.{find_map}
use Rattle.efl_tree.specs.Syntax.{EflProcedure}
use Rattle.efl_scope.specs.Parts.{Part}
use Rattle.efl_types.specs.TypeRules.{part_faults, presets_of}
use Rattle.efl_expressions.specs.FirstRule.{first_rule}
use Rattle.efl_reading.specs.Reading.{fault_at}

-- what a part breaks by itself
abbrev pub fault_alone : List EflProcedure → Part → Option Fault
fault_alone us v = fault_at v.place (first_rule (part_faults us v))

abbrev pub first_alone : List EflProcedure → List Part → Option Fault
first_alone us vs = find_map (fault_alone us) vs

abbrev pub GiveNone : List Part → Type 0
GiveNone [] = Unit {0}
GiveNone (v ∷ vs) = (presets_of v.form ≡ []) × GiveNone vs
