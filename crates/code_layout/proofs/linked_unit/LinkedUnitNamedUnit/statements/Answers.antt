-- They are those of the unit.
use Rattle.std.proofs.Common.{◌∙◌, ap, sym}
use Rattle.code_layout.specs.Tabled.{lines_or}
use Rattle.code_layout.proofs.linked_unit.LinkedUnitNamedUnit.statements.Goals as goal

pub returns : goal.returns
returns c = c.statements_of.ensures ∙ ap lines_or (sym c.unit.ensures)
