-- The unit's header says so.
use Rattle.std.proofs.Common.{◌∙◌, ap, sym}
use Rattle.f66_tree.specs.Units.{is_main}
use Rattle.whole_program.specs.Linkage.{context_or}
use Rattle.code_layout.proofs.linked_unit.LinkedUnitNamedUnit.is_main.Goals as goal

pub returns : goal.returns
returns c = c.is_main_unit.ensures ∙ ap (λ o. is_main (context_or o).header) (sym c.unit.ensures)
