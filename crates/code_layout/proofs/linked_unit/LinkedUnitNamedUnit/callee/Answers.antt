-- A unit that is called is one of the units.
use Rattle.std.proofs.Common.{◌∙◌, sym}
use Rattle.code_layout.proofs.linked_unit.LinkedUnitNamedUnit.callee.Goals as goal

pub called-requires : goal.called-requires
called-requires c = c.args.self.now.tables.now.found c.as_bytes.result.now c.in-Some.unit (sym c.find.ensures ∙ c.in-Some.is)
