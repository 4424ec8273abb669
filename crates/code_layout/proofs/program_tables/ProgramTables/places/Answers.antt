-- The unit's table says so.
use Rattle.std.proofs.Common.{◌∙◌, ap, slice_index_or}
use Rattle.f66_tree.specs.Units.{places_of}
use Rattle.code_layout.proofs.program_tables.ProgramTables.places.Goals as goal

pub returns : goal.returns
returns c =
    let x = c.index-units-unit.result in
    let same = c.args.self.now.same c.args.unit x c.requires (c.index-units-unit.is ∙ ap (λ us. slice_index_or us c.args.unit x) c.as_slice-units.ensures.value) in
    c.places.ensures ∙ ap places_of (same.0 c.args.name.now)
