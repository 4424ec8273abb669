-- A row that a name has is one of the rows.
use Rattle.std.proofs.Common.{sym, arith}
use Rattle.program_storage.proofs.unit_rows.UnitRows.row_of.Goals as goal

pub offset_bounds-whole-row : goal.offset_bounds-whole-row
offset_bounds-whole-row c =
    let i = c.args.self.now.inside c.args.name.now c.in_ok-row.field-0.now (sym c.in_ok-row.ensures.value) in
    grind (arith, i, c.args.self.now.whole.small)

pub bounds-whole-row : goal.bounds-whole-row
bounds-whole-row c = rw c.as_slice-whole.ensures.value (c.args.self.now.inside c.args.name.now c.in_ok-row.field-0.now (sym c.in_ok-row.ensures.value))
