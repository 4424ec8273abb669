-- A row that a name has is one of the rows.
use Rattle.std.proofs.Common.{sym, arith}
use Rattle.program_storage.proofs.program.ProgramStorage.spot_of.Goals as goal

pub bounds-firsts-row : goal.bounds-firsts-row
bounds-firsts-row c = rw c.as_slice-firsts.ensures.value (c.args.self.now.inside c.args.unit c.args.name.now c.in_ok-row.row (sym c.in_ok-row.ensures)).1

pub bounds-sizes-row : goal.bounds-sizes-row
bounds-sizes-row c = rw c.as_slice-sizes.ensures.value (c.args.self.now.inside c.args.unit c.args.name.now c.in_ok-row.row (sym c.in_ok-row.ensures)).0

pub offset_bounds-firsts-row : goal.offset_bounds-firsts-row
offset_bounds-firsts-row c =
    let i = (c.args.self.now.inside c.args.unit c.args.name.now c.in_ok-row.row (sym c.in_ok-row.ensures)).1 in
    grind (arith, i, c.args.self.now.firsts.small)
