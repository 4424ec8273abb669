-- A row that a name has is one of the rows, and the sum fits.
use Rattle.std.proofs.Common.{◌<◌, slice_index, sym, arith}
use Rattle.program_storage.proofs.program.ProgramStorage.number_of.Goals as goal

pub offset_bounds-sizes-row : goal.offset_bounds-sizes-row
offset_bounds-sizes-row c =
    let i = (c.args.self.now.inside c.args.unit c.args.name.now c.in_ok-row.row (sym c.in_ok-row.ensures)).0 in
    grind (arith, i, c.args.self.now.sizes.small)

pub bounds-sizes-row : goal.bounds-sizes-row
bounds-sizes-row c = rw c.as_slice-sizes.ensures.value (c.args.self.now.inside c.args.unit c.args.name.now c.in_ok-row.row (sym c.in_ok-row.ensures)).0

pub bounds-firsts-row : goal.bounds-firsts-row
bounds-firsts-row c = rw c.as_slice-firsts.ensures.value (c.args.self.now.inside c.args.unit c.args.name.now c.in_ok-row.row (sym c.in_ok-row.ensures)).1

pub overflow_add-result : goal.overflow_add-result
overflow_add-result c =
    let row = c.in_ok-row.row in
    let o_in : c.args.place < slice_index c.args.self.now.sizes.items row = rw c.as_slice-sizes.ensures.value at c.if-place-sizes.true in
    let l = c.args.self.now.fits c.args.unit c.args.name.now row c.args.place (sym c.in_ok-row.ensures) o_in in
    rw c.as_slice-firsts.ensures.value (omega (arith, l))
