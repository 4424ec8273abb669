-- Why `place_of` keeps its clauses.
use Rattle.std.proofs.Common.{◌<◌, ◌-◌, length, refl, arith}
use Rattle.std.proofs.lemmas.Option.{slice_get_read}
use Rattle.f66_check.proofs.PartLemmas.{statement_place}
use Rattle.f66_check.proofs.sound.place_of.Goals as goal

pub returns : goal.returns
returns c =
    let all = c.args.unit.now.statements.items in
    let behind : 0 < c.args.number = omega (arith, c.if-number-eq0.false) in
    let within : c.args.number - 1 < length all = omega (arith, c.requires, behind) in
    statement_place c.args.unit.now c.args.number c.index.result.now behind (slice_get_read all _ (c.args.number - 1) c.index.result.now refl within c.index.ensures)
