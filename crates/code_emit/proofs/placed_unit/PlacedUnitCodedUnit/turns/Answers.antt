-- The loops that end there are noted.
use Rattle.code_emit.proofs.placed_unit.PlacedUnitCodedUnit.turns.Goals as goal

pub returns : goal.returns
returns g c =
    let s = c.args.self.now in
    c.ending.ensures ((g.N.NamedUnit.layout s.named.now).lines (g.N.NamedUnit.number s.named.now)) s.ended
