-- One call more is in its group.
use Rattle.std.proofs.Common.{◌∙◌, sym, ap, map}
use Rattle.std.proofs.Math.ListN.{drop_of_length-le}
use Rattle.efl_units.specs.Groups.{groups_of, put_all}
use Rattle.efl_units.proofs.groups.callers.Goals as goal

pub returns : goal.returns
returns c =
    let last = ap (map (λ e. (e.to, e.from))) (drop_of_length-le c.args.edges.now c.loop-edge-test.false) in
    ap (λ ps. put_all ps (groups_of c.loop-edge.groups.items)) (sym last) ∙ c.loop-edge.invariant
