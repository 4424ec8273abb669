-- The statements of a unit are those that its commands become, and they end in a transfer.
use Rattle.std.proofs.Common.{ap, ◌∙◌}
use Rattle.f66_tree.specs.Views.{header_of, lines_of}
use Rattle.rat_tree.specs.Views.{commands}
use Rattle.rat_lower.specs.Code.{ends_itself, have_switch}
use Rattle.rat_lower.proofs.Emitting.Units.{ends_with_its_end, unit_lowered}
use Rattle.rat_lower.proofs.unit.put_unit.Goals as goal

pub returns : goal.returns
returns c =
    let h = header_of c.args.header.now in
    let ss = commands c.args.body.items in
    let used = c.have_switch.ensures ∙ ap (λ v. have_switch (commands v)) c.deref.ensures.value in
    record {
      code =
          unit_lowered h c.args.maker.now c.emit_all.new.maker c.have_switch.result c.args.place c.args.finish ss (lines_of c.args.code.now.items) _ _ _ c.requires.none_made c.requires.own used (ap lines_of c.requires.none_put)
          c.in_ok-put_spare.ensures c.in_ok-emit_all.ensures c.in_ok-put_end.ensures;
      ends = ap (ends_itself h) c.in_ok-put_end.ensures ∙ ends_with_its_end h c.args.finish (lines_of c.emit_all.new.code.items);
    }
