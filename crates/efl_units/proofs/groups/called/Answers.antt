-- One function more is in the groups of its callers.
use Rattle.std.proofs.Common.{rules, ◌+◌, drop, [], ◌∷◌, ◌∙◌, sym, ap, map}
use Rattle.std.proofs.Math.ListN.{drop_of_length-le}
use Rattle.std.proofs.lemmas.List.{with_items_is}
use Rattle.efl_tree.specs.Views.{procedure_of}
use Rattle.efl_room.proofs.Rows.{next_member}
use Rattle.efl_units.specs.Groups.{called_in, groups_of, put_all}
use Rattle.efl_units.proofs.GroupSteps.{called_more}
use Rattle.efl_units.proofs.groups.called.Goals as goal

pub loop-number-preserved : goal.loop-number-preserved
loop-number-preserved c =
    let i = c.loop-number.number in
    let next = ap (map procedure_of) (next_member c.args.procedures.now i c.index-procedures-number.result c.loop-number-test.true c.index-procedures-number.is) in
    let u = procedure_of c.index-procedures-number.result in
    let cs = groups_of c.args.callers.now in
    let put = c.in_ok-put_called.ensures ∙ ap (λ gs. put_all (called_in c.args.kind cs i (u ∷ [])) (groups_of gs)) c.deref_mut.ensures.value in
    let back = with_items_is c.loop-number.groups c.put_called.new.groups (search rules) in
    ap (λ all. put_all (called_in c.args.kind cs (i + 1) (map procedure_of (drop (i + 1) c.args.procedures.now))) (groups_of all)) back ∙ called_more c.args.kind cs i u _ _ (groups_of c.loop-number.groups.items) _ next put ∙ c.loop-number.invariant

pub returns : goal.returns
returns c =
    let last = ap (map procedure_of) (drop_of_length-le c.args.procedures.now c.loop-number-test.false) in
    ap (λ us. put_all (called_in c.args.kind (groups_of c.args.callers.now) c.loop-number.number us) (groups_of c.loop-number.groups.items)) (sym last) ∙ c.loop-number.invariant
