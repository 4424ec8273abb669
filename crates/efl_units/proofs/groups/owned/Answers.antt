-- One variable more is in its group.
use Rattle.std.proofs.Common.{rules, ◌+◌, drop, [], ◌∷◌, ◌∙◌, sym, ap}
use Rattle.std.proofs.Math.ListN.{drop_of_length-le}
use Rattle.std.proofs.lemmas.List.{with_items_is}
use Rattle.efl_room.proofs.Rows.{next_member}
use Rattle.efl_units.specs.Groups.{groups_of, owned_in, put_all}
use Rattle.efl_units.proofs.GroupSteps.{owned_more}
use Rattle.efl_units.proofs.groups.owned.Goals as goal

pub loop-number-preserved : goal.loop-number-preserved
loop-number-preserved c =
    let i = c.loop-number.number in
    let next = next_member c.args.variables.now i c.index-variables-number.result c.loop-number-test.true c.index-variables-number.is in
    let v = c.index-variables-number.result in
    let put = c.in_ok-put_owned.ensures ∙ ap (λ gs. put_all (owned_in c.args.kind i (v ∷ [])) (groups_of gs)) c.deref_mut.ensures.value in
    let back = with_items_is c.loop-number.groups c.put_owned.new.groups (search rules) in
    ap (λ all. put_all (owned_in c.args.kind (i + 1) (drop (i + 1) c.args.variables.now)) (groups_of all)) back ∙ owned_more c.args.kind i v _ _ (groups_of c.loop-number.groups.items) _ next put ∙ c.loop-number.invariant

pub returns : goal.returns
returns c =
    let last = drop_of_length-le c.args.variables.now c.loop-number-test.false in
    ap (λ vs. put_all (owned_in c.args.kind c.loop-number.number vs) (groups_of c.loop-number.groups.items)) (sym last) ∙ c.loop-number.invariant
