-- The unit of the name, where it is there.
use Rattle.std.proofs.Common.{◌≡◌, ◌∙◌, Some, None, ap, sym, arith}
use Rattle.std.specs.Option.{option_copied}
use Rattle.std.specs.List.{slice_get}
use Rattle.rule_table.proofs.WordLemmas.{got_at}
use Rattle.f66_tree.specs.Views.{routine_of}
use Rattle.f66_program.specs.Calls.{unit_named}
use Rattle.linker.specs.CallViews.{units_in}
use Rattle.linker.specs.SiteViews.{site_of}
use Rattle.linker.proofs.CallLemmas.{got_seen, miscounted_at}
use Rattle.linker.proofs.call_rules.is_miscounted.Goals as goal

pub returns-in-Some-get : goal.returns-in-Some-get
returns-in-Some-get c =
    let rs = units_in c.args.calls.now in
    let named : unit_named c.args.site.now.name.now rs ≡ Some c.in-Some.number.now = grind (arith, c.in-Some.ensures.value, c.as_bytes.ensures, c.requires.numbers c.args.site.now.name.now) in
    let at = got_at c.args.calls.now.units.now c.in-Some.number.now c.get-in-Some.result c.get-in-Some.ensures.lookup in
    let here : slice_get c.args.calls.now.units.now c.in-Some.number.now ≡ Some c.in-Some-get.unit.now = sym at ∙ ap option_copied c.in-Some-get.is in
    c.miscounts.ensures ∙ sym (miscounted_at rs (site_of c.args.site.now) c.in-Some.number.now (Some (routine_of c.in-Some-get.unit.now)) named
    (got_seen routine_of c.args.calls.now.units.now c.in-Some.number.now (Some c.in-Some-get.unit.now) here))

pub returns-in-None-get : goal.returns-in-None-get
returns-in-None-get c =
    let rs = units_in c.args.calls.now in
    let named : unit_named c.args.site.now.name.now rs ≡ Some c.in-Some.number.now = grind (arith, c.in-Some.ensures.value, c.as_bytes.ensures, c.requires.numbers c.args.site.now.name.now) in
    let at = got_at c.args.calls.now.units.now c.in-Some.number.now c.get-in-Some.result c.get-in-Some.ensures.lookup in
    let here : slice_get c.args.calls.now.units.now c.in-Some.number.now ≡ None = sym at ∙ ap option_copied c.in-None-get.is in
    sym (miscounted_at rs (site_of c.args.site.now) c.in-Some.number.now None named (got_seen routine_of c.args.calls.now.units.now c.in-Some.number.now None here))
