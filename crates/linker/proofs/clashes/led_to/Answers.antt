-- The unit of the name, where it is there.
use Rattle.std.proofs.Common.{◌≡◌, ◌∙◌, Some, option_copied, option_and_then, ap, sym, arith}
use Rattle.std.specs.List.{slice_get}
use Rattle.rule_table.proofs.WordLemmas.{got_at}
use Rattle.f66_program.specs.Calls.{unit_named}
use Rattle.linker.specs.CallViews.{units_in}
use Rattle.linker.specs.TypeViews.{routine_typed}
use Rattle.linker.proofs.CallLemmas.{got_seen, seen_copied}
use Rattle.linker.proofs.clashes.led_to.Goals as goal

pub returns-in-Some : goal.returns-in-Some
returns-in-Some c =
    let rs = units_in c.args.calls.now in
    let number = c.in-Some.number.now in
    let units = c.args.units.now in
    let found = c.get-in-Some.result in
    let named : unit_named c.args.site.now.name.now rs ≡ Some number = grind (arith, c.in-Some.ensures.value, c.as_bytes.ensures, c.requires.calls.numbers c.args.site.now.name.now) in
    let at = got_at units number found c.get-in-Some.ensures.lookup in
    seen_copied routine_typed found ∙ sym (got_seen routine_typed units number (option_copied found) (sym at)) ∙ ap (λ all. slice_get all number) c.requires.units
    ∙ sym (ap (option_and_then (slice_get rs)) named)
