-- An earlier unit has the name.
use Rattle.std.proofs.Common.{◌≡◌, ◌∙◌, ◌||◌, Bool, ap, sym, arith}
use Rattle.rule_table.specs.Words.{is_below}
use Rattle.f66_program.specs.Calls.{unit_named}
use Rattle.f66_program.specs.Linking.{is_intrinsic}
use Rattle.linker.specs.CallViews.{units_in}
use Rattle.linker.proofs.duplicates.is_taken.Goals as goal

pub returns-then-is_below : goal.returns-then-is_below
returns-then-is_below c =
    let rs = units_in c.args.calls.now in
    let x = c.args.name.now in
    let named : c.copied.result ≡ unit_named x rs = grind (arith, c.copied.ensures, c.get.ensures.value, c.as_bytes.ensures, c.requires.numbers x) in
    let below = sym c.is_below.ensures ∙ c.if-is_below.true in
    c.if-is_below.true ∙ sym (ap (λ (b : Bool). b || is_intrinsic x) (ap (is_below c.args.number) (sym named) ∙ below))
