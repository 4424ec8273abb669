-- Parentheses are open.
use Rattle.std.proofs.Common.{List, [], map, ap, sym, ◌∙◌}
use Rattle.stmt_formats.specs.declared.places.Around.{Around}
use Rattle.stmt_formats.specs.States.{arounds_onto, has_some, item_of}
use Rattle.stmt_formats.proofs.PlaceLemmas.{some_open}
use Rattle.stmt_formats.proofs.places.alone.Goals as goal

pub returns-then-has_around : goal.returns-then-has_around
returns-then-has_around c =
    some_open (arounds_onto c.args.around.items []) (map item_of c.args.before.items)
    (ap (λ (all : List Around). has_some (arounds_onto all [])) (sym c.deref.ensures.value) ∙ sym c.has_around.ensures ∙ c.if-has_around.true)
