-- No format begins so.
use Rattle.std.proofs.Common.{ap, sym, ◌∙◌}
use Rattle.stmt_reader.specs.Formats.{all_taken}
use Rattle.stmt_formats.specs.States.{place_if, place_of}
use Rattle.stmt_formats.proofs.PlaceLemmas.{lost_from}
use Rattle.stmt_formats.proofs.places.read_items.Goals as goal

pub returns-in-None : goal.returns-in-None
returns-in-None c =
    lost_from (place_of c.loop-token.place) c.args.tokens.now c.loop-token.token-index c.token-item.result c.loop-token-test.true c.token-item.is (ap place_if (sym c.in-None.is) ∙ c.in_ok-take.ensures)
    ∙ ap all_taken c.loop-token.invariant
