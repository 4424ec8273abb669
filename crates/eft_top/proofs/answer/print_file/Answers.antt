-- Why `print_file` keeps its clauses.
use Rattle.std.proofs.Common.{refl}
use Rattle.linker.specs.Rules.{program_of}
use Rattle.deck.specs.Decks.{deck_of}
use Rattle.front.specs.Verdict.{Accepts, Refuses}
use Rattle.eft_top.specs.Words.{Cards}
use Rattle.eft_top.specs.Story.{Came}
use Rattle.eft_top.proofs.Reports.{if_ok, prints_shows, refused_came}
use Rattle.eft_top.proofs.answer.print_file.Goals as goal

pub print_units-requires : goal.print_units-requires
print_units-requires g c =
    let program = c.in-Ok.ensures.text.gives.2 in
    record { sound = program.sound; printable = program.printable }

pub returns-in-Ok-clause-came : goal.returns-in-Ok-clause-came
returns-in-Ok-clause-came g c =
    let text = c.in-Ok.ensures.text in
    let files = c.in-Ok.translated.files.items in
    let made = program_of c.in-Ok.translated.made.units.items c.in-Ok.translated.made.finish in
    let deck = deck_of made.units in
    if_ok (λ report prints.
    Came c.in-Ok.ensures.cause
    (prints_shows deck _ (λ given. (text.known, text.of, (Accepts files text.gives.0, text.gives.1, (deck, record { made = made; program = text.gives.2; is = refl }, refl)))) _ _ _ _ report prints))
    c.print_units.result
    c.print_units.ensures.prints

pub returns-in-Err-clause-came : goal.returns-in-Err-clause-came
returns-in-Err-clause-came g c =
    if_ok (λ report shows.
    refused_came (Cards c.args.language c.args.file.now) c.args.language c.args.file.now _ _ _ _ _ _ _ c.in-Err.refusal report (λ fault name known becomes. (Refuses fault name, becomes, refl)) c.in-Err.ensures.text c.in-Err.ensures.cause
    (record { all = g.met.K.Sink.nothing c.args.out.now; steady = refl }) shows)
    c.refused.result
    c.refused.ensures
