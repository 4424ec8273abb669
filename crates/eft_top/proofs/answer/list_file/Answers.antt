-- Why `list_file` keeps its clauses.
use Rattle.std.proofs.Common.{refl}
use Rattle.linker.specs.Rules.{program_of}
use Rattle.front.specs.Verdict.{Accepts, Refuses}
use Rattle.eft_top.specs.Words.{Listing}
use Rattle.eft_top.specs.Story.{Came}
use Rattle.eft_top.proofs.Reports.{if_ok, prints_shows, refused_came}
use Rattle.eft_top.proofs.answer.list_file.Goals as goal

pub list_units-requires : goal.list_units-requires
list_units-requires g c =
    let program = c.in-Ok.ensures.text.gives.2 in
    record { sound = program.sound; well = program.linked.well; whole = program.linked.whole }

pub returns-in-Ok-clause-came : goal.returns-in-Ok-clause-came
returns-in-Ok-clause-came g c =
    let text = c.in-Ok.ensures.text in
    let files = c.in-Ok.translated.files.items in
    let made = program_of c.in-Ok.translated.made.units.items c.in-Ok.translated.made.finish in
    if_ok (λ report prints.
    Came c.in-Ok.ensures.cause
    (prints_shows prints.0 _ (λ given. (text.known, text.of, (Accepts files text.gives.0, text.gives.1, (prints.0, record { made = made; program = text.gives.2; listed = prints.1 }, refl)))) _ _ _ _ report prints.2))
    c.list_units.result
    c.list_units.ensures.prints

pub returns-in-Err-clause-came : goal.returns-in-Err-clause-came
returns-in-Err-clause-came g c =
    if_ok (λ report shows.
    refused_came (Listing c.args.language c.args.file.now) c.args.language c.args.file.now _ _ _ _ _ _ _ c.in-Err.refusal report (λ fault name known becomes. (Refuses fault name, becomes, refl)) c.in-Err.ensures.text c.in-Err.ensures.cause
    (record { all = g.met.K.Sink.nothing c.args.out.now; steady = refl }) shows)
    c.refused.result
    c.refused.ensures
