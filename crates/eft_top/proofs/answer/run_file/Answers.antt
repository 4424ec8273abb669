-- Why `run_file` keeps its clauses.
use Rattle.std.proofs.Common.{refl}
use Rattle.linker.specs.Rules.{program_of}
use Rattle.front.specs.Verdict.{Accepts, Refuses}
use Rattle.eft_top.specs.Words.{Run}
use Rattle.eft_top.specs.Story.{Came}
use Rattle.eft_top.proofs.Reports.{if_ok, shows_so, ran_text, refused_came}
use Rattle.eft_top.proofs.answer.run_file.Goals as goal

pub run-requires : goal.run-requires
run-requires g c =
    let program = c.in-Ok.ensures.text.gives.2 in
    record { sound = program.sound; well = program.linked.well; whole = program.linked.whole }

pub returns-in-Ok-clause-came : goal.returns-in-Ok-clause-came
returns-in-Ok-clause-came g c =
    let text = c.in-Ok.ensures.text in
    let files = c.in-Ok.field-0.files.items in
    let made = program_of c.in-Ok.field-0.made.units.items c.in-Ok.field-0.made.finish in
    if_ok (λ report shows.
    Came c.in-Ok.ensures.cause (shows_so (λ given o over. (text.known, text.of, (Accepts files text.gives.0, text.gives.1, ran_text files made text.gives.0 c.args.limit c.args.count text.gives.2 given o over))) shows))
    c.run.result
    c.run.ensures.shows

pub returns-in-Ok-clause-unread : goal.returns-in-Ok-clause-unread
returns-in-Ok-clause-unread g c = if_ok (λ report needs none. absurd (needs none)) c.run.result c.run.ensures.needs

pub returns-in-Err-clause-came : goal.returns-in-Err-clause-came
returns-in-Err-clause-came g c =
    if_ok (λ report shows.
    refused_came (Run c.args.limit c.args.count c.args.language c.args.file.now) c.args.language c.args.file.now _ _ _ _ _ _ _ c.in-Err.refusal report (λ fault name known becomes. (Refuses fault name, becomes, refl)) c.in-Err.ensures.text c.in-Err.ensures.cause
    (record { all = g.met.K.Sink.nothing c.args.out.now; steady = refl }) shows)
    c.refused.result
    c.refused.ensures
