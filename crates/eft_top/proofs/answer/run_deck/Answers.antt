-- Why `run_deck` keeps its clauses.
use Rattle.std.proofs.Common.{map, Ok, refl}
use Rattle.f66_tree.specs.Views.{routine_of}
use Rattle.linker.specs.Rules.{program_of}
use Rattle.macro_define.specs.Answers.{answer}
use Rattle.deck_file.proofs.OneLoaded.{loaded_accepted, all_sound, all_well}
use Rattle.eft_top.specs.Story.{Came}
use Rattle.eft_top.proofs.Reports.{if_ok, shows_so, ran_deck, refused_deck}
use Rattle.eft_top.proofs.answer.run_deck.Goals as goal

pub run-requires : goal.run-requires
run-requires g c =
    let deck = c.in-Ok.ensures.deck in
    let accepted = loaded_accepted (answer deck.known c.args.file.now) (program_of c.in-Ok.deck.units.items c.in-Ok.deck.finish) deck.gives in
    let units = map routine_of c.in-Ok.deck.units.items in
    record { sound = all_sound units accepted.units; well = all_well units accepted.units; whole = accepted.whole }

pub returns-in-Ok-clause-came : goal.returns-in-Ok-clause-came
returns-in-Ok-clause-came g c =
    let deck = c.in-Ok.ensures.deck in
    let made = program_of c.in-Ok.deck.units.items c.in-Ok.deck.finish in
    if_ok (λ report shows.
    Came c.in-Ok.ensures.cause (shows_so (λ given o over. (deck.known, deck.of, (Ok made, deck.gives, ran_deck made _ c.args.file.now c.args.limit c.in_ok-files.ensures given o over))) shows))
    c.run.result
    c.run.ensures.shows

pub returns-in-Ok-clause-unread : goal.returns-in-Ok-clause-unread
returns-in-Ok-clause-unread g c = if_ok (λ report needs none. absurd (needs none)) c.run.result c.run.ensures.needs

pub returns-in-Err-clause-came : goal.returns-in-Err-clause-came
returns-in-Err-clause-came g c =
    if_ok (λ report shows.
    refused_deck c.args.limit c.args.file.now _ _ _ _ _ _ _ c.in-Err.refusal report c.in-Err.ensures.deck c.in-Err.ensures.cause (record { all = g.met.K.Sink.nothing c.args.out.now; steady = refl }) shows)
    c.refused.result
    c.refused.ensures
