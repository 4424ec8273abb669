-- Why `answer_to` keeps its clauses.
use Rattle.std.proofs.Common.{rules, refl, subst, sym}
use Rattle.eft_top.specs.Reading.{asked_command}
use Rattle.eft_top.specs.Story.{BadWords, Asked, NoMemory, HasPut}
use Rattle.eft_top.specs.Words.{Cards, Listing, texts}
use Rattle.eft_top.proofs.ReadWords.{one_command}
use Rattle.eft_top.proofs.answer.answer_to.Goals as goal

pub returns-in_default-clause-came : goal.returns-in_default-clause-came
returns-in_default-clause-came g c = BadWords c.in_default.ensures (record { all = g.met.K.Sink.nothing c.args.out.now; steady = refl }) (record { status = search rules; line = search rules })

pub returns-in-Ok-clause-came : goal.returns-in-Ok-clause-came
returns-in-Ok-clause-came g c = Asked (asked_command c.in-Some.asked) c.in-Some.ensures c.in-Ok.ensures.came

pub returns-in-Err-clause-came : goal.returns-in-Err-clause-came
returns-in-Err-clause-came g c =
    let none = subst (λ out. HasPut g.K.Sink.puts g.K.Sink.faults c.args.out.now out _) (sym c.in-Err.ensures.unput) (record { all = g.met.K.Sink.nothing c.args.out.now; steady = refl }) in
    Asked (asked_command c.in-Some.asked) c.in-Some.ensures (NoMemory none (record { status = search rules; line = search rules }))

pub returns-in_default-clause-unasked : goal.returns-in_default-clause-unasked
returns-in_default-clause-unasked g c language file asks = absurd (c.in_default.ensures (Cards language file) asks)

pub returns-in-Ok-clause-unasked : goal.returns-in-Ok-clause-unasked
returns-in-Ok-clause-unasked g c language file asks =
    c.in-Ok.ensures.unasked language file (one_command (texts c.args.words.now.items) (asked_command c.in-Some.asked) (Cards language file) c.in-Some.ensures asks)

pub returns-in-Err-clause-unasked : goal.returns-in-Err-clause-unasked
returns-in-Err-clause-unasked g c language file asks =
    c.in-Err.ensures.unasked language file (one_command (texts c.args.words.now.items) (asked_command c.in-Some.asked) (Cards language file) c.in-Some.ensures asks)

pub returns-in_default-clause-unlisted : goal.returns-in_default-clause-unlisted
returns-in_default-clause-unlisted g c language file asks = absurd (c.in_default.ensures (Listing language file) asks)

pub returns-in-Ok-clause-unlisted : goal.returns-in-Ok-clause-unlisted
returns-in-Ok-clause-unlisted g c language file asks =
    c.in-Ok.ensures.unlisted language file (one_command (texts c.args.words.now.items) (asked_command c.in-Some.asked) (Listing language file) c.in-Some.ensures asks)

pub returns-in-Err-clause-unlisted : goal.returns-in-Err-clause-unlisted
returns-in-Err-clause-unlisted g c language file asks =
    c.in-Err.ensures.unlisted language file (one_command (texts c.args.words.now.items) (asked_command c.in-Some.asked) (Listing language file) c.in-Some.ensures asks)
