-- Characters that go out one after the other are steps that the definition has.
use Rattle.std.proofs.Common.{◌∙◌, ap, subst, take}
use Rattle.f66_tree.specs.Turns.{is_over}
use Rattle.format_io.specs.Places.{hand_of}
use Rattle.record_flow.specs.Letters.{SendsLetters}
use Rattle.record_flow.proofs.Characters.{sends, puts_go}
use Rattle.record_flow.specs.Flows.{files, tape}
use Rattle.record_flow.proofs.flow.Flow.put_letters.Goals as goal

pub returns-clause-going : goal.returns-clause-going
returns-clause-going c going =
    let fs = c.args.plan.now in
    puts_go (take c.put_letters.result c.args.text.now) (hand_of fs c.self.inside.edit) (hand_of fs c.put_letters.new.self) c.put_letters.ensures.put (ap (λ s. is_over s.stand.mark) c.self.view_is ∙ going)

pub returns-clause-sent : goal.returns-clause-sent
returns-clause-sent c = λ unread written.
    let fs = c.args.plan.now in
    let cs = take c.put_letters.result c.args.text.now in
    subst (λ s. SendsLetters cs (tape fs s.stand unread written) (tape fs c.put_letters.new.self unread written)) c.self.view_is
    (sends cs (hand_of fs c.self.inside.edit) (hand_of fs c.put_letters.new.self) (files unread written) c.put_letters.ensures.put)
