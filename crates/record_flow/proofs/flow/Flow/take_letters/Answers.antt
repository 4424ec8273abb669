-- Characters that come in one after the other are steps that the definition has.
use Rattle.std.proofs.Common.{◌∙◌, ap, subst}
use Rattle.f66_tree.specs.Turns.{is_over}
use Rattle.format_io.specs.Places.{hand_of}
use Rattle.record_flow.specs.Letters.{GetsLetters}
use Rattle.record_flow.proofs.Characters.{gets, takes_go}
use Rattle.record_flow.specs.Flows.{files, tape}
use Rattle.record_flow.proofs.flow.Flow.take_letters.Goals as goal

pub returns-clause-going : goal.returns-clause-going
returns-clause-going c going =
    let fs = c.args.plan.now in
    let l = c.take_letters.ensures.letters in
    takes_go l.0 (hand_of fs c.self.inside.edit) (hand_of fs c.take_letters.new.self) l.4 (ap (λ s. is_over s.stand.mark) c.self.view_is ∙ going)

pub returns-clause-letters : goal.returns-clause-letters
returns-clause-letters c =
    let fs = c.args.plan.now in
    let l = c.take_letters.ensures.letters in
    (l.0, l.1, l.2, l.3, λ unread written. subst (λ s. GetsLetters l.0 (tape fs s.stand unread written) (tape fs c.take_letters.new.self unread written)) c.self.view_is (gets l.0 (hand_of fs c.self.inside.edit) (hand_of fs c.take_letters.new.self) (files unread written) l.4))
