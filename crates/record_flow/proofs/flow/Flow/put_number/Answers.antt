-- An integer that went out leaves the statement going, and one that a trap kept leaves the records as they are.
use Rattle.std.proofs.Common.{◌≡◌, sym, ◌∙◌, ap, rules, refl, FitsSigned, w64, Ok, Err}
use Rattle.std.specs.Prelude.{Some}
use Rattle.std.proofs.lemmas.Int.{to_z-of_z}
use Rattle.f66_tree.specs.Fields.{NoField}
use Rattle.f66_tree.specs.Turns.{put_whole, put_letter}
use Rattle.f66_tree.specs.declared.editing.EditKind.TheVariants as edits
use Rattle.format_io.specs.Places.{hand_of}
use Rattle.format_io.specs.Answers.{due_of}
use Rattle.record_flow.specs.Flows.{tape}
use Rattle.record_flow.proofs.Contents.{whole_out, letter_out, whole_stays, put_broken}
use Rattle.record_flow.proofs.flow.Flow.put_number.Goals as goal

pub returns-in_ok-put_int-in-Some-Whole-clause-going : goal.returns-in_ok-put_int-in-Some-Whole-clause-going
returns-in_ok-put_int-in-Some-Whole-clause-going c = whole_out (hand_of NoField c.self.inside.edit) (hand_of NoField c.put_int.new.self) _ (c.in_ok-put_int-in-Some-Whole.ensures.hand NoField)

pub returns-in_ok-put_char-in-Some-Letter-clause-going : goal.returns-in_ok-put_char-in-Some-Letter-clause-going
returns-in_ok-put_char-in-Some-Letter-clause-going c =
    let fits : FitsSigned w64 c.args.n = search rules in
    let said : put_letter (hand_of NoField c.self.inside.edit) c.args.n ≡ Ok (hand_of NoField c.put_char.new.self) = simp to_z-of_z at (c.in_ok-put_char-in-Some-Letter.ensures.hand NoField) in
    letter_out (hand_of NoField c.self.inside.edit) (hand_of NoField c.put_char.new.self) c.args.n said

pub returns-in_err-put_int-in-Some-Whole-clause-step : goal.returns-in_err-put_int-in-Some-Whole-clause-step
returns-in_err-put_int-in-Some-Whole-clause-step c fs unread written =
    let fits : FitsSigned w64 c.args.n = search rules in
    let old = tape fs c.args.self.now.stand unread written in
    let said0 : put_whole (hand_of fs c.self.inside.edit) c.args.n ≡ Err c.in_err-put_int-in-Some-Whole.field-0.0 = simp to_z-of_z at (c.in_err-put_int-in-Some-Whole.ensures.hand fs) in
    let said : put_whole old.hand c.args.n ≡ Err c.in_err-put_int-in-Some-Whole.field-0.0 = ap (λ s. put_whole (hand_of fs s.stand) c.args.n) (sym c.self.view_is) ∙ said0 in
    let which : due_of old.hand.mark ≡ Some edits.Whole = ap (λ s. due_of s.stand.mark) (sym c.self.view_is) ∙ sym c.in-Some-Whole.ensures ∙ ap (λ k. Some k) c.in-Some-Whole.field-0-is in
    put_broken c.from_residual.result _ _ _ c.from_residual.ensures.1 (whole_stays old (tape fs c.put_int.new.self unread written) c.args.n _ which said refl)
