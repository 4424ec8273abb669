-- The characters go out by the edits A1 that come next.
use Rattle.std.proofs.Common.{arith, ◌≡◌, ap, ◌∙◌, ◌++◌, subst, ◌≤◌, length, take, length-take, min, All}
use Rattle.format_io.specs.Letters.{IsLetter}
use Rattle.format_io.specs.Places.{format}
use Rattle.format_io.proofs.LetterRuns.{front_taken, front_length, puts_laid}
use Rattle.format_io.proofs.edit.Edit.put_laid.Goals as goal

pub overflow_add-self : goal.overflow_add-self
overflow_add-self c =
    let within : c.letters-count.result ≤ length (take c.min-most.result c.args.text.now) = c.letters-count.ensures.within in
    let long : length (take c.min-most.result c.args.text.now) ≡ min c.min-most.result (length c.args.text.now) = length-take c.min-most.result c.args.text.now in
    let most = c.min-most.ensures in
    let same : c.self.inside.walk.past ≡ c.args.self.now.past = ap (λ s. s.past) c.self.view_is in
    omega (arith, within, long, most, same, c.letters_laid.ensures.fits)

pub returns-clause-letters : goal.returns-clause-letters
returns-clause-letters c =
    subst (All IsLetter) (front_taken c.args.text.now c.min-most.result c.letters-count.result c.letters-count.ensures.within) c.letters-count.ensures.letters

pub returns-clause-put : goal.returns-clause-put
returns-clause-put c =
    let text = c.args.text.now in
    let k = c.letters-count.result in
    let within : k ≤ length (take c.min-most.result text) = c.letters-count.ensures.within in
    let long : length (take c.min-most.result text) ≡ min c.min-most.result (length text) = length-take c.min-most.result text in
    let most = c.min-most.ensures in
    let same = front_taken text c.min-most.result k within in
    puts_laid (format c.args.plan.now) _ _ _ _ _ _ _ _ c.args.self.now (take k text) k c.letters_laid.result c.self.view_is c.requires.way (omega (arith, within, long, most))
    c.letters_laid.ensures.between c.letters_laid.ensures.onward (front_length text c.min-most.result k within) (subst (All IsLetter) same c.letters-count.ensures.letters)
    c.letters-count.ensures.room (c.letters-count.ensures.pushed ∙ ap (λ v. c.self.inside.output ++ v) same)
