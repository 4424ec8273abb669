-- The characters come in by the edits A1 that come next.
use Rattle.std.proofs.Common.{arith, ◌≡◌, ap, refl, ◌≤◌, length, take, length-take, min}
use Rattle.f66_tree.specs.Fielded.{field}
use Rattle.format_io.specs.Places.{format}
use Rattle.format_io.proofs.FieldFacts.{field_length}
use Rattle.format_io.proofs.LetterRuns.{front_back, takes_laid}
use Rattle.format_io.proofs.edit.Edit.take_laid.Goals as goal

pub overflow_add-self : goal.overflow_add-self
overflow_add-self c =
    let within : c.letters-count.result ≤ length (take c.min-most.result c.args.bytes.now) = c.letters-count.ensures.within in
    let long : length (take c.min-most.result c.args.bytes.now) ≡ min c.min-most.result (length c.args.bytes.now) = length-take c.min-most.result c.args.bytes.now in
    let most = c.min-most.ensures in
    let same : c.self.inside.walk.past ≡ c.args.self.now.past = ap (λ s. s.past) c.self.view_is in
    omega (arith, within, long, most, same, c.letters_laid.ensures.fits)

pub returns-clause-letters : goal.returns-clause-letters
returns-clause-letters c =
    let within : c.letters-count.result ≤ length (take c.min-most.result c.args.bytes.now) = c.letters-count.ensures.within in
    let long : length (take c.min-most.result c.args.bytes.now) ≡ min c.min-most.result (length c.args.bytes.now) = length-take c.min-most.result c.args.bytes.now in
    let most = c.min-most.ensures in
    let k = c.letters-count.result in
    let cs = field k c.self.inside.input in
    let n : length cs ≡ k = field_length k c.self.inside.input in (
      cs,
      c.letters-count.ensures.letters,
      n,
      front_back c.args.bytes.now c.letters-count.new.bytes cs c.min-most.result k within c.letters-count.ensures.came,
      takes_laid (format c.args.plan.now) _ _ _ _ _ _ _ _ c.args.self.now cs k c.letters_laid.result c.self.view_is c.requires.way (omega (arith, within, long, most))
          c.letters_laid.ensures.between c.letters_laid.ensures.onward n c.letters-count.ensures.letters refl c.skip.ensures,
    )
