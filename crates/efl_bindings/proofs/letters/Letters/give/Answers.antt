-- One letter more.
use Rattle.std.proofs.Common.{◌≡◌, ◌+◌, ◌≤◌, nat_eq, Some, cond, refl, ap, arith, ◌∙◌}
use Rattle.efl_bindings.specs.Bindings.{letter_in}
use Rattle.efl_bindings.proofs.LetterLemmas.{letters_begun, letters_next, letters_ended}
use Rattle.efl_bindings.proofs.letters.Letters.give.Goals as goal

pub loop-letter-init : goal.loop-letter-init
loop-letter-init c = (λ q. letters_begun c.args.kind (letter_in c.args.self.now q) c.args.first q, λ far. refl)

pub loop-letter-preserved : goal.loop-letter-preserved
loop-letter-preserved c =
    let l = c.loop-letter in
    let from : c.args.first ≤ l.letter = omega arith in (
      λ q.
          c.in_ok-insert.ensures.updates.0 q
          ∙ ap (cond (nat_eq l.letter q) (Some c.args.kind)) (l.invariant.0 q)
          ∙ letters_next c.args.kind (letter_in c.args.self.now q) c.args.first l.letter q from,
      λ far. let e : l.letter + 1 ≡ c.args.first = omega arith in e,
    )

pub returns : goal.returns
returns c =
    let l = c.loop-letter in
    λ q.
    l.invariant.0 q
    ∙ letters_ended c.args.kind (letter_in c.args.self.now q) c.args.first c.args.last l.letter q (let e : c.args.last + 1 ≤ l.letter = omega arith in e) l.auto.letter-end l.invariant.1
