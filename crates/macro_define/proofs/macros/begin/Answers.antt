-- A macro that is in use already, one too many in use, and one that begins.
use Rattle.std.proofs.Common.{◌≡◌, ◌==◌, false, sym, ◌∙◌, ap, [], ◌++◌, ◌∷◌, Ok, Err, rules}
use Rattle.std.specs.List.{list_any}
use Rattle.macro_define.specs.Made.{counted, made}
use Rattle.macro_define.specs.Uses.{still_made, table}
use Rattle.macro_define.proofs.GoesLemmas.{goes-failed}
use Rattle.macro_define.proofs.UseLemmas.{begun_by, begun-loop, begun-limit, begun-goes}
use Rattle.macro_define.proofs.macros.begin.Goals as goal

pub returns-then-has-clause-made : goal.returns-then-has-clause-made
returns-then-has-clause-made c =
    begun-loop c.args.dialect (table c.args.macros.now) c.args.place c.args.uses.now c.args.number (made c.args.output.now)
    (sym c.has.ensures ∙ c.if-has.true)
    ∙ ap (λ f. Err f) (sym c.new.ensures)

pub returns-in_err-count-clause-made : goal.returns-in_err-count-clause-made
returns-in_err-count-clause-made c =
    let d = c.args.dialect in
    let macros = table c.args.macros.now in
    let place = c.args.place in
    let us = c.args.uses.now in
    let before = made c.args.output.now in
    let new : list_any (λ u. u.number == c.args.number) us ≡ false = sym c.has.ensures ∙ c.if-has.false in
    goes-failed (Unit {0}) (Unit {0}) (counted place before) (Ok (made c.count.new.self)) (begun_by d macros place us c.args.number before) (still_made d macros place [] us (made c.count.new.self)) c.in_err-count.field-0.0 c.from_residual.result
    c.in_err-count.ensures (λ fault told. begun-limit d macros place us c.args.number before fault c.requires new told) c.from_residual.ensures

pub returns-clause-made : goal.returns-clause-made
returns-clause-made c =
    let pushed : c.args.uses.now ++ record { number = c.args.number; next = 0 } ∷ [] ≡ c.push.new.self = search rules in
    begun-goes c.args.dialect (table c.args.macros.now) c.args.place c.args.uses.now c.args.number (made c.args.output.now) (made c.count.new.self) c.requires
    (sym c.has.ensures ∙ c.if-has.false) c.in_ok-count.ensures
    ∙ ap (λ us. still_made c.args.dialect (table c.args.macros.now) c.args.place [] us (made c.count.new.self)) pushed
