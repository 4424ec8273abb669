-- What is made in place of a word that a macro names.
use Rattle.std.proofs.Common.{◌≡◌, sym, ◌∙◌, ap, subst, [], ◌++◌, ◌∷◌, length, Ok, rules, List}
use Rattle.std.specs.Prelude.{Result}
use Rattle.ground.specs.declared.fault.Fault.{Fault}
use Rattle.macro_define.specs.declared.uses.Use.{Use}
use Rattle.macro_define.specs.Made.{Came, Made, made}
use Rattle.macro_define.specs.Macros.{replaced}
use Rattle.macro_define.specs.Plain.{lone_made}
use Rattle.macro_define.specs.Uses.{still_made, table}
use Rattle.macro_define.proofs.GoesLemmas.{goes-failed}
use Rattle.macro_define.proofs.LoneLemmas.{replaced_lone}
use Rattle.macro_define.proofs.UseLemmas.{begun_by, replaced-all}
use Rattle.macro_define.proofs.macros.replace.Goals as goal

pub returns-in_err-begin : goal.returns-in_err-begin
returns-in_err-begin c =
    let d = c.args.dialect in
    let macros = table c.args.macros.now in
    let place = c.args.place in
    let us = c.new-uses.result in
    let m = made c.args.output.now in
    let whole : replaced d macros place (length macros) [] c.args.number m ≡ begun_by d macros place us c.args.number m =
    sym (replaced-all d macros place c.args.number m) ∙ ap (λ (xs : List Use). begun_by d macros place xs c.args.number m) (sym c.new-uses.ensures) in
    goes-failed (Unit {0}) (Unit {0}) (begun_by d macros place us c.args.number m) (still_made d macros place [] c.begin.new.uses (made c.begin.new.output))
    (replaced d macros place (length macros) [] c.args.number m) (Ok (made c.begin.new.output)) c.in_err-begin.field-0.0 c.from_residual.result
    c.in_err-begin.ensures.made (λ fault told. whole ∙ told) c.from_residual.ensures

pub loop-innermost-init : goal.loop-innermost-init
loop-innermost-init c =
    let d = c.args.dialect in
    let macros = table c.args.macros.now in
    let place = c.args.place in
    let m = made c.args.output.now in
    sym (replaced-all d macros place c.args.number m)
    ∙ ap (λ (xs : List Use). begun_by d macros place xs c.args.number m) (sym c.new-uses.ensures)
    ∙ c.in_ok-begin.ensures.made

pub loop-innermost-preserved : goal.loop-innermost-preserved
loop-innermost-preserved c =
    let d = c.args.dialect in
    let macros = table c.args.macros.now in
    let place = c.args.place in
    let m = made c.loop-innermost.output in
    c.loop-innermost.invariant
    ∙ ap (λ (us : List Use). still_made d macros place [] us m) c.in-Some-pop.ensures.text
    ∙ c.in_ok-go_on.ensures.made

pub returns-in_err-go_on : goal.returns-in_err-go_on
returns-in_err-go_on c =
    let d = c.args.dialect in
    let macros = table c.args.macros.now in
    let place = c.args.place in
    let m = made c.loop-innermost.output in
    let still = still_made d macros place [] (c.pop.new.self ++ c.in-Some-pop.innermost ∷ []) m in
    let whole : replaced d macros place (length macros) [] c.args.number (made c.args.output.now) ≡ still = c.loop-innermost.invariant ∙ ap (λ (us : List Use). still_made d macros place [] us m) c.in-Some-pop.ensures.text in
    goes-failed (Unit {0}) (Unit {0}) still (still_made d macros place [] c.go_on.new.uses (made c.go_on.new.output))
    (replaced d macros place (length macros) [] c.args.number (made c.args.output.now)) (Ok (made c.go_on.new.output)) c.in_err-go_on.field-0.0 c.from_residual-in_err-go_on.result
    c.in_err-go_on.ensures.made (λ fault told. whole ∙ told) c.from_residual-in_err-go_on.ensures

pub returns-in-Some : goal.returns-in-Some
returns-in-Some c =
    let macros = table c.args.macros.now in
    let m = made c.args.output.now in
    let kind = c.in-Some.kind.now in
    let lone : replaced c.args.dialect macros c.args.place (length macros) [] c.args.number m ≡ lone_made c.args.place kind m = replaced_lone c.args.dialect macros c.args.place c.args.number kind c.in-Some.ensures m c.requires in
    subst (λ (told : Result Made Fault). Came told c.put_lone.result (made c.put_lone.new.output)) (sym lone) c.put_lone.ensures

pub returns : goal.returns
returns c =
    let d = c.args.dialect in
    let macros = table c.args.macros.now in
    let place = c.args.place in
    let m = made c.loop-innermost.output in
    let none : c.loop-innermost.uses ≡ [] = search rules in
    c.loop-innermost.invariant ∙ ap (λ (us : List Use). still_made d macros place [] us m) none
