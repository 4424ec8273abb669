-- What is made of the next token.
use Rattle.std.proofs.Common.{◌≡◌, sym, [], ◌++◌, ◌∷◌, ◌+◌, rules, subst, Result}
use Rattle.ground.specs.declared.fault.Fault.{Fault}
use Rattle.macro_define.specs.Made.{Goes, Made, made}
use Rattle.macro_define.specs.Uses.{still_made, table}
use Rattle.macro_define.proofs.UseLemmas.{still-ended, still-next}
use Rattle.macro_define.proofs.macros.go_on.Goals as goal

pub returns-clause-made : goal.returns-clause-made
returns-clause-made c =
    let d = c.args.dialect in
    let macros = table c.args.macros.now in
    let place = c.args.place in
    let m = made c.args.output.now in
    let u = c.args.innermost in
    let kind = c.in-Some.kind.now in
    let pushed : c.push.new.self ≡ c.args.uses.now ++ record { number = u.number; next = u.next + 1 } ∷ [] = search rules in
    let e = still-next d macros place c.args.uses.now u m kind (sym c.in-Some.ensures.kind) c.push.new.self pushed in
    subst (λ (x : Result Made Fault). Goes x c.add_kind.result (still_made d macros place [] c.add_kind.new.uses (made c.add_kind.new.output))) (sym e) c.add_kind.ensures.made

pub returns-in_default-clause-made : goal.returns-in_default-clause-made
returns-in_default-clause-made c =
    still-ended c.args.dialect (table c.args.macros.now) c.args.place c.args.uses.now c.args.innermost (made c.args.output.now) (sym c.in_default.ensures.kind)
