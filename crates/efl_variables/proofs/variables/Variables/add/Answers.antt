-- The variable is the last one.
use Rattle.std.proofs.Common.{◌≡◌, length, refl, rules}
use Rattle.efl_variables.specs.declared.variables.Variables.{Variables}
use Rattle.efl_variables.proofs.VariableLemmas.{variables_more}
use Rattle.efl_variables.proofs.variables.Variables.add.Goals as goal

pub returns : goal.returns
returns c = λ xs x is none its known.
    let old = c.args.self.now in
    let new : Variables = record { numbers = old.numbers; seen = c.insert.new.self; list = c.push.new.self } in
    let many : c.len.result ≡ length old.list.items = search rules in
    variables_more xs x c.args.number c.len.result c.args.variable old new refl is none its many c.in_ok-insert.ensures.updates.0 c.in_ok-push.ensures.items known
