-- A constant that is the only subscript.
use Rattle.std.proofs.Common.{arith}
use Rattle.std.proofs.lemmas.Grind.{common_steps}
use Rattle.storage_assoc.proofs.GroupLemmas.{not_alone}
use Rattle.storage_assoc.proofs.equivalences.lone.Goals as goal

pub returns-else-is_empty : goal.returns-else-is_empty
returns-else-is_empty c =
    let s = c.in-Some-Int-default in
    not_alone c.args.subscripts.now s.others.now _ s.subscript s.ensures.cases.0 s.field-0-0-is (grind (arith, common_steps))
