-- The name's number, and then the procedure, the name and the block.
use Rattle.std.proofs.lemmas.Result.{IfOk-weaker}
use Rattle.efl_types.specs.Presets.{Own}
use Rattle.efl_scoped.specs.Seen.{table_of, Leads}
use Rattle.efl_blocks.specs.HomeViews.{position_of}
use Rattle.efl_initial_values.specs.Owners.{Codes}
use Rattle.efl_initial_values.proofs.OwnerLemmas.{own_codes}
use Rattle.efl_initial_values.proofs.owners.number_own.Goals as goal

pub returns : goal.returns
returns c =
    let f = table_of c.args.numbers.now in
    let g = table_of c.number_bytes.new.numbers in
    let i = table_of c.number.new.self in
    let j = table_of c.number-2.new.self in
    let h = table_of c.number_position.new.numbers in
    let home = position_of c.args.position.now in
    let name = c.args.name.now in
    let second = c.in_ok-second.second in
    IfOk-weaker c.number_position.result (λ n. Leads j home second h n) (λ n. Codes f (Own c.args.unit home name) h n)
    (λ n at. own_codes f g i j h c.args.unit c.in_ok-word.word c.in_ok-first.first second n home name c.in_ok-word.ensures c.in_ok-first.ensures.kept c.in_ok-first.ensures.numbered
    c.in_ok-second.ensures.kept c.in_ok-second.ensures.numbered at) c.number_position.ensures
