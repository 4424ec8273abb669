-- The number in the area, and then the area.
use Rattle.std.proofs.lemmas.Result.{IfOk-weaker}
use Rattle.efl_types.specs.Presets.{OfArea}
use Rattle.efl_scoped.specs.Seen.{table_of, Leads}
use Rattle.efl_initial_values.specs.Owners.{Codes}
use Rattle.efl_initial_values.proofs.OwnerLemmas.{shared_codes}
use Rattle.efl_initial_values.proofs.owners.number_shared.Goals as goal

pub returns : goal.returns
returns c =
    let f = table_of c.args.numbers.now in
    let g = table_of c.number.new.self in
    let h = table_of c.number_bytes.new.numbers in
    let area = c.args.area.now in
    IfOk-weaker c.number_bytes.result (λ n. Leads g area c.in_ok-first.first h n) (λ n. Codes f (OfArea area c.args.number) h n)
    (λ n at. shared_codes f g h c.args.number c.in_ok-first.first n area c.in_ok-first.ensures.kept c.in_ok-first.ensures.numbered at) c.number_bytes.ensures
