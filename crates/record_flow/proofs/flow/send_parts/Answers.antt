-- Of a line and a byte 10 a front was put.
use Rattle.std.proofs.Common.{refl, ◌++◌, ◌∷◌, []}
use Rattle.ports.proofs.PutsInARow.{puts_on}
use Rattle.record_flow.proofs.Puts.{puts_cut_of, on_err}
use Rattle.record_flow.proofs.flow.send_parts.Goals as goal

pub returns-in-Ok-clause-cut : goal.returns-in-Ok-clause-cut
returns-in-Ok-clause-cut g c =
    on_err c.put-in-Ok.result (λ p. puts_on g.K.Sink.puts g.met.K.Sink.in_a_row c.args.out.now c.put.new.self c.put-in-Ok.new.self c.args.line.now (10 ∷ []) [] (c.args.line.now ++ 10 ∷ []) c.in-Ok.ensures.ok p refl) c.put-in-Ok.ensures.failed

pub returns-in-Err-clause-cut : goal.returns-in-Err-clause-cut
returns-in-Err-clause-cut g c = puts_cut_of g.K.Sink.puts c.args.out.now c.put.new.self c.args.line.now (10 ∷ []) c.in-Err.ensures.failed
