-- A record that goes out or comes in is the definition's.
use Rattle.std.proofs.Common.{◌≡◌, sym, ◌∙◌, ap, subst}
use Rattle.std.specs.Prelude.{OnOk}
use Rattle.f66_tree.specs.declared.editing.Way.TheVariants.{Reading, Writing}
use Rattle.record_flow.specs.Moves.{Changes}
use Rattle.record_flow.proofs.Fetching.{change_read, change_written, change_unput}
use Rattle.record_flow.proofs.flow.Flow.change.Goals as goal

pub returns-in-Reading-clause-mark : goal.returns-in-Reading-clause-mark
returns-in-Reading-clause-mark g c =
    subst (λ w. OnOk c.fetch.result (Changes w c.args.self.now.stand.mark c.fetch.new.self.stand.mark)) (c.in-Reading.ensures ∙ ap (λ s. s.stand.way) c.self.view_is) c.fetch.ensures.mark

pub returns-in-Reading-clause-changed : goal.returns-in-Reading-clause-changed
returns-in-Reading-clause-changed g c =
    let reading : c.args.self.now.stand.way ≡ Reading = sym (c.in-Reading.ensures ∙ ap (λ s. s.stand.way) c.self.view_is) in
    change_read g.S.Source.left g.K.Sink.puts g.S.Source.faults g.K.Sink.faults g.met.K.Sink.nothing c.args.input.now c.fetch.new.input c.args.out.now c.args.self.now c.fetch.new.self c.fetch.result reading c.fetch.ensures.fetched

pub returns-in-Ok-clause-mark : goal.returns-in-Ok-clause-mark
returns-in-Ok-clause-mark g c =
    let writing : c.args.self.now.stand.way ≡ Writing = sym (c.in-Writing.ensures ∙ ap (λ s. s.stand.way) c.self.view_is) in
    subst (λ w. Changes w c.args.self.now.stand.mark c.dispatch.new.self.stand.mark) (sym writing) (ap (λ s. s.stand.mark) c.dispatch.ensures.same)

pub returns-in-Ok-clause-changed : goal.returns-in-Ok-clause-changed
returns-in-Ok-clause-changed g c =
    let writing : c.args.self.now.stand.way ≡ Writing = sym (c.in-Writing.ensures ∙ ap (λ s. s.stand.way) c.self.view_is) in
    change_written g.S.Source.left g.K.Sink.puts g.S.Source.faults g.K.Sink.faults c.args.input.now c.args.out.now c.dispatch.new.out c.args.self.now c.dispatch.new.self writing c.dispatch.ensures.same c.in-Ok.ensures.put c.in-Ok.ensures.cause.steady

pub returns-in-Err-clause-changed : goal.returns-in-Err-clause-changed
returns-in-Err-clause-changed g c =
    let writing : c.args.self.now.stand.way ≡ Writing = sym (c.in-Writing.ensures ∙ ap (λ s. s.stand.way) c.self.view_is) in
    change_unput g.S.Source.left g.K.Sink.puts g.S.Source.faults g.K.Sink.faults c.args.input.now c.args.out.now c.dispatch.new.out c.args.self.now c.dispatch.new.self writing c.dispatch.ensures.same c.in-Err.ensures.cut c.in-Err.ensures.cause.failed
