-- One read more, where no record is at hand.
use Rattle.std.proofs.Common.{subst, sym, ◌∙◌, ◌≤◌}
use Rattle.std.proofs.lemmas.Bool.{true≢false}
use Rattle.record_intake.proofs.Asking.{asks_more, asks_failed}
use Rattle.record_intake.proofs.intake.Intake.find.Goals as goal

pub reads-preserved-in-Ok-eq0 : goal.reads-preserved-in-Ok-eq0
reads-preserved-in-Ok-eq0 g c =
    let m = c.in-Ok-eq0.ensures.more in
    asks_more c.reads.invariant c.in_default.ensures c.read.new.input (g.S.Source.left c.read.new.input) (g.S.Source.faults c.read.new.input) c.close.new.self m.0 (c.close.ensures.hand ∙ m.1)
    (subst (λ n. n ≤ 65537) (sym m.2) c.in-Ok-eq0.ensures.few) m.3 c.in-Ok-eq0.ensures.cause.steady (λ e. c.in-Ok-eq0.ensures.at_end c.in-Ok-eq0.field-0-test)

pub reads-preserved : goal.reads-preserved
reads-preserved g c =
    let m = c.in-Ok.ensures.more in
    asks_more c.reads.invariant c.in_default.ensures c.read.new.input (g.S.Source.left c.read.new.input) (g.S.Source.faults c.read.new.input) c.read.new.self m.0 m.1
    (subst (λ n. n ≤ 65537) (sym m.2) c.in-Ok.ensures.few) m.3 c.in-Ok.ensures.cause.steady (λ e. absurd (true≢false (sym e ∙ c.read.ensures.ended ∙ c.in_default.ensures.going)))

pub returns-in-Err-clause-grows : goal.returns-in-Err-clause-grows
returns-in-Err-clause-grows g c = asks_failed c.reads.invariant c.in_default.ensures c.read.new.input (g.S.Source.left c.read.new.input) c.read.new.self c.in-Err.ensures.same c.read.ensures.ended c.in-Err.ensures.none
