-- An integer or a truth value goes out as the definition has it.
use Rattle.std.proofs.Common.{sym, subst, rules, w64}
use mir.Val.{SFits}
use Rattle.std.proofs.lemmas.Int.{to_z-of_z}
use Rattle.ground.specs.declared.value.Value.TheVariants.{Int}
use Rattle.f66_tree.specs.Records.{put}
use Rattle.record_flow.specs.Values.{content}
use Rattle.record_flow.specs.Moves.{IsPut}
use Rattle.record_flow.specs.Flows.{tape}
use Rattle.record_flow.proofs.flow.Flow.put.Goals as goal

pub returns-in-Int-clause-step : goal.returns-in-Int-clause-step
returns-in-Int-clause-step c fs unread written =
    let fits : SFits w64 c.in-Int.n = search rules in
    let old = tape fs c.args.self.now.stand unread written in
    let new = tape fs c.put_number.new.self.stand unread written in
    subst (λ v. IsPut (put (content v) old) c.put_number.result new) (sym c.in-Int.is) (subst (λ n. IsPut (put (content (Int n)) old) c.put_number.result new) (to_z-of_z w64 c.in-Int.n fits) (c.put_number.ensures.step fs unread written))
