-- A program that links and has few storage units is linked; another is asked for the limit first.
use Rattle.std.proofs.Common.{◌≡◌, Err, IfErr, sym, subst, rules}
use Rattle.linker.specs.Rules.{program_of}
use Rattle.program_storage.specs.Limits.{HaveAtMost}
use Rattle.rat_link.specs.Linking.{IsLinkFault, IsRefusalBy, most_of_text}
use Rattle.rat_link.proofs.CheckLemmas.{link_refusal, limit_refusal}
use Rattle.rat_link.proofs.linking.link_said.Goals as goal

pub returns-in_err-ask_limit-in-Ok-2-clause-refused : goal.returns-in_err-ask_limit-in-Ok-2-clause-refused
returns-in_err-ask_limit-in-Ok-2-clause-refused c =
    let p = program_of c.args.said.now c.args.finish in
    let refusal = c.in_err-ask_limit-in-Ok-2.field-0.0 in
    let gone : c.from_residual.result ≡ Err refusal = search rules in
    subst (λ r. IfErr r (IsRefusalBy (IsLinkFault p))) (sym gone) (limit_refusal p refusal (c.in_err-ask_limit-in-Ok-2.ensures.refused c.args.finish))

pub returns-in_ok-ask_limit-in-Ok-2-clause-linked : goal.returns-in_ok-ask_limit-in-Ok-2-clause-linked
returns-in_ok-ask_limit-in-Ok-2-clause-linked c = record { few = c.in_ok-ask_limit-in-Ok-2.ensures.few c.args.finish; whole = c.in-Ok-2.ensures.whole }

pub returns-in_err-ask_limit-in-Err-clause-refused : goal.returns-in_err-ask_limit-in-Err-clause-refused
returns-in_err-ask_limit-in-Err-clause-refused c =
    let p = program_of c.args.said.now c.args.finish in
    let refusal = c.in_err-ask_limit-in-Err.field-0.0 in
    let gone : c.from_residual-in_err-ask_limit-in-Err.result ≡ Err refusal = search rules in
    subst (λ r. IfErr r (IsRefusalBy (IsLinkFault p))) (sym gone) (limit_refusal p refusal (c.in_err-ask_limit-in-Err.ensures.refused c.args.finish))

pub returns-in_ok-ask_limit-in-Err-clause-refused : goal.returns-in_ok-ask_limit-in-Err-clause-refused
returns-in_ok-ask_limit-in-Err-clause-refused c =
    let p = program_of c.args.said.now c.args.finish in
    let few : HaveAtMost most_of_text p.units = c.in_ok-ask_limit-in-Err.ensures.few c.args.finish in
    link_refusal p few c.in-Err.refusal c.in-Err.ensures.refused
