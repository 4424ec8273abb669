-- The first call that breaks the rule stands at the first statement that does.
use Rattle.std.proofs.Common.{◌≡◌, ◌∙◌, find, sym, true}
use Rattle.ground.specs.declared.fault.FaultKind.TheVariants.{WrongCount}
use Rattle.f66_program.specs.Calls.{miscounts}
use Rattle.f66_program.specs.Linking.{LeadsTo}
use Rattle.linker.specs.declared.rule.CallRule.TheVariants.{Counted}
use Rattle.linker.specs.CallRules.{is_broken}
use Rattle.linker.specs.Rules.{program_of}
use Rattle.linker.specs.Sites.{Site, sites_of}
use Rattle.linker.proofs.CallLemmas.{mapped_some, mapped_none, miscounted_sound, miscounted_whole}
use Rattle.linker.proofs.SiteLemmas.{rule_kept, rule_broken}
use Rattle.linker.proofs.missing.wrong_count.Goals as goal

pub returns-in-Some : goal.returns-in-Some
returns-in-Some c = λ finish.
    let p = program_of c.args.calls.now.units.now finish in
    let found = mapped_some (λ (s : Site). s.place) (find (is_broken Counted p.units) (sites_of p.units)) c.in-Some.place (sym c.first_broken.ensures ∙ c.in-Some.is) in
    rule_broken WrongCount p (λ u d k. LeadsTo p k (λ v r. miscounts k r ≡ true)) (λ q b. b) (λ q h. h) (is_broken Counted p.units) (λ s r here t. miscounted_sound p s t) (λ s r here h. miscounted_whole p s h)
    found.0 found.1 c.fault_at.result c.fault_at.ensures.kind c.fault_at.ensures.number (c.fault_at.ensures.place ∙ sym found.2)

pub returns-in-None : goal.returns-in-None
returns-in-None c = λ finish.
    let p = program_of c.args.calls.now.units.now finish in
    let none = mapped_none (λ (s : Site). s.place) (find (is_broken Counted p.units) (sites_of p.units)) (sym c.first_broken.ensures ∙ c.in-None.is) in
    rule_kept WrongCount p (λ u d k. LeadsTo p k (λ v r. miscounts k r ≡ true)) (λ q b. b) (λ q h. h) (is_broken Counted p.units) (λ s r here t. miscounted_sound p s t) (λ s r here h. miscounted_whole p s h) none
