-- The first call that breaks the rule stands at the first statement that does.
use Rattle.std.proofs.Common.{◌≡◌, ◌∙◌, None, find, sym}
use Rattle.ground.specs.declared.fault.FaultKind.TheVariants.{MissingUnit}
use Rattle.f66_program.specs.Calls.{unit_named}
use Rattle.linker.specs.declared.rule.CallRule.TheVariants.{Missing}
use Rattle.linker.specs.CallRules.{is_broken}
use Rattle.linker.specs.Rules.{program_of}
use Rattle.linker.specs.Sites.{Site, sites_of}
use Rattle.linker.proofs.CallLemmas.{mapped_some, mapped_none, missing_sound, missing_whole}
use Rattle.linker.proofs.SiteLemmas.{rule_kept, rule_broken}
use Rattle.linker.proofs.missing.missing_unit.Goals as goal

pub returns-in-Some : goal.returns-in-Some
returns-in-Some c = λ finish.
    let p = program_of c.args.calls.now.units.now finish in
    let found = mapped_some (λ (s : Site). s.place) (find (is_broken Missing p.units) (sites_of p.units)) c.in-Some.place (sym c.first_broken.ensures ∙ c.in-Some.is) in
    rule_broken MissingUnit p (λ u d k. unit_named k.name p.units ≡ None) (λ q b. b) (λ q h. h) (is_broken Missing p.units) (λ s r here t. missing_sound p.units s t) (λ s r here h. missing_whole p.units s h)
    found.0 found.1 c.fault_at.result c.fault_at.ensures.kind c.fault_at.ensures.number (c.fault_at.ensures.place ∙ sym found.2)

pub returns-in-None : goal.returns-in-None
returns-in-None c = λ finish.
    let p = program_of c.args.calls.now.units.now finish in
    let none = mapped_none (λ (s : Site). s.place) (find (is_broken Missing p.units) (sites_of p.units)) (sym c.first_broken.ensures ∙ c.in-None.is) in
    rule_kept MissingUnit p (λ u d k. unit_named k.name p.units ≡ None) (λ q b. b) (λ q h. h) (is_broken Missing p.units) (λ s r here t. missing_sound p.units s t) (λ s r here h. missing_whole p.units s h) none
