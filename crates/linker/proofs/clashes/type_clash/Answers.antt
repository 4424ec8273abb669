-- The first call that does not agree with its unit stands at the first statement with one.
use Rattle.std.proofs.Common.{◌≡◌, ◌∙◌, find, sym, true}
use Rattle.ground.specs.declared.fault.FaultKind.TheVariants.{TypeClash}
use Rattle.f66_program.specs.Calls.{clashes}
use Rattle.f66_program.specs.Linking.{LeadsTo}
use Rattle.linker.specs.CallRules.{is_clashing}
use Rattle.linker.specs.Rules.{program_of}
use Rattle.linker.specs.Sites.{Site, sites_of}
use Rattle.linker.proofs.CallLemmas.{mapped_some, mapped_none}
use Rattle.linker.proofs.ClashLemmas.{clash_sound, clash_whole}
use Rattle.linker.proofs.SiteLemmas.{rule_kept, rule_broken}
use Rattle.linker.proofs.clashes.type_clash.Goals as goal

pub returns-in-Some : goal.returns-in-Some
returns-in-Some c = λ finish.
    let p = program_of c.args.calls.now.units.now finish in
    let found = mapped_some (λ (s : Site). s.place) (find (is_clashing p.units) (sites_of p.units)) c.in-Some.place (sym c.first_clash.ensures ∙ c.in-Some.is) in
    rule_broken TypeClash p (λ u d k. LeadsTo p k (λ v r. clashes d k r ≡ true)) (λ q b. b) (λ q h. h) (is_clashing p.units) (clash_sound p) (clash_whole p)
    found.0 found.1 c.fault_at.result c.fault_at.ensures.kind c.fault_at.ensures.number (c.fault_at.ensures.place ∙ sym found.2)

pub returns : goal.returns
returns c = λ finish.
    let p = program_of c.args.calls.now.units.now finish in
    let none = mapped_none (λ (s : Site). s.place) (find (is_clashing p.units) (sites_of p.units)) (sym c.first_clash.ensures ∙ c.in-None.is) in
    rule_kept TypeClash p (λ u d k. LeadsTo p k (λ v r. clashes d k r ≡ true)) (λ q b. b) (λ q h. h) (is_clashing p.units) (clash_sound p) (clash_whole p) none
