-- An instruction is looked at.
use Rattle.std.proofs.Common.{◌≡◌, arith, refl, sym, ap, ◌∙◌, subst, Some, None, length}
use Rattle.stack_code.specs.Views.{instruction_of, code_of}
use Rattle.stack_code.specs.ValidCode.{ways}
use Rattle.stack_code.specs.Ahead.{AreTargets, own, join_all}
use Rattle.stack_code.proofs.FactsLemmas.{code_at, code_long, known_at}
use Rattle.stack_code.proofs.AheadLemmas.{are_targets, look_known, look_none}
use Rattle.stack_code.proofs.ahead.look_ahead.Goals as goal

pub ahead_of-requires-clause-targets : goal.ahead_of-requires-clause-targets
ahead_of-requires-clause-targets c =
    let stands = code_at c.args.ops.now c.args.at c.index-ops-at.result c.requires.within c.index-ops-at.is in
    let known = known_at c.args.facts.now c.args.at c.index-facts-at.result (Some c.in-Some.field-0) (omega (arith, c.requires.within, c.requires.all.long, code_long c.args.ops.now)) c.index-facts-at.is c.in-Some.is in
    let targets = are_targets (code_of c.args.ops.now) c.args.facts.now c.requires.all c.args.at c.in-Some.field-0 (instruction_of c.index-ops-at.result) known stands in
    subst (AreTargets (instruction_of c.index-ops-at.result) c.args.at) (sym (ap length c.deref.ensures.value ∙ c.requires.holds.long)) targets

pub returns-in-None : goal.returns-in-None
returns-in-None c =
    let known = known_at c.args.facts.now c.args.at c.index-facts-at.result None (omega (arith, c.requires.within, c.requires.all.long, code_long c.args.ops.now)) c.index-facts-at.is c.in-None.is in
    (refl, look_none (code_of c.args.ops.now) c.args.facts.now c.args.ahead.now.items c.args.at known)

pub returns-in_ok-found-in-Some : goal.returns-in_ok-found-in-Some
returns-in_ok-found-in-Some c =
    let i = instruction_of c.index-ops-at.result in
    let found = c.in_ok-found-in-Some.found in
    let stands = code_at c.args.ops.now c.args.at c.index-ops-at.result c.requires.within c.index-ops-at.is in
    let known = known_at c.args.facts.now c.args.at c.index-facts-at.result (Some c.in-Some.field-0) (omega (arith, c.requires.within, c.requires.all.long, code_long c.args.ops.now)) c.index-facts-at.is c.in-Some.is in
    let is = subst (λ l. found ≡ join_all (own i l) (ways i c.args.at) l) c.deref.ensures.value c.in_ok-found-in-Some.ensures in
    look_known (code_of c.args.ops.now) c.args.facts.now c.requires.all c.args.ahead.now.items c.raise.new.ahead.items c.requires.holds c.args.at c.in-Some.field-0 i known stands found is c.raise.result c.raise.ensures
