-- What the steps of the check come to.
use Rattle.std.proofs.Common.{◌≡◌, refl, sym, subst, true, MatchOption, slice_get, length}
use Rattle.stack_code.specs.Views.{code_of}
use Rattle.stack_code.specs.ValidCode.{is_begin, NeverReturns}
use Rattle.stack_code.specs.Facts.{IsInvalid, AreAll}
use Rattle.stack_code.specs.Ahead.{HasMainDepth}
use Rattle.stack_code.specs.Bounds.{AllInRange, AreWithin}
use Rattle.stack_code.proofs.Validity.{is_checked}
use Rattle.stack_code.proofs.valid.check.Goals as goal

pub returns-in-None : goal.returns-in-None
returns-in-None c = subst (λ o. MatchOption o (IsInvalid (code_of c.args.ops.now)) (λ v. AreAll (code_of c.args.ops.now) v.items)) c.in-None.is c.in_ok-facts_of.ensures c.args.plans c.args.units

pub returns-in-None-2 : goal.returns-in-None-2
returns-in-None-2 c =
    let code = code_of c.args.ops.now in
    subst (λ o. MatchOption o (IsInvalid code) (λ d. HasMainDepth code d × NeverReturns code)) c.in-None-2.is c.in_ok-depth_of-in-Some.ensures c.args.plans c.args.units

pub returns : goal.returns
returns c =
    let code = code_of c.args.ops.now in
    let all = subst (λ o. MatchOption o (IsInvalid code) (λ v. AreAll code v.items)) c.in-Some.is c.in_ok-facts_of.ensures in
    let deep = subst (λ o. MatchOption o (IsInvalid code) (λ d. HasMainDepth code d × NeverReturns code)) c.in-Some-2.is c.in_ok-depth_of-in-Some.ensures in
    let within = subst (λ l. AreWithin l (length l) c.bounds_of-stack.result.0 c.bounds_of-stack.result.1) c.deref-in-Some-2.ensures.value c.bounds_of-stack.ensures in
    let begins : is_begin (slice_get code 0) ≡ true = sym c.if-not-is_begin.ensures in
    let ranges : AllInRange code c.args.plans c.args.units = record { begins = begins; all = c.if-not-all_in_range.ensures.0 refl } in
    is_checked code c.args.plans c.args.units c.in-Some.facts.items c.bounds_of-stack.result.0 c.bounds_of-stack.result.1 c.in-Some-2.depth ranges all deep.0 deep.1 within
