-- Numbers that fall along the edges.
use Rattle.std.proofs.Common.{◌≡◌, ◌<◌, ◌∙◌, ℕ, length, slice_index_or, sym, subst}
use Rattle.std.proofs.lemmas.List.{length-map}
use Rattle.std.proofs.lemmas.Result.{IfOk-weaker}
use Rattle.f66_tree.specs.Views.{routine_of}
use Rattle.f66_program.specs.Calls.{Leads}
use Rattle.call_cycles.specs.Cycles.{AreWithin, Fall}
use Rattle.linker.specs.CallViews.{units_in}
use Rattle.linker.specs.Rules.{program_of}
use Rattle.linker.proofs.CycleLemmas.{within}
use Rattle.code_layout.specs.Ranks.{CanFall}
use Rattle.code_layout.proofs.CallLemmas.{call_edges, can_fall, falls_along}
use Rattle.code_layout.proofs.calls.ranks_of.Goals as goal

pub falling-requires-clause-within : goal.falling-requires-clause-within
falling-requires-clause-within c =
    let units = c.args.calls.now.units.now in
    let rs = units_in c.args.calls.now in
    let are : c.deref.result.now ≡ call_edges rs = c.deref.ensures.value ∙ c.in_ok-edges.ensures in
    subst (AreWithin (length units)) (sym are) (subst (λ n. AreWithin n (call_edges rs)) (length-map units routine_of) (within (program_of units (record { file = 0; line = 0 }))))

pub falling-requires-clause-can : goal.falling-requires-clause-can
falling-requires-clause-can c =
    let units = c.args.calls.now.units.now in
    let rs = units_in c.args.calls.now in
    let are : c.deref.result.now ≡ call_edges rs = c.deref.ensures.value ∙ c.in_ok-edges.ensures in
    subst (CanFall (length units)) (sym are) (subst (λ n. CanFall n (call_edges rs)) (length-map units routine_of) (can_fall rs c.requires.ranked))

pub returns-clause-fall : goal.returns-clause-fall
returns-clause-fall c =
    let rs = units_in c.args.calls.now in
    let are : c.deref.result.now ≡ call_edges rs = c.deref.ensures.value ∙ c.in_ok-edges.ensures in
    IfOk-weaker c.falling.result (λ v. Fall v.items c.deref.result.now) (λ v. (u w : ℕ) → Leads rs u w → slice_index_or v.items w 0 < slice_index_or v.items u 0)
    (λ v f. falls_along rs v.items (subst (Fall v.items) are f)) c.falling.ensures.fall
