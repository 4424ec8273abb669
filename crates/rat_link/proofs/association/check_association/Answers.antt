-- A refusal tells a bad association, or the limit, of a good one.
use Rattle.std.proofs.Common.{◌∙◌, sym, ap}
use Rattle.std.specs.List.{list_any}
use Rattle.f66_tree.specs.Views.{act_of, routine_of}
use Rattle.rat_link.specs.Ties.{is_tying}
use Rattle.rat_link.proofs.CheckLemmas.{limit_well, bad_refusal}
use Rattle.rat_link.proofs.UntiedLemmas.{untied}
use Rattle.rat_link.proofs.association.check_association.Goals as goal

pub returns-then-is_limit-clause-well : goal.returns-then-is_limit-clause-well
returns-then-is_limit-clause-well c = limit_well (routine_of c.args.said.now) c.in-Err.refusal c.in-Err.ensures.refused (sym c.is_limit.ensures ∙ c.if-is_limit.true)

pub returns-in-Err-clause-refused : goal.returns-in-Err-clause-refused
returns-in-Err-clause-refused c = bad_refusal (routine_of c.args.said.now) c.in-Err.refusal c.in-Err.ensures.refused (sym c.is_limit.ensures ∙ c.if-is_limit.false)

pub returns-clause-well : goal.returns-clause-well
returns-clause-well c = c.in_default.ensures.associated.well

pub returns-then-not-has_ties-clause-well : goal.returns-then-not-has_ties-clause-well
returns-then-not-has_ties-clause-well c =
    untied c.args.said.now (ap (λ all. list_any (λ s. is_tying (act_of s.kind)) all) (sym c.deref.ensures.value) ∙ sym c.has_ties.ensures ∙ c.if-not-has_ties.true)
