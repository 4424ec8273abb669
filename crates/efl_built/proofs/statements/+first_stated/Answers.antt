-- Blocks, switches and clauses.
use Rattle.std.proofs.Common.{◌≡◌, Some, None, ap, ◌∙◌, sym}
use Rattle.std.specs.Option.{option_or}
use Rattle.efl_tree.specs.Views.{stmt_of, stmts_of}
use Rattle.efl_scope.proofs.TreeLemmas.{block_is, switch_is}
use Rattle.efl_built.specs.Walks.{first_stated, first_within, first_listed, first_until}
use Rattle.efl_built.proofs.BuiltLemmas.{clause_passed, repeat_is}
use Rattle.efl_built.proofs.statements.+first_stated.Goals as goal

pub first_within-returns-in-Block : goal.first_within-returns-in-Block
first_within-returns-in-Block t c =
    c.first_in_block.ensures
    ∙ ap first_within (block_is c.args.kind.now c.in-Block.declarations c.in-Block.list c.deref.result.now c.deref-in-Block.result.now c.in-Block.is c.deref.ensures.value c.deref-in-Block.ensures.value)

pub first_within-returns-in-Switch : goal.first_within-returns-in-Switch
first_within-returns-in-Switch t c =
    c.first_chosen.ensures ∙ ap first_within (switch_is c.args.kind.now c.in-Switch.field-0 c.in-Switch.list c.deref-in-Switch.result.now c.in-Switch.is c.deref-in-Switch.ensures.value)

pub first_within-returns-in-Some-first_stated : goal.first_within-returns-in-Some-first_stated
first_within-returns-in-Some-first_stated t c =
    let b = c.in-Repeat.body in
    let e : Some c.in-Some-first_stated.place ≡ first_stated (stmt_of b.value) =
    sym c.in-Some-first_stated.is ∙ c.first_stated-in-Repeat.ensures ∙ ap (λ s. first_stated (stmt_of s)) c.deref-in-Repeat.ensures in
    ap (λ o. option_or o (first_until c.in-Repeat.until)) e ∙ repeat_is c.args.kind.now b c.in-Repeat.until c.in-Repeat.is

pub first_chosen-returns-in-Some : goal.first_chosen-returns-in-Some
first_chosen-returns-in-Some t c =
    clause_passed c.args.list.now c.loop-clause.clause-index c.clause-item.result (Some c.in-Some.place) c.loop-clause-test.true c.clause-item.is
    (sym c.in-Some.is ∙ c.first_listed.ensures ∙ ap (λ ss. first_listed (stmts_of ss)) c.deref.ensures.value)
    ∙ c.loop-clause.invariant

pub first_chosen-loop-clause-preserved : goal.first_chosen-loop-clause-preserved
first_chosen-loop-clause-preserved t c =
    clause_passed c.args.list.now c.loop-clause.clause-index c.clause-item.result None c.loop-clause-test.true c.clause-item.is
    (sym c.in_default.is ∙ c.first_listed.ensures ∙ ap (λ ss. first_listed (stmts_of ss)) c.deref.ensures.value)
    ∙ c.loop-clause.invariant
