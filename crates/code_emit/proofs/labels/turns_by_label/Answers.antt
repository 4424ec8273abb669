-- One statement more.
use Rattle.std.proofs.Common.{rules, ◌≡◌, ℕ, ◌+◌, ◌-◌, ◌<◌, List, length, drop, get_or, ap, subst, arith}
use Rattle.f66_tree.specs.declared.statement.Stmt.{Stmt}
use Rattle.f66_tree.specs.Views.{lines_of}
use Rattle.code_emit.specs.Turns.{AreNoted}
use Rattle.code_emit.proofs.TurnLemmas.{noted_same, noted_more, noted_none}
use Rattle.code_emit.proofs.labels.turns_by_label.Goals as goal

pub loop-index-init : goal.loop-index-init
loop-index-init c = noted_none c.args.statements.now c.new-table.result (length c.args.statements.now) (omega arith) (λ l. search rules)

pub loop-index-preserved-in-Continue-1 : goal.loop-index-preserved-in-Continue-1
loop-index-preserved-in-Continue-1 c =
    let all : List Stmt = c.args.statements.now in
    let i : ℕ = c.loop-index.index - 1 in
    let s : Stmt = get_or all i c.index-statements-index.result in
    let here : s ≡ get_or all i s = ap (λ (d : Stmt). get_or all i d) c.index-statements-index.is in
    let within : i < length all = search rules in
    let back : c.loop-index.index ≡ i + 1 = omega (arith, c.loop-index-test.true) in
    let so_far : AreNoted c.loop-index.table (i + 1) (lines_of (drop (i + 1) all)) = subst (λ (n : ℕ). AreNoted c.loop-index.table n (lines_of (drop n all))) back c.loop-index.invariant in
    noted_more all i s within here c.in-Some.label c.in-Some.variable c.in-Some.ensures c.loop-index.table c.note_turn.new.table c.in_ok-note_turn-in-Some.ensures so_far

pub loop-index-preserved : goal.loop-index-preserved
loop-index-preserved c =
    let all : List Stmt = c.args.statements.now in
    let i : ℕ = c.loop-index.index - 1 in
    let s : Stmt = get_or all i c.index-statements-index.result in
    let here : s ≡ get_or all i s = ap (λ (d : Stmt). get_or all i d) c.index-statements-index.is in
    let within : i < length all = search rules in
    let back : c.loop-index.index ≡ i + 1 = omega (arith, c.loop-index-test.true) in
    let so_far : AreNoted c.loop-index.table (i + 1) (lines_of (drop (i + 1) all)) = subst (λ (n : ℕ). AreNoted c.loop-index.table n (lines_of (drop n all))) back c.loop-index.invariant in
    noted_same all i s within here c.loop-index.table c.in-None.ensures so_far
