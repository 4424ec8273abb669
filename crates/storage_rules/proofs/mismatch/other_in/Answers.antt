-- The first statement that names a block of another size, or one more that does not.
use Rattle.std.proofs.Common.{◌∙◌, ℕ, ℤ, List, Option, Bool, option_map, ap, sym}
use Rattle.std.specs.HashMap.{get_by}
use Rattle.std.specs.Str.{bytes_eq}
use Rattle.f66_tree.specs.Syntax.{Line}
use Rattle.f66_tree.specs.Views.{line_of}
use Rattle.linker.proofs.FindLemmas.{find_here, find_past}
use Rattle.storage_rules.specs.Mismatch.{any_label, is_other}
use Rattle.storage_rules.proofs.mismatch.other_in.Goals as goal

pub returns-then-names_other : goal.returns-then-names_other
returns-then-names_other c =
    let firsts : List ℕ → Option ℤ = λ q. get_by (λ k. bytes_eq q k.now) c.args.firsts.now in
    let sizes : List ℕ → Option ℤ = λ q. get_by (λ k. bytes_eq q k.now) c.args.sizes.now in
    let test : Line → Bool = λ s. any_label (is_other firsts sizes) s.act in
    let xs = c.args.unit.now.statements.items in
    let found = find_here test line_of xs c.loop-statement.statement-index c.statement-item.result (rw c.deref-statement-items.ensures.value at c.loop-statement-test.true) (rw c.deref-statement-items.ensures.value at c.statement-item.is)
    c.loop-statement.invariant (sym c.names_other.ensures ∙ c.if-names_other.true) in
    sym (ap (option_map (λ (s : Line). s.place)) found)

pub loop-statement-preserved : goal.loop-statement-preserved
loop-statement-preserved c =
    let firsts : List ℕ → Option ℤ = λ q. get_by (λ k. bytes_eq q k.now) c.args.firsts.now in
    let sizes : List ℕ → Option ℤ = λ q. get_by (λ k. bytes_eq q k.now) c.args.sizes.now in
    let test : Line → Bool = λ s. any_label (is_other firsts sizes) s.act in
    let xs = c.args.unit.now.statements.items in
    find_past test line_of xs c.loop-statement.statement-index c.statement-item.result (rw c.deref-statement-items.ensures.value at c.loop-statement-test.true) (rw c.deref-statement-items.ensures.value at c.statement-item.is)
    c.loop-statement.invariant (sym c.names_other.ensures ∙ c.if-names_other.false)
