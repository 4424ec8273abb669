-- A unit without a COMMON names no block.
use Rattle.std.proofs.Common.{◌≡◌, List, Bool, true, false, None, Some, map, refl, sym, ap, ◌∙◌, subst}
use Rattle.std.specs.Prelude.{MatchOption}
use Rattle.std.specs.HashMap.{get_by}
use Rattle.std.specs.List.{list_any}
use Rattle.std.specs.Str.{bytes_eq}
use Rattle.f66_tree.specs.declared.statement.Stmt.{Stmt}
use Rattle.f66_tree.specs.Views.{act_of, routine_of}
use Rattle.f66_program.specs.Linking.{unit_names_block}
use Rattle.storage_rules.specs.Blocks.{HasSize, is_common}
use Rattle.storage_rules.proofs.CommonLemmas.{names_none}
use Rattle.storage_rules.proofs.blocks.blocks_of.Goals as goal

pub returns-clause-labels : goal.returns-clause-labels
returns-clause-labels c = λ q.
    let any : List Stmt → Bool = list_any (λ s. is_common (act_of s.kind)) in
    let items = c.args.unit.now.statements.items in
    let none : any items ≡ false = ap any (sym c.deref.ensures.value) ∙ sym c.has_common.ensures ∙ c.if-has_common.false in
    ap (λ ls. list_any (bytes_eq q) (map (λ k. k.now) ls)) c.new.ensures.items ∙ sym (names_none q items none)

pub returns-clause-sizes : goal.returns-clause-sizes
returns-clause-sizes c = λ q.
    let any : List Stmt → Bool = list_any (λ s. is_common (act_of s.kind)) in
    let items = c.args.unit.now.statements.items in
    let none : any items ≡ false = ap any (sym c.deref.ensures.value) ∙ sym c.has_common.ensures ∙ c.if-has_common.false in
    let empty : get_by (λ k. bytes_eq q k.now) c.new-2.result ≡ None = rw c.new-2.ensures.empty refl in
    subst (λ o. MatchOption o (unit_names_block (Some q) (routine_of c.args.unit.now) ≡ false) (λ z. (unit_names_block (Some q) (routine_of c.args.unit.now) ≡ true) × HasSize (routine_of c.args.unit.now) q z)) (sym empty) (names_none q items none)
