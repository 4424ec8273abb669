-- Why the functions of entries read their nonterminals.
use Rattle.std.proofs.Common.{Vec, Global, refl, ap, sym, ◌∙◌, map, ◌++◌, [], ◌∷◌, append-nil}
use Rattle.f66_tree.specs.Syntax.{One, Many, Ref, Item}
use Rattle.f66_tree.specs.Views.{entry_of, listed, formulas_of, formula_of}
use Rattle.f66_tree.specs.declared.expression.Expr.TheVariants as exprs
use Rattle.f66_tree.specs.declared.statement.Entry.{Entry}
use Rattle.f66_tree.specs.declared.statement.Entry.TheVariants as entries
use Rattle.rat_parse_table.specs.declared.table.Production.TheVariants as productions
use Rattle.rat_parse_values.specs.Values.{entry, rest, range_of}
use Rattle.descent.specs.Reading.{done, next}
use Rattle.rat_descent.proofs.Productions.{production, as_value}
use Rattle.rat_descent.proofs.TransferLemmas.{read_at, behind, longer}
use Rattle.rat_descent.proofs.transfers.+entry.Goals.{looped-then-is_at+in_ok-looped+in_ok-push-2, looped-else-is_at+in_ok-name_token+in_ok-name+in-Open+in_ok-all-in-Open+in_ok-applied-in-Open+in_ok-push-in-Open, looped-else-is_at+in_ok-name_token+in_ok-name+in_default-seen+in_ok-push-in_default-seen}
use Rattle.rat_descent.proofs.transfers.+entry.Goals as goal

pub entry-returns-then-is_at : goal.entry-returns-then-is_at
entry-returns-then-is_at t c = production productions.LoopEntry refl refl refl refl (next c.in_ok-looped.ensures done)

pub entry-returns : goal.entry-returns
entry-returns t c = production productions.ItemEntry refl refl refl refl (next c.in_ok-e.ensures done)

pub looped-more-init : goal.looped-more-init
looped-more-init t c = λ v s more.
    as_value (ap (λ xs. entry (Many (listed (map entry_of xs ++ v.list)) v.variable v.range.first v.range.last v.range.step))
    (sym (c.in_ok-push.ensures.items ∙ ap (λ xs. xs ++ c.in_ok-first.first ∷ []) c.new-list.ensures.items)))
    (production productions.Loop refl refl refl refl (next c.in_ok-take_token.ensures (next c.in_ok-first.ensures (next c.in_ok-take_token-2.ensures (next more done)))))

pub looped-returns-in-Assign : goal.looped-returns-in-Assign
looped-returns-in-Assign t c =
    let name = c.in_ok-name.name in
    let r = range_of c.in_ok-range-in-Assign.range in
    as_value (ap (λ all. entry (Many (listed all) name r.first r.last r.step)) (append-nil (map entry_of c.more.list.items)) ∙ ap entry (sym c.many.ensures))
    (c.more.invariant (record { list = []; variable = name; range = r }) c.take_token-in-Assign-2.new.reader
    (as_value (ap (λ x. rest (record { list = []; variable = x; range = r })) (sym c.in_ok-name.ensures))
    (production productions.LoopName refl refl refl refl (next c.in_ok-name_token.ensures
    (next (production productions.LoopRange refl refl refl refl (next c.in_ok-take_token-in-Assign.ensures (next c.in_ok-range-in-Assign.ensures (next c.in_ok-take_token-in-Assign-2.ensures done))))
    done)))))

pub looped-more-preserved : goal.looped-more-preserved
looped-more-preserved t c = λ v s more. elim c.if-is_at.branch [
  | looped-then-is_at+in_ok-looped+in_ok-push-2 w ↦
      let one = w.in_ok-looped.field-0 in
      as_value (longer c.more.list.items one v (ap (λ (l : Vec Entry Global). l.items) w.list-is ∙ w.in_ok-push-2.ensures.items))
      (c.more.invariant (behind (entry_of one) v) s
      (production productions.LoopLoop refl refl refl refl (next w.in_ok-looped.ensures (next (read_at w.reader-is c.in_ok-take_token-3.ensures) (next more done)))))
  | looped-else-is_at+in_ok-name_token+in_ok-name+in-Open+in_ok-all-in-Open+in_ok-applied-in-Open+in_ok-push-in-Open w ↦
      let e = w.in_ok-applied-in-Open.field-0 in
      as_value (longer c.more.list.items (entries.Item e) v (ap (λ (l : Vec Entry Global). l.items) w.list-is ∙ w.in_ok-push-in-Open.ensures.items))
      (c.more.invariant (behind (One (formula_of e)) v) s
      (as_value (ap (λ f. rest (behind (One f) v)) (ap (λ x. Item x (formulas_of w.in_ok-all-in-Open.all.items)) (sym w.in_ok-name.ensures) ∙ sym w.in_ok-applied-in-Open.ensures))
      (production productions.LoopName refl refl refl refl (next w.in_ok-name_token.ensures
      (next (production productions.LoopElement refl refl refl refl
      (next (production productions.Element refl refl w.open_production.ensures w.close_production.ensures (next w.in_ok-all-in-Open.ensures done))
      (next (read_at w.reader-is c.in_ok-take_token-3.ensures) (next more done)))) done)))))
  | looped-else-is_at+in_ok-name_token+in_ok-name+in_default-seen+in_ok-push-in_default-seen w ↦
      let name = w.in_ok-name.name in
      as_value (longer c.more.list.items (entries.Item (exprs.Ref name)) v (ap (λ (l : Vec Entry Global). l.items) w.list-is ∙ w.in_ok-push-in_default-seen.ensures.items))
      (c.more.invariant (behind (One (Ref name)) v) s
      (as_value (ap (λ x. rest (behind (One (Ref x)) v)) (sym w.in_ok-name.ensures))
      (production productions.LoopName refl refl refl refl (next w.in_ok-name_token.ensures
      (next (production productions.LoopScalar refl refl refl refl (next (read_at w.reader-is c.in_ok-take_token-3.ensures) (next more done))) done)))))
]
