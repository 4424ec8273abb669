-- Either one of them meets it, or it is noted with them.
use Rattle.std.proofs.Common.{sym, subst}
use Rattle.efl_initial_values.specs.Fills.{ends_of, IsMet, IsClear, Extends}
use Rattle.efl_initial_values.proofs.FillLemmas.{met_any, clear_any, noted, at_range, exact_end}
use Rattle.efl_initial_values.proofs.fills.Fills.fill.Goals as goal

pub returns-then-meets : goal.returns-then-meets
returns-then-meets c = λ code f fs codes is first many low notes.
    let ends = ends_of c.args.self.now.ends in
    let met = at_range (IsMet ends c.args.owner) f c.args.first c.args.many first many (subst (IsMet ends c.args.owner c.args.first) (exact_end c.args.first c.args.many _ c.saturating_add-end.ensures low) c.if-meets.ensures) in
    (sym (met_any code ends f fs c.args.owner codes is notes met), λ none. absurd cc)

pub returns : goal.returns
returns c = λ code f fs codes is first many low notes.
    let old = ends_of c.args.self.now.ends in
    let new = ends_of c.note.new.self.ends in
    let clear = at_range (IsClear old c.args.owner) f c.args.first c.args.many first many (subst (IsClear old c.args.owner c.args.first) (exact_end c.args.first c.args.many _ c.saturating_add-end.ensures low) (c.if-meets.ensures notes.apart notes.forward)) in
    let more = at_range (λ a e. Extends old c.args.owner a e new) f c.args.first c.args.many first many (subst (λ e. Extends old c.args.owner c.args.first e new) (exact_end c.args.first c.args.many _ c.saturating_add-end.ensures low) c.in_ok-note.ensures) in
    (sym (clear_any code old f fs c.args.owner codes is notes.within clear), λ none. noted code old new f fs c.args.owner is notes clear more)
