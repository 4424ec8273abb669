-- One procedure more, and in the end the lists agree as they are to.
use Rattle.std.proofs.Common.{◌++◌, ◌∷◌, [], map, take, sym, subst}
use Rattle.efl_tree.specs.Views.{decls_of, procedure_of}
use Rattle.efl_scoped.specs.Told.{TellAreas}
use Rattle.efl_scoped.specs.Seen.{table_of}
use Rattle.efl_scoped.proofs.AreaLemmas.{AllTold, Adds, one_told, all_agree, procedures_next, procedures_all}
use Rattle.efl_scoped.proofs.areas.areas_of.Goals as goal

pub loop-procedure-preserved : goal.loop-procedure-preserved
loop-procedure-preserved c =
    let l = c.loop-procedure in
    let all = c.args.procedures.now in
    let u = c.procedure-item.result in
    let own = c.in_ok-own.own in
    let g = table_of c.own_lists.new.numbers in
    let before = map procedure_of (take l.procedure-index all) in
    let firsts = c.add_firsts.new.firsts in
    subst (λ us. AllTold g us c.push.new.self.items firsts) (sym (procedures_next all l.procedure-index u c.loop-procedure-test.true c.procedure-item.is))
    (subst (λ lists. AllTold g (before ++ procedure_of u ∷ []) lists firsts) (sym c.in_ok-push.ensures.items)
    (one_told (table_of l.numbers) g before l.areas.lists.items l.areas.firsts firsts (procedure_of u) own l.invariant c.in_ok-own.ensures.kept
    (subst (λ ds. TellAreas g (decls_of ds) own) c.deref.ensures.value c.in_ok-own.ensures.told)
    (subst (λ ds. Adds l.areas.firsts own (decls_of ds) firsts) c.deref-in-loop-procedure.ensures.value c.in_ok-add_firsts.ensures)))

pub returns : goal.returns
returns c =
    let l = c.loop-procedure in
    let all = map procedure_of c.args.procedures.now in
    let told = subst (λ us. AllTold (table_of l.numbers) us l.areas.lists.items l.areas.firsts) (procedures_all c.args.procedures.now l.procedure-index c.loop-procedure-test.false) l.invariant in
    all_agree (table_of l.numbers) l.numbers.distinct l.numbers.above l.areas.firsts all told.firsts all l.areas.lists.items told.each
