-- One letter more.
use Rattle.std.proofs.Common.{get_or, take, reverse, sym, subst}
use Rattle.efl_scoped.specs.Seen.{table_of}
use Rattle.efl_variables.specs.Keys.{IsTextNumber}
use Rattle.efl_variables.proofs.KeyLemmas.{text_more, turned_more}
use Rattle.efl_variables.proofs.keys.name_number.Goals as goal

pub loop-letter-preserved : goal.loop-letter-preserved
loop-letter-preserved c =
    let l = c.loop-letter in
    let old = table_of c.args.numbers.now in
    let new = table_of c.number.new.self in
    let name = c.args.name.now in
    subst (λ ws. IsTextNumber old ws new c.in_ok-number.number) (sym (turned_more name l.letter-index 0 c.loop-letter-test.true))
    (text_more old (table_of l.numbers) new (reverse (take l.letter-index name)) (get_or name l.letter-index 0) l.number c.in_ok-number.number l.invariant c.in_ok-number.ensures.kept c.in_ok-number.ensures.numbered)
