-- One temporary more is added.
use Rattle.std.proofs.Common.{◌≡◌, ◌∙◌, ◌+◌, [], ◌∷◌, ◌++◌, sym, ap, append_assoc, map, arith, ℕ}
use Rattle.std.specs.List.{range_with_len}
use Rattle.std.proofs.lemmas.List.FromFn.{map-range_with_len_more}
use Rattle.efl_emit.specs.Names.{temp_of}
use Rattle.efl_units.proofs.name_lists.add_temporaries.Goals as goal

pub loop-number-preserved : goal.loop-number-preserved
loop-number-preserved c =
    let n : ℕ = c.loop-number.number in
    let f = temp_of c.args.kind in
    let at : 0 + n ≡ n = omega arith in
    let old = c.args.names.now.items in
    c.in_ok-push.ensures.items ∙ ap (λ x. c.loop-number.names.items ++ x ∷ []) c.temporary-name.ensures ∙ ap (λ xs. xs ++ f n ∷ []) c.loop-number.invariant
    ∙ append_assoc old (map f (range_with_len 0 n)) (f n ∷ []) ∙ ap (λ xs. old ++ xs) (sym (map-range_with_len_more f 0 n n at))
