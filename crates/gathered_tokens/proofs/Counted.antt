-- The tokens that are made and those that may still be counted are never more than 200,000 together: each token takes one that may be
-- counted, and so does the name of a macro.
use Rattle.std.proofs.Common.{◌≤◌, ◌+◌, ◌-◌, arith, [], ◌∷◌, ◌++◌, length, length-append, Ok, Err}
use Rattle.std.specs.Prelude.{⊤, IfOk, ◌==◌}
use Rattle.std.proofs.lemmas.Bool.{cond_both, eqb-false}
use Rattle.ground.specs.Faults.{limit_at}
use Rattle.ground.specs.declared.place.Place.{Place}
use Rattle.ground.specs.declared.token.Token.{Token}
use Rattle.macro_define.specs.Made.{Made, counted, put}
use Rattle.gathered_tokens.specs.Few.{GatheredAreFew}
use Rattle.gathered_tokens.proofs.Gathering.{gathered_kept}

abbrev Holds : Made → Type 0
Holds m = length m.tokens + m.left ≤ 200000

counted_kept : (place : Place) (m : Made) → Holds m → IfOk (counted place m) Holds
counted_kept place m h = cond_both (m.left == 0) (Err (limit_at place 2)) (Ok (record { tokens = m.tokens; left = m.left - 1 })) (λ r. IfOk r Holds) (λ e. tt) (λ e. omega (arith, h))

put_kept : (t : Token) (m : Made) → ⊤ → Holds m → IfOk (put t m) Holds
put_kept t m g h =
    cond_both (m.left == 0) (Err (limit_at (t.place) 2)) (Ok (record { tokens = m.tokens ++ t ∷ []; left = m.left - 1 })) (λ r. IfOk r Holds) (λ e. tt)
    (λ e. let more = eqb-false m.left 0 e in omega (arith, h, more, length-append m.tokens (t ∷ [])))

pub gathered_are_few : GatheredAreFew
gathered_are_few d name known w is =
    let all : Holds w.made = gathered_kept (λ k. ⊤) Holds put_kept counted_kept (λ e text file n t h. tt) (omega arith) d name known w is in
    omega (arith, all)
