-- Why `take` reads its terminal.
use Rattle.std.proofs.Common.{◌≡◌, ◌≤◌, ◌-◌, suc, refl, ◌∙◌, ap, sym, length, take, drop, get_or, arith, List, [], ◌∷◌, Option, Some, None, false}
use Rattle.std.specs.Prelude.{is_some}
use Rattle.std.proofs.Math.Seq.{take-length}
use Rattle.descent.proofs.ReadingLemmas.{reads_token}
use Rattle.descent.proofs.reader.take.Goals as goal

cut : {A : Type 0} → (xs : List A) → (x : A) → 1 ≤ length xs → x ≡ get_or xs 0 x → xs ≡ x ∷ take (length xs - 1) (drop 1 xs)
cut [] x l e = absurd (omega arith)
cut (y ∷ ys) x l e =
    let size : suc (length ys) - 1 ≡ length ys = omega arith in
    ap (λ z. z ∷ ys) (sym e) ∙ ap (λ zs. x ∷ zs) (sym (take-length ys) ∙ ap (λ n. take n ys) (sym size))

is_none : {A : Type 0} → (o : Option A) → is_some o ≡ false → o ≡ None
is_none None e = refl
is_none (Some x) e = cc

pub returns : goal.returns
returns g c =
    let l = g.L.Tables.grammar in
    let r = c.args.reader.now in
    let rest = take (length r.rest.now - 1) (drop 1 r.rest.now) in
    reads_token l g.L.Tables.certificate g.L.Tables.meter c.args.terminal r _ c.token-item.result c.next-item.result (take (length rest - 1) (drop 1 rest))
    (g.met.L.Tables.sound.same_terminal.is _ _ (sym c.same_terminal.ensures ∙ c.if-not-same_terminal.false))
    (cut r.rest.now c.token-item.result c.in-len1-up.len_at_least c.token-item.is)
    (cut rest c.next-item.result c.in-len1-up-rest.len_at_least c.next-item.is)
    c.terminal_of-reader.ensures
    c.next_meters-meters.ensures
    (sym c.passed.ensures ∙ is_none c.passed.result (sym c.is_some.ensures ∙ c.if-is_some.false))
