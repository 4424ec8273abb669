-- A name of Ratfor is looked up as it is written.
use Rattle.std.proofs.Common.{◌≡◌, ap, sym, ◌∙◌, refl, false, Some, None}
use Rattle.std.specs.Prelude.{Option}
use Rattle.std.specs.Option.{is_some}
use Rattle.macro_define.specs.Macros.{key, number_of}
use Rattle.macro_define.specs.Uses.{table}
use Rattle.macro_define.proofs.plain.may_be_named.Goals as goal

none : {A : Type 0} (o : Option A) → is_some o ≡ false → o ≡ None
none None e = refl
none (Some a) e = absurd cc

pub returns-in-Ratfor : goal.returns-in-Ratfor
returns-in-Ratfor c = λ unnamed.
    ap (λ d. number_of (table c.args.macros.now) (key d c.args.name.now)) c.in-Ratfor.is
    ∙ sym c.number_of.ensures.number ∙ none c.number_of.result (sym c.is_some.ensures ∙ unnamed)
