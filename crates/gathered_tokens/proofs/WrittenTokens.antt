-- The tokens that are made are written, since they are the tokens that were scanned.
use Rattle.std.proofs.Common.{◌-◌, [], ◌∷◌, ◌++◌, Ok, Err}
use Rattle.std.specs.Prelude.{IfOk, ◌==◌}
use Rattle.std.specs.List.{All}
use Rattle.std.proofs.lemmas.Bool.{cond_both}
use Rattle.std.proofs.lemmas.List.Elements.{All-nil, All-push}
use Rattle.ground.specs.Faults.{limit_at}
use Rattle.ground.specs.declared.place.Place.{Place}
use Rattle.ground.specs.declared.token.Token.{Token}
use Rattle.macro_define.specs.Made.{Made, counted, put}
use Rattle.gathered_tokens.specs.Written.{GatheredAreWritten, IsWritten, TokenIsWritten}
use Rattle.gathered_tokens.proofs.Gathering.{gathered_kept}
use Rattle.gathered_tokens.proofs.Scanned.{scanned_are_written}

abbrev AreMade : Made → Type 0
AreMade m = All TokenIsWritten m.tokens

counted_kept : (place : Place) (m : Made) → AreMade m → IfOk (counted place m) AreMade
counted_kept place m h = cond_both (m.left == 0) (Err (limit_at place 2)) (Ok (record { tokens = m.tokens; left = m.left - 1 })) (λ r. IfOk r AreMade) (λ e. tt) (λ e. h)

put_kept : (t : Token) (m : Made) → IsWritten t.kind → AreMade m → IfOk (put t m) AreMade
put_kept t m g h =
    cond_both (m.left == 0) (Err (limit_at (t.place) 2)) (Ok (record { tokens = m.tokens ++ t ∷ []; left = m.left - 1 })) (λ r. IfOk r AreMade) (λ e. tt) (λ e. All-push TokenIsWritten m.tokens t h g)

pub gathered_are_written : GatheredAreWritten
gathered_are_written d name known w is = gathered_kept IsWritten AreMade put_kept counted_kept scanned_are_written (All-nil TokenIsWritten) d name known w is
