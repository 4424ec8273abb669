-- Macros that stand for one token.
use Rattle.std.proofs.Common.{◌≡◌, ℕ, zero, suc, ◌<◌, ◌≤◌, List, [], ◌∷◌, length, get_or, refl, sym, ap, ◌∙◌, arith, Some, None, Ok}
use Rattle.std.specs.Prelude.{Result}
use Rattle.ground.specs.declared.fault.Fault.{Fault}
use Rattle.ground.specs.declared.place.Place.{Place}
use Rattle.ground.specs.declared.token.Dialect.{Dialect}
use Rattle.ground.specs.declared.token.TokenKind.{TokenKind}
use Rattle.macro_define.specs.Macros.{Macros, kind_made, replaced, text_made}
use Rattle.macro_define.specs.Made.{Made, and_then, counted, put}
use Rattle.macro_define.specs.Plain.{IsLone, lone_made}
use Rattle.macro_define.proofs.ListLemmas.{and_then-ok, and_then-same}

-- a list of one item
pub one_item : {A : Type 0} (xs : List A) (x : A) → 1 ≤ length xs → length xs < 2 → x ≡ get_or xs 0 x → xs ≡ x ∷ []
one_item [] x some few is = absurd (omega (arith, some))
one_item (y ∷ []) x some few is = ap (λ z. z ∷ []) (sym is)
one_item (y ∷ z ∷ zs) x some few is = absurd (omega (arith, few))

module _ (d : Dialect) (macros : Macros) (place : Place) (n : ℕ) (kind : TokenKind) (is : IsLone d macros n kind) where
  -- what its text makes
  alone : (replace : ℕ → Made → Result Made Fault) (m : Made) → text_made d macros place replace (kind ∷ []) m ≡ put (record { kind = kind; place = place }) m
  alone replace m =
      and_then-ok (kind_made d macros place replace kind m)
      ∙ ap (λ o. elim o [ Some k ↦ replace k m | None ↦ put (record { kind = kind; place = place }) m ]) is.unnamed

  made_by : (free : ℕ) (m : Made) → replaced d macros place (suc free) [] n m ≡ lone_made place kind m
  made_by free m =
      ap (λ text. and_then (counted place m) (text_made d macros place (replaced d macros place free (n ∷ [])) text)) is.text
      ∙ and_then-same (counted place m) (text_made d macros place (replaced d macros place free (n ∷ [])) (kind ∷ [])) (put (record { kind = kind; place = place })) (alone (replaced d macros place free (n ∷ [])))

  replaced_by : (most : ℕ) (m : Made) → n < most → replaced d macros place most [] n m ≡ lone_made place kind m
  replaced_by zero m h = absurd (omega (arith, h))
  replaced_by (suc free) m h = made_by free m

  -- it makes that token
  pub replaced_lone : (m : Made) → n < length macros → replaced d macros place (length macros) [] n m ≡ lone_made place kind m
  replaced_lone m h = replaced_by (length macros) m h
