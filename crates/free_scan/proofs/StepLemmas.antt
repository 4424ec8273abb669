-- What a walk along a list learns at one element.
use Rattle.std.proofs.Common.{◌≡◌, ℕ, zero, suc, ◌+◌, ◌*◌, ◌-◌, ◌<◌, ◌≤◌, Bool, false, not, ◌&&◌, ◌==◌, List, [], ◌∷◌, length, get_or, drop, refl, sym, ◌∙◌, ap, arith, add-one, drop-cons, length-drop}
use Rattle.ground.specs.declared.token.Dialect.{Dialect}
use Rattle.free_scan.specs.declared.lines.Character.{Character}
use Rattle.free_scan.specs.Characters.{is_line_end}
use Rattle.free_scan.specs.IncludeNames.{text_size}
use Rattle.free_scan.specs.Lexemes.{value_after}
use Rattle.free_scan.specs.Quotes.{escapes, quoted, longer}
use Rattle.free_scan.specs.Spellings.{is_spelled}

pub drop-at : {A : Type 0} (xs : List A) (i : ℕ) (d : A) → i < length xs → drop i xs ≡ get_or xs i d ∷ drop (i + 1) xs
drop-at xs i d h = rw add-one (drop-cons xs i d h)

text_size-cons : (b : ℕ) (bs : List ℕ) → is_line_end (b ∷ bs) ≡ false → text_size (b ∷ bs) ≡ 1 + text_size bs
text_size-cons b bs e = rw e refl

pub text_size-drop : (bs : List ℕ) (i : ℕ) → i < length bs → is_line_end (drop i bs) ≡ false → text_size (drop i bs) ≡ 1 + text_size (drop (i + 1) bs)
text_size-drop bs i h e =
    let d = drop-at bs i 0 h in
    ap text_size d ∙ text_size-cons (get_or bs i 0) (drop (i + 1) bs) (sym (ap is_line_end d) ∙ e)

quoted-cons : (d : Dialect) (q : ℕ) (taken : Bool) (b : ℕ) (bs : List ℕ) → is_line_end (b ∷ bs) ≡ false → (not taken && b == q) ≡ false
    → quoted d q taken (b ∷ bs) ≡ longer 1 (quoted d q (not taken && escapes d b) bs)
quoted-cons d q taken b bs e f = rw (e, f) refl

pub quoted-drop : (d : Dialect) (q : ℕ) (taken : Bool) (bs : List ℕ) (i : ℕ) → i < length bs → is_line_end (drop i bs) ≡ false → (not taken && get_or bs i 0 == q) ≡ false
    → quoted d q taken (drop i bs) ≡ longer 1 (quoted d q (not taken && escapes d (get_or bs i 0)) (drop (i + 1) bs))
quoted-drop d q taken bs i h e f =
    let at = drop-at bs i 0 h in
    ap (quoted d q taken) at ∙ quoted-cons d q taken (get_or bs i 0) (drop (i + 1) bs) (sym (ap is_line_end at) ∙ e) f

-- a value only grows
pub value_after-ge : (n : ℕ) (cs : List Character) → n ≤ value_after n cs
value_after-ge n [] = omega arith
value_after-ge n (c ∷ cs) = omega (arith, value_after-ge (n * 10 + (c.byte - 48)) cs)

is_spelled-none : (ss : List ℕ) → 0 < length ss → is_spelled ss [] ≡ false
is_spelled-none [] h = absurd (omega arith)
is_spelled-none (s ∷ ss) h = refl

pub is_spelled-short : (ss : List ℕ) (cs : List Character) (i : ℕ) → i < length ss → length cs ≤ i → is_spelled (drop i ss) (drop i cs) ≡ false
is_spelled-short ss [] zero h l = is_spelled-none ss h
is_spelled-short ss (c ∷ cs) zero h l = absurd (omega arith)
is_spelled-short [] cs (suc i) h l = absurd (omega arith)
is_spelled-short (s ∷ ss) [] (suc i) h l = is_spelled-none (drop i ss) (omega (arith, length-drop i ss))
is_spelled-short (s ∷ ss) (c ∷ cs) (suc i) h l = is_spelled-short ss cs i (omega arith) (omega arith)
