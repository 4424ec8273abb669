-- What stands behind the unit and the format of a READ or WRITE.
use Rattle.std.proofs.Common.{◌≡◌, ℕ, ◌-◌, ◌≤◌, Bool, true, false, List, [], ◌∷◌, length, get_or, take, drop, Option, Some, None, refl, sym, ap, ◌∙◌, arith}
use Rattle.std.proofs.lemmas.Bool.{false≢true}
use Rattle.std.proofs.lemmas.List.{take_all}
use Rattle.f66_tree.specs.Syntax.{Act, Entries, Par}
use Rattle.stmt_reader.specs.declared.token.Token.{Token}
use Rattle.stmt_reader.specs.declared.token.Token.TheVariants as t
use Rattle.stmt_reader.specs.Cutting.{is_close}
use Rattle.stmt_reader.specs.Entries.{entries_of, record_of}
use Rattle.stmt_reader.specs.Taking.{par_if, then_if}

abbrev pub record_with : (Par → ℕ → Entries → Act) → Token → ℕ → List Token → Option Act
record_with made u l tokens = then_if (par_if u) (λ p. then_if (entries_of tokens) (λ es. Some (made p l es)))

pub record_closed : (made : Par → ℕ → Entries → Act) (u : Token) (l : ℕ) (tokens : List Token) (token : Token) → token ≡ get_or tokens 0 token → 1 ≤ length tokens → is_close token ≡ true
    → record_with made u l (take (length tokens - 1) (drop 1 tokens)) ≡ record_of made (t.Open ∷ u ∷ t.Comma ∷ t.Number l ∷ tokens)
record_closed made u l [] token is some closed = absurd (omega (arith, some))
record_closed made u l (t.Close ∷ xs) token is some closed =
    let all : take (length (t.Close ∷ xs) - 1) xs ≡ xs = take_all (length (t.Close ∷ xs) - 1) xs (omega arith) in
    ap (record_with made u l) all
record_closed made u l ((t.Word y) ∷ xs) token is some closed = absurd (false≢true (ap is_close (sym is) ∙ closed))
record_closed made u l ((t.Number n) ∷ xs) token is some closed = absurd (false≢true (ap is_close (sym is) ∙ closed))
record_closed made u l ((t.Chars y) ∷ xs) token is some closed = absurd (false≢true (ap is_close (sym is) ∙ closed))
record_closed made u l ((t.Truth b) ∷ xs) token is some closed = absurd (false≢true (ap is_close (sym is) ∙ closed))
record_closed made u l (t.Not ∷ xs) token is some closed = absurd (false≢true (ap is_close (sym is) ∙ closed))
record_closed made u l ((t.Joint op) ∷ xs) token is some closed = absurd (false≢true (ap is_close (sym is) ∙ closed))
record_closed made u l (t.Open ∷ xs) token is some closed = absurd (false≢true (ap is_close (sym is) ∙ closed))
record_closed made u l (t.Comma ∷ xs) token is some closed = absurd (false≢true (ap is_close (sym is) ∙ closed))
record_closed made u l (t.Equals ∷ xs) token is some closed = absurd (false≢true (ap is_close (sym is) ∙ closed))
record_closed made u l (t.Strange ∷ xs) token is some closed = absurd (false≢true (ap is_close (sym is) ∙ closed))

pub record_wrong : (made : Par → ℕ → Entries → Act) (u : Token) (l : ℕ) (tokens : List Token) (token : Token) → token ≡ get_or tokens 0 token → 1 ≤ length tokens → is_close token ≡ false → None ≡ record_of made (t.Open ∷ u ∷ t.Comma ∷ t.Number l ∷ tokens)
record_wrong made u l [] token is some wrong = absurd (omega (arith, some))
record_wrong made u l (t.Close ∷ xs) token is some wrong = absurd (false≢true (sym (ap is_close (sym is) ∙ wrong)))
record_wrong made u l ((t.Word y) ∷ xs) token is some wrong = refl
record_wrong made u l ((t.Number n) ∷ xs) token is some wrong = refl
record_wrong made u l ((t.Chars y) ∷ xs) token is some wrong = refl
record_wrong made u l ((t.Truth b) ∷ xs) token is some wrong = refl
record_wrong made u l (t.Not ∷ xs) token is some wrong = refl
record_wrong made u l ((t.Joint op) ∷ xs) token is some wrong = refl
record_wrong made u l (t.Open ∷ xs) token is some wrong = refl
record_wrong made u l (t.Comma ∷ xs) token is some wrong = refl
record_wrong made u l (t.Equals ∷ xs) token is some wrong = refl
record_wrong made u l (t.Strange ∷ xs) token is some wrong = refl
