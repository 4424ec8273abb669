-- The tokens of small texts, by their lines.
use Rattle.std.proofs.Common.{◌≡◌, ◌∙◌, false, sym, ap}
use Rattle.std.specs.Prelude.{ℕ, pos, ◌∷◌, codes}
use Rattle.ground.specs.declared.place.Place.{Place}
use Rattle.ground.specs.declared.token.Token.{Token}
use Rattle.ground.specs.declared.token.TokenKind.{TokenKind}
use Rattle.ground.specs.declared.token.TokenKind.TheVariants as kinds
use Rattle.ground.specs.declared.token.Sign.{Sign}
use Rattle.ground.specs.declared.token.Sign.TheVariants as signs
use Rattle.f66_tree.specs.Syntax.{Text}
use Rattle.rat_grammar.specs.Tokens.{Tokens, token, capitals, Word, word}
use Rattle.rat_grammar.proofs.ReservedWords.{untrue, same, same_self}

abbrev pub here : ℕ → Place
here n = record { file = 0; line = n }

abbrev pub at : ℕ → TokenKind → Token
at n k = token k (here n)

abbrev pub w : ℕ → Text → Token
w n x = at n (kinds.Word x)

abbrev pub sign : ℕ → Sign → Token
sign n x = at n (kinds.Sign x)

abbrev pub number : ℕ → ℕ → Token
number n k = at n (kinds.Number (pos k))

abbrev pub line : ℕ → Token
line n = at n kinds.LineEnd

-- if (a)
abbrev pub if_a : ℕ → Tokens → Tokens
if_a n ts = w n (codes "if") ∷ sign n signs.Open ∷ w n (codes "a") ∷ sign n signs.Close ∷ ts

-- a = number
abbrev pub a_is : ℕ → ℕ → Tokens → Tokens
a_is n k ts = w n (codes "a") ∷ sign n signs.Assign ∷ number n k ∷ ts

-- another word
pub no_word : {x : Text} {n : ℕ} {v : Text} {ts c : Tokens} → same x (capitals v) ≡ false → Word x (w n v ∷ ts) c → ⊥
no_word {x} {v = v} g (word h) = untrue (sym g ∙ ap (same x) h ∙ same_self x)
