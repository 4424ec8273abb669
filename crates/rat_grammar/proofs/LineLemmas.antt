-- Ends of lines are skipped in one way, and what stands behind them.
use Rattle.std.proofs.Common.{◌≡◌, ◌∙◌, Bool, true, false, ◌∷◌, refl, sym, subst, ap}
use Rattle.ground.specs.declared.token.Token.{Token}
use Rattle.ground.specs.declared.token.TokenKind.{TokenKind}
use Rattle.ground.specs.declared.token.TokenKind.TheVariants as kinds
use Rattle.f66_tree.specs.Syntax.{Text}
use Rattle.rat_grammar.specs.Tokens.{Tokens, One, one, LineEnd, Word, word, Lines, Stop}
use Rattle.rat_grammar.specs.Statements.{FollowsNo}
use Rattle.rat_grammar.specs.Laws.{IsSome}
use Rattle.rat_grammar.proofs.ReservedWords.{untrue}

-- no line ends here
abbrev pub NoLine : Tokens → Type 0
NoLine a = (b : Tokens) → LineEnd a b → ⊥

pub joined_lines : {a b c : Tokens} → Lines a b → Lines b c → Lines a c
joined_lines Lines.none q = q
joined_lines (Lines.line l p) q = Lines.line l (joined_lines p q)

-- what is left of the lines when some are taken
pub lines_left : {a b c : Tokens} → Lines a b → Lines a c → NoLine c → Lines b c
lines_left Lines.none q n = q
lines_left (Lines.line l p) Lines.none n = absurd (n _ l)
lines_left (Lines.line one p) (Lines.line one q) n = lines_left p q n

abbrev is_line : TokenKind → Bool
is_line kinds.LineEnd = true
is_line _ = false

pub kind_at : {k : TokenKind} {y : Token} {ts b : Tokens} → One k (y ∷ ts) b → y.kind ≡ k
kind_at one = refl

-- a token that ends no line
pub no_line_at : (y : Token) (ts : Tokens) → is_line y.kind ≡ false → NoLine (y ∷ ts)
no_line_at y ts h b l = untrue (sym h ∙ ap is_line (kind_at l))

-- a token that ends no line
pub record Begins (a : Tokens) : Type 0 where
  pub stands : NoLine a
  pub some : IsSome a

-- such a token behind lines
pub record Goes (a : Tokens) : Type 0 where
  pub next : Tokens
  pub lines : Lines a next
  pub begins : Begins next

pub begins_at : (y : Token) (ts : Tokens) → is_line y.kind ≡ false → Begins (y ∷ ts)
begins_at y ts h = record { stands = no_line_at y ts h; some = tt }

pub word_begins : {x : Text} {a b : Tokens} → Word x a b → Begins a
word_begins (word h) = begins_at _ _ refl

pub word_goes : {x : Text} {a b c : Tokens} → Lines a b → Word x b c → Goes a
word_goes l w = record { next = _; lines = l; begins = word_begins w }

pub stop_is_some : {a b : Tokens} → Stop a b → IsSome a
stop_is_some (Stop.line one) = tt
stop_is_some (Stop.semicolon one) = tt
stop_is_some (Stop.brace one) = tt
stop_is_some (Stop.end one) = tt

pub no_lines : {a b : Tokens} → Lines a b → NoLine a → a ≡ b
no_lines Lines.none n = refl
no_lines (Lines.line l p) n = absurd (n _ l)

-- where no such word stands behind the lines
pub follows_no : (x : Text) {a b : Tokens} → Lines a b → NoLine b → ((c : Tokens) → Word x b c → ⊥) → FollowsNo x a
follows_no x {a} {b} p n none_there c d q w = none_there d (subst (λ z. Word x z d) (sym (no_lines (lines_left p q (word_begins w).stands) n)) w)
