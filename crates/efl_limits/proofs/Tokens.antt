-- The tokens that stand before those behind a part, counted.
use Rattle.std.proofs.Common.{◌≤◌, ℕ, ◌+◌, arith, List, length, Option}
use Rattle.efl_tree.specs.Syntax.{Text}
use Rattle.ground.specs.declared.token.TokenKind.{TokenKind}
use Rattle.ground.specs.declared.token.Sign.{Sign as ASign}
use Rattle.rat_grammar.specs.Tokens.{Tokens, One, OneOf, Word, Listed, Perhaps, Several, Lines, Stop}
use Rattle.rat_grammar.specs.Plain.{GoTo, one_word, two_words}
use Rattle.efl_grammar.specs.Tokens.{Name, Natural, Whole, StopIfAny, ShapeStop}

-- so many tokens at least stand before those of the second list
abbrev pub Before : ℕ → Tokens → Tokens → Type 0
Before n a b = n + length b ≤ length a

pub one : {k : TokenKind} {a b : Tokens} → One k a b → Before 1 a b
one One.one = omega arith

pub sign : {A : Type 0} {choices : List (ASign × A)} {a b : Tokens} {x : A} → OneOf choices a b x → Before 1 a b
sign (OneOf.here q) = one q
sign (OneOf.there q) = sign q

pub word : {x : Text} {a b : Tokens} → Word x a b → Before 1 a b
word (Word.word e) = omega arith

pub name : {a b : Tokens} {x : Text} → Name a b x → Before 1 a b
name (Name.name e) = omega arith

pub lines : {a b : Tokens} → Lines a b → Before 0 a b
lines Lines.none = omega arith
lines (Lines.line q r) = omega (arith, one q, lines r)

pub stop : {a b : Tokens} → Stop a b → Before 0 a b
stop (Stop.line q) = omega (arith, one q)
stop (Stop.semicolon q) = omega (arith, one q)
stop (Stop.brace q) = omega arith
stop (Stop.end q) = omega arith

pub any_stop : {a b : Tokens} → StopIfAny a b → Before 0 a b
any_stop (StopIfAny.stop q) = stop q
any_stop (StopIfAny.none q) = omega arith

pub shape_stop : {a b : Tokens} → ShapeStop a b → Before 0 a b
shape_stop (ShapeStop.shape_stop n q) = any_stop q

pub goto : {a b : Tokens} → GoTo a b → Before 1 a b
goto (one_word w) = word w
goto (two_words w v) = omega (arith, word w, word v)

-- ---- lists of items, each of which takes none off ----

abbrev pub TakesNone : {A : Type 0} → (Tokens → Tokens → A → Type 0) → Type 0
TakesNone {A} Item = (a b : Tokens) (x : A) → Item a b x → Before 0 a b

pub listed : {A : Type 0} {Item : Tokens → Tokens → A → Type 0} {a b : Tokens} {xs : List A} → TakesNone Item → Listed Item a b xs → Before 0 a b
listed f (Listed.last q) = f _ _ _ q
listed f (Listed.comma q o rest) = let g = f _ _ _ q in omega (arith, g, one o, listed f rest)

-- each of which takes one off
pub each_listed : {A : Type 0} {Item : Tokens → Tokens → A → Type 0} {a b : Tokens} {xs : List A} → ((a b : Tokens) (x : A) → Item a b x → Before 1 a b) → Listed Item a b xs → Before (length xs) a b
each_listed f (Listed.last q) = f _ _ _ q
each_listed f (Listed.comma q o rest) = let g = f _ _ _ q in omega (arith, g, one o, each_listed f rest)

pub perhaps : {A : Type 0} {Item : Tokens → Tokens → A → Type 0} {a b : Tokens} {o : Option A} → TakesNone Item → Perhaps Item a b o → Before 0 a b
perhaps f Perhaps.none = omega arith
perhaps f (Perhaps.some q) = f _ _ _ q

pub several : {A : Type 0} {Item : Tokens → Tokens → A → Type 0} {a b : Tokens} {xs : List A} → TakesNone Item → Several Item a b xs → Before 0 a b
several f Several.none = omega arith
several f (Several.more q rest) = let g = f _ _ _ q in omega (arith, g, several f rest)

-- ---- numbers ----

pub natural : {a b : Tokens} {n : ℕ} → Natural a b n → Before 1 a b
natural (Natural.natural q) = one q

pub whole : {a b : Tokens} {z : _} → Whole a b z → Before 1 a b
whole (Whole.number q) = one q
whole (Whole.plus o q) = omega (arith, one o, one q)
whole (Whole.minus o q) = omega (arith, one o, one q)
