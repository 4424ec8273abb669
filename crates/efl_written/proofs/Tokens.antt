-- What stands behind a part of written tokens is written; so are names, numbers and lists.
use Rattle.std.proofs.Common.{◌≡◌, ℤ, true, List, Option}
use Rattle.std.specs.Prelude.{⊤}
use Rattle.std.specs.List.{All}
use Rattle.std.proofs.lemmas.List.Elements.{All-head, All-tail}
use Rattle.ground.specs.declared.token.TokenKind.{TokenKind}
use Rattle.ground.specs.declared.token.TokenKind.TheVariants as kinds
use Rattle.ground.specs.declared.token.Sign.{Sign as ASign}
use Rattle.f66_names.specs.Shapes.{is_name}
use Rattle.efl_tree.specs.Syntax.{Text}
use Rattle.rat_grammar.specs.Tokens.{Tokens, token, One, OneOf, Word, Listed, Perhaps, Several, Lines, Stop}
use Rattle.efl_grammar.specs.Tokens.{Name, Natural, Whole, StopIfAny, ShapeStop}
use Rattle.efl_typed.proofs.Each.{Each, OfAny}
use Rattle.gathered_tokens.specs.Written.{IsWritten, TokenIsWritten}

-- all of these tokens are written
abbrev pub AreWritten : Tokens → Type 0
AreWritten a = All TokenIsWritten a

-- a name of capitals and digits
abbrev pub Capitals : Text → Type 0
Capitals x = is_name x ≡ true

-- ---- one token ----

pub here : {k : TokenKind} {a b : Tokens} → One k a b → AreWritten a → IsWritten k
here {k} (One.one {p = p} {ts = ts}) h = All-head TokenIsWritten (token k p) ts h

pub past : {k : TokenKind} {a b : Tokens} → One k a b → AreWritten a → AreWritten b
past {k} (One.one {p = p} {ts = ts}) h = All-tail TokenIsWritten (token k p) ts h

pub past_sign : {A : Type 0} {choices : List (ASign × A)} {a b : Tokens} {x : A} → OneOf choices a b x → AreWritten a → AreWritten b
past_sign (OneOf.here q) h = past q h
past_sign (OneOf.there q) h = past_sign q h

pub past_word : {x : Text} {a b : Tokens} → Word x a b → AreWritten a → AreWritten b
past_word (Word.word {w = w} {p = p} {ts = ts} e) h = All-tail TokenIsWritten (token (kinds.Word w) p) ts h

pub name : {a b : Tokens} {x : Text} → Name a b x → AreWritten a → Capitals x × AreWritten b
name (Name.name {w = w} {p = p} {ts = ts} e) h = (All-head TokenIsWritten (token (kinds.Word w) p) ts h, All-tail TokenIsWritten (token (kinds.Word w) p) ts h)

-- ---- lines and ends ----

pub past_lines : {a b : Tokens} → Lines a b → AreWritten a → AreWritten b
past_lines Lines.none h = h
past_lines (Lines.line q r) h = past_lines r (past q h)

pub past_stop : {a b : Tokens} → Stop a b → AreWritten a → AreWritten b
past_stop (Stop.line q) h = past q h
past_stop (Stop.semicolon q) h = past q h
past_stop (Stop.brace q) h = h
past_stop (Stop.end q) h = h

pub past_any_stop : {a b : Tokens} → StopIfAny a b → AreWritten a → AreWritten b
past_any_stop (StopIfAny.stop q) h = past_stop q h
past_any_stop (StopIfAny.none q) h = h

pub past_shape_stop : {a b : Tokens} → ShapeStop a b → AreWritten a → AreWritten b
past_shape_stop (ShapeStop.shape_stop n q) h = past_any_stop q h

-- ---- lists ----

-- what an item gives, and the tokens behind it
abbrev pub Gives : {A : Type 0} → (Tokens → Tokens → A → Type 0) → (A → Type 0) → Type 0
Gives {A} Item Q = (a b : Tokens) (x : A) → Item a b x → AreWritten a → Q x × AreWritten b

pub listed : {A : Type 0} {Item : Tokens → Tokens → A → Type 0} {a b : Tokens} {xs : List A} (Q : A → Type 0) → Gives Item Q → Listed Item a b xs → AreWritten a → Each Q xs × AreWritten b
listed Q f (Listed.last q) h = let g = f _ _ _ q h in ((g.0, tt), g.1)
listed Q f (Listed.comma q o rest) h = let g = f _ _ _ q h in let l = listed Q f rest (past o g.1) in ((g.0, l.0), l.1)

pub perhaps : {A : Type 0} {Item : Tokens → Tokens → A → Type 0} {a b : Tokens} {o : Option A} (Q : A → Type 0) → Gives Item Q → Perhaps Item a b o → AreWritten a → OfAny Q o × AreWritten b
perhaps Q f Perhaps.none h = (tt, h)
perhaps Q f (Perhaps.some q) h = f _ _ _ q h

pub several : {A : Type 0} {Item : Tokens → Tokens → A → Type 0} {a b : Tokens} {xs : List A} (Q : A → Type 0) → Gives Item Q → Several Item a b xs → AreWritten a → Each Q xs × AreWritten b
several Q f Several.none h = (tt, h)
several Q f (Several.more q rest) h = let g = f _ _ _ q h in let l = several Q f rest g.1 in ((g.0, l.0), l.1)

-- an item that says nothing
abbrev pub Nothing : {A : Type 0} → A → Type 0
Nothing x = ⊤

-- ---- numbers ----

pub past_natural : {a b : Tokens} {n : _} → Natural a b n → AreWritten a → AreWritten b
past_natural (Natural.natural q) h = past q h

pub past_whole : {a b : Tokens} {z : ℤ} → Whole a b z → AreWritten a → AreWritten b
past_whole (Whole.number q) h = past q h
past_whole (Whole.plus o q) h = past q (past o h)
past_whole (Whole.minus o q) h = past q (past o h)
