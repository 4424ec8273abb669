-- What a token is by what the table sees of it, and back.
use Rattle.std.proofs.Common.{◌≡◌, ℕ, ℤ, Bool, true, false, Option, None, Some, [], ◌∷◌, ◌⊎◌, inl, inr, refl, ap, if◌then◌else◌}
use Rattle.std.specs.Prelude.{codes}
use Rattle.ground.specs.declared.place.Place.{Place}
use Rattle.ground.specs.declared.token.Token.{Token}
use Rattle.ground.specs.declared.token.TokenKind.{TokenKind}
use Rattle.ground.specs.declared.token.TokenKind.TheVariants as kinds
use Rattle.ground.specs.declared.token.Sign.{Sign as ASign}
use Rattle.ground.specs.declared.token.Sign.TheVariants as signs
use Rattle.f66_tree.specs.Syntax.{Text}
use Rattle.rat_parse_table.specs.declared.table.Terminal.{Terminal}
use Rattle.rat_parse_table.specs.declared.table.Terminal.TheVariants as t
use Rattle.rat_parse_table.specs.Words.{reserved, terminal_in, word_seen, word_terminal, is_field_word, is_octal, text_terminal, sign_terminal, kind_terminal, seen}
use Rattle.rat_parse_values.specs.Parts.{operator_of}
use Rattle.rat_grammar.specs.Tokens.{Tokens, token, one, capitals, here, there}
use Rattle.rat_grammar.specs.Expressions.{Relation}
use Rattle.rat_grammar.proofs.Standing.{IsSign, IsWord}
use Rattle.rat_grammar.proofs.ReservedWords.{terminal_of, terminal_by, EachWord, WordIs, word_is, ◌&◌, a_word, first_word, second_word}

abbrev pub IsName : TokenKind → Type 0
IsName k = (w : Text) × (k ≡ kinds.Word w) × (terminal_in reserved w ≡ None)

abbrev pub IsRelation : TokenKind → Type 0
IsRelation k = (s : ASign) × (k ≡ kinds.Sign s) × ((p : Place) (ts : Tokens) → Relation (token (kinds.Sign s) p ∷ ts) ts (operator_of s))

abbrev pub Is : Terminal → TokenKind → Type 0
Is t.Name k = IsName k
Is t.FieldWord k = (w : Text) × (k ≡ kinds.Word w) × (terminal_in reserved w ≡ None) × (is_field_word w ≡ true)
Is t.Octal k = (z : ℤ) × (k ≡ kinds.Number z) × (is_octal z ≡ true)
Is t.Number k = (z : ℤ) × (k ≡ kinds.Number z)
Is t.Letter k = (c : ℕ) × (k ≡ kinds.Quoted (c ∷ []))
Is t.Chars k = (c : ℕ) × (cs : Text) × (k ≡ kinds.Quoted (c ∷ cs))
Is t.Adding k = IsSign signs.Plus k ⊎ IsSign signs.Minus k
Is t.Star k = IsSign signs.Star k
Is t.Slash k = IsSign signs.Slash k
Is t.Power k = IsSign signs.Power k
Is t.Open k = IsSign signs.Open k
Is t.Close k = IsSign signs.Close k
Is t.Comma k = IsSign signs.Comma k
Is t.OpenBrace k = IsSign signs.OpenBrace k
Is t.CloseBrace k = IsSign signs.CloseBrace k
Is t.Colon k = IsSign signs.Colon k
Is t.Relation k = IsRelation k
Is t.And k = IsSign signs.And k
Is t.Or k = IsSign signs.Or k
Is t.Not k = IsSign signs.Not k
Is t.Truth k = IsSign signs.True k ⊎ IsSign signs.False k
Is t.Assign k = IsSign signs.Assign k
Is t.Semicolon k = k ≡ kinds.Semicolon
Is t.LineEnd k = k ≡ kinds.LineEnd
Is t.TextEnd k = k ≡ kinds.TextEnd
Is t.Subroutine k = IsWord (codes "SUBROUTINE") k
Is t.Function k = IsWord (codes "FUNCTION") k
Is t.Block k = IsWord (codes "BLOCK") k
Is t.Data k = IsWord (codes "DATA") k
Is t.End k = IsWord (codes "END") k
Is t.If k = IsWord (codes "IF") k
Is t.Else k = IsWord (codes "ELSE") k
Is t.While k = IsWord (codes "WHILE") k
Is t.For k = IsWord (codes "FOR") k
Is t.Repeat k = IsWord (codes "REPEAT") k
Is t.Until k = IsWord (codes "UNTIL") k
Is t.Do k = IsWord (codes "DO") k
Is t.Switch k = IsWord (codes "SWITCH") k
Is t.Case k = IsWord (codes "CASE") k
Is t.Default k = IsWord (codes "DEFAULT") k
Is t.Leave k = IsWord (codes "BREAK") k ⊎ IsWord (codes "NEXT") k
Is t.Return k = IsWord (codes "RETURN") k
Is t.Go k = IsWord (codes "GO") k
Is t.Goto k = IsWord (codes "GOTO") k
Is t.To k = IsWord (codes "TO") k
Is t.Call k = IsWord (codes "CALL") k
Is t.Continue k = IsWord (codes "CONTINUE") k
Is t.Stop k = IsWord (codes "STOP") k
Is t.Transfer k = IsWord (codes "READ") k ⊎ IsWord (codes "WRITE") k
Is t.Format k = IsWord (codes "FORMAT") k
Is t.Type k = (IsWord (codes "INTEGER") k ⊎ IsWord (codes "LOGICAL") k) ⊎ (IsWord (codes "REAL") k ⊎ IsWord (codes "COMPLEX") k)
Is t.Double k = IsWord (codes "DOUBLE") k
Is t.Precision k = IsWord (codes "PRECISION") k
Is t.Dimension k = IsWord (codes "DIMENSION") k
Is t.Common k = IsWord (codes "COMMON") k
Is t.Equivalence k = IsWord (codes "EQUIVALENCE") k
Is t.Other k = Unit {0}

-- ---- words ----

each_word : EachWord Is reserved
each_word =
    a_word & a_word & a_word & a_word & a_word & a_word & a_word & a_word
    & a_word & a_word & a_word & a_word & a_word & a_word & a_word & first_word
    & second_word & a_word & a_word & a_word & a_word & a_word & a_word & a_word
    & first_word & second_word & a_word & (λ w h. inl (first_word w h)) & (λ w h. inl (second_word w h))
    & (λ w h. inr (first_word w h)) & (λ w h. inr (second_word w h)) & a_word & a_word & a_word & a_word & a_word & tt

name_is : (b : Bool) (w : Text) → is_field_word w ≡ b → terminal_in reserved w ≡ None → Is (if b then t.FieldWord else t.Name) (kinds.Word w)
name_is true w h g = (w, refl, g, h)
name_is false w h g = (w, refl, g)

seen_word_is : (o : Option Terminal) (w : Text) → terminal_in reserved w ≡ o → WordIs Is o w → Is (word_seen o w) (kinds.Word w)
seen_word_is (Some k) w e h = h
seen_word_is None w e h = name_is (is_field_word w) w refl e

-- ---- other tokens ----

number_is : (b : Bool) (z : ℤ) → is_octal z ≡ b → Is (if b then t.Octal else t.Number) (kinds.Number z)
number_is true z h = (z, refl, h)
number_is false z h = (z, refl)

text_is : (w : Text) → Is (text_terminal w) (kinds.Quoted w)
text_is [] = tt
text_is (c ∷ []) = (c, refl)
text_is (c ∷ d ∷ ds) = (c, d ∷ ds, refl)

sign_is : (s : ASign) → Is (sign_terminal s) (kinds.Sign s)
sign_is signs.Plus = inl refl
sign_is signs.Minus = inr refl
sign_is signs.Star = refl
sign_is signs.Slash = refl
sign_is signs.Power = refl
sign_is signs.Open = refl
sign_is signs.Close = refl
sign_is signs.Comma = refl
sign_is signs.OpenBrace = refl
sign_is signs.CloseBrace = refl
sign_is signs.Colon = refl
sign_is signs.Eq = (signs.Eq, refl, λ p ts. there (there (here one)))
sign_is signs.Ne = (signs.Ne, refl, λ p ts. there (there (there (here one))))
sign_is signs.Lt = (signs.Lt, refl, λ p ts. here one)
sign_is signs.Le = (signs.Le, refl, λ p ts. there (here one))
sign_is signs.Gt = (signs.Gt, refl, λ p ts. there (there (there (there (there (here one))))))
sign_is signs.Ge = (signs.Ge, refl, λ p ts. there (there (there (there (here one)))))
sign_is signs.And = refl
sign_is signs.Or = refl
sign_is signs.Not = refl
sign_is signs.True = inl refl
sign_is signs.False = inr refl
sign_is signs.Assign = refl
sign_is _ = tt

kind_is : (k : TokenKind) → Is (kind_terminal k) k
kind_is (kinds.Word w) = seen_word_is (terminal_in reserved w) w refl (word_is Is reserved each_word w)
kind_is (kinds.Number z) = number_is (is_octal z) z refl
kind_is (kinds.Quoted w) = text_is w
kind_is (kinds.Sign s) = sign_is s
kind_is kinds.LineEnd = refl
kind_is kinds.Semicolon = refl
kind_is kinds.TextEnd = refl

pub seen_is : (y : Token) → Is (seen y) y.kind
seen_is y = kind_is y.kind

-- the table sees a reserved word as its terminal
pub word_seen_as : (x : Text) (k : Terminal) (w : Text) → capitals w ≡ x → terminal_of reserved x ≡ Some k → word_terminal w ≡ k
word_seen_as x k w h e = ap (λ o. word_seen o w) (terminal_by reserved x w h e)
