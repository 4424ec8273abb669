-- What a token is by what the table sees of it, and back.
use Rattle.std.proofs.Common.{◌≡◌, ℕ, ℤ, Bool, true, false, ◌||◌, Option, None, Some, [], ◌∷◌, ◌⊎◌, inl, inr, refl, ap, if◌then◌else◌}
use Rattle.std.proofs.lemmas.Bool.{eqb-true}
use Rattle.std.specs.Prelude.{codes}
use Rattle.std.specs.Char.{to_ascii_uppercase}
use Rattle.ground.specs.declared.place.Place.{Place}
use Rattle.ground.specs.declared.token.Token.{Token}
use Rattle.ground.specs.declared.token.TokenKind.{TokenKind}
use Rattle.ground.specs.declared.token.TokenKind.TheVariants as kinds
use Rattle.ground.specs.declared.token.Sign.{Sign as ASign}
use Rattle.ground.specs.declared.token.Sign.TheVariants as signs
use Rattle.efl_tree.specs.declared.expression.EflOperator.{EflOperator}
use Rattle.efl_tree.specs.Syntax.{Text}
use Rattle.efl_parse_table.specs.declared.table.Terminal.{Terminal}
use Rattle.efl_parse_table.specs.declared.table.Terminal.TheVariants as t
use Rattle.efl_parse_table.specs.Words.{reserved, terminal_in, is_letter, name_terminal, word_seen, word_terminal, text_terminal, sign_terminal, kind_terminal, seen}
use Rattle.efl_parse_values.specs.Parts.{operator_of}
use Rattle.rat_grammar.specs.Tokens.{Tokens, token, one, capitals, here, there}
use Rattle.rat_grammar.proofs.Standing.{IsSign, IsWord}
use Rattle.rat_grammar.proofs.ReservedWords.{terminal_of, terminal_by, EachWord, WordIs, word_is, ◌&◌, a_word, first_word, second_word}
use Rattle.efl_grammar.specs.Expressions as e

-- a word that is not reserved
abbrev pub IsName : TokenKind → Type 0
IsName k = (w : Text) × (k ≡ kinds.Word w) × (terminal_in reserved w ≡ None)

-- a name of this letter
abbrev pub IsLetter : ℕ → TokenKind → Type 0
IsLetter c k = (k ≡ kinds.Word (c ∷ [])) × (terminal_in reserved (c ∷ []) ≡ None)

-- a sign of this family
abbrev pub IsOperator : (Tokens → Tokens → EflOperator → Type 0) → TokenKind → Type 0
IsOperator Family k = (s : ASign) × (k ≡ kinds.Sign s) × ((p : Place) (ts : Tokens) → Family (token (kinds.Sign s) p ∷ ts) ts (operator_of s))

abbrev pub AnAssign : Tokens → Tokens → EflOperator → Type 0
AnAssign a b o = e.Assign a b (Some o)

abbrev pub Is : Terminal → TokenKind → Type 0
Is t.Name k = IsName k
Is t.Letter k = (c : ℕ) × IsLetter c k
Is t.WidthLetter k = (c : ℕ) × IsLetter c k × ((to_ascii_uppercase c ≡ 73) ⊎ (to_ascii_uppercase c ≡ 76))
Is t.CharLetter k = (c : ℕ) × IsLetter c k × (to_ascii_uppercase c ≡ 67)
Is t.SkipLetter k = (c : ℕ) × IsLetter c k × (to_ascii_uppercase c ≡ 88)
Is t.Number k = (z : ℤ) × (k ≡ kinds.Number z)
Is t.Quoted k = (c : ℕ) × (cs : Text) × (k ≡ kinds.Quoted (c ∷ cs))
Is t.Truth k = IsWord (codes "TRUE") k ⊎ IsWord (codes "FALSE") k
Is t.Plus k = IsSign signs.Plus k
Is t.Minus k = IsSign signs.Minus k
Is t.Star k = IsSign signs.Star k
Is t.Slash k = IsSign signs.Slash k
Is t.Power k = IsSign signs.Power k
Is t.Open k = IsSign signs.Open k
Is t.Close k = IsSign signs.Close k
Is t.Comma k = IsSign signs.Comma k
Is t.OpenBrace k = IsSign signs.OpenBrace k
Is t.CloseBrace k = IsSign signs.CloseBrace k
Is t.Colon k = IsSign signs.Colon k
Is t.Not k = IsSign signs.Not k
Is t.Point k = IsSign signs.Point k
Is t.Arrow k = IsSign signs.Arrow k
Is t.Assign k = IsSign signs.Assign k
Is t.Dollar k = IsSign signs.Dollar k
Is t.Relation k = IsOperator e.Relation k
Is t.And k = IsOperator e.AndSign k
Is t.Or k = IsOperator e.OrSign k
Is t.OperatorAssign k = IsOperator AnAssign k
Is t.Stepper k = IsSign signs.Increment k ⊎ IsSign signs.Decrement k
Is t.Semicolon k = k ≡ kinds.Semicolon
Is t.LineEnd k = k ≡ kinds.LineEnd
Is t.TextEnd k = k ≡ kinds.TextEnd
Is t.Procedure k = IsWord (codes "PROCEDURE") k
Is t.End k = IsWord (codes "END") k
Is t.Implicit k = IsWord (codes "IMPLICIT") k
Is t.Initial k = IsWord (codes "INITIAL") k
Is t.Common k = IsWord (codes "COMMON") k
Is t.Struct k = IsWord (codes "STRUCT") k
Is t.Long k = IsWord (codes "LONG") k
Is t.If k = IsWord (codes "IF") k
Is t.Else k = IsWord (codes "ELSE") k
Is t.While k = IsWord (codes "WHILE") k
Is t.For k = IsWord (codes "FOR") k
Is t.Repeat k = IsWord (codes "REPEAT") k
Is t.Until k = IsWord (codes "UNTIL") k
Is t.Do k = IsWord (codes "DO") k
Is t.Switch k = IsWord (codes "SWITCH") k
Is t.Case k = IsWord (codes "CASE") k
Is t.Default k = IsWord (codes "DEFAULT") k
Is t.Return k = IsWord (codes "RETURN") k
Is t.Goto k = IsWord (codes "GOTO") k
Is t.Go k = IsWord (codes "GO") k
Is t.To k = IsWord (codes "TO") k
Is t.Write k = IsWord (codes "WRITE") k
Is t.Read k = IsWord (codes "READ") k
Is t.Plain k = IsWord (codes "INTEGER") k ⊎ IsWord (codes "LOGICAL") k
Is t.Floating k = IsWord (codes "REAL") k ⊎ IsWord (codes "COMPLEX") k
Is t.Leave k = IsWord (codes "BREAK") k ⊎ IsWord (codes "NEXT") k
Is t.Other k = Unit {0}

-- ---- words ----

each_word : EachWord Is reserved
each_word =
    a_word & a_word & a_word & a_word & a_word & a_word & first_word & second_word
    & a_word & first_word & second_word & first_word & second_word & a_word & a_word & a_word
    & a_word & a_word & a_word & a_word & a_word & a_word & a_word & first_word
    & second_word & a_word & a_word & a_word & a_word & a_word & a_word & tt

abbrev pub letter_by : Bool → Bool → Bool → Bool → Terminal
letter_by i l x y = if i || l then t.WidthLetter else (if x then t.CharLetter else (if y then t.SkipLetter else t.Letter))

letter_is : (i l x y : Bool) (c : ℕ) → is_letter 73 c ≡ i → is_letter 76 c ≡ l → is_letter 67 c ≡ x → is_letter 88 c ≡ y → terminal_in reserved (c ∷ []) ≡ None →
    Is (letter_by i l x y) (kinds.Word (c ∷ []))
letter_is true l x y c h g f d n = (c, (refl, n), inl (eqb-true (to_ascii_uppercase c) 73 h))
letter_is false true x y c h g f d n = (c, (refl, n), inr (eqb-true (to_ascii_uppercase c) 76 g))
letter_is false false true y c h g f d n = (c, (refl, n), eqb-true (to_ascii_uppercase c) 67 f)
letter_is false false false true c h g f d n = (c, (refl, n), eqb-true (to_ascii_uppercase c) 88 d)
letter_is false false false false c h g f d n = (c, (refl, n))

name_is : (w : Text) → terminal_in reserved w ≡ None → Is (name_terminal w) (kinds.Word w)
name_is [] h = ([], refl, h)
name_is (c ∷ []) h = letter_is (is_letter 73 c) (is_letter 76 c) (is_letter 67 c) (is_letter 88 c) c refl refl refl refl h
name_is (c ∷ d ∷ ds) h = (c ∷ d ∷ ds, refl, h)

seen_word_is : (o : Option Terminal) (w : Text) → terminal_in reserved w ≡ o → WordIs Is o w → Is (word_seen o w) (kinds.Word w)
seen_word_is (Some k) w e h = h
seen_word_is None w e h = name_is w e

-- ---- other tokens ----

text_is : (w : Text) → Is (text_terminal w) (kinds.Quoted w)
text_is [] = tt
text_is (c ∷ cs) = (c, cs, refl)

sign_is : (s : ASign) → Is (sign_terminal s) (kinds.Sign s)
sign_is signs.Plus = refl
sign_is signs.Minus = refl
sign_is signs.Star = refl
sign_is signs.Slash = refl
sign_is signs.Power = refl
sign_is signs.Open = refl
sign_is signs.Close = refl
sign_is signs.Comma = refl
sign_is signs.OpenBrace = refl
sign_is signs.CloseBrace = refl
sign_is signs.Colon = refl
sign_is signs.Not = refl
sign_is signs.Point = refl
sign_is signs.Arrow = refl
sign_is signs.Assign = refl
sign_is signs.Dollar = refl
sign_is signs.Lt = (signs.Lt, refl, λ p ts. here one)
sign_is signs.Le = (signs.Le, refl, λ p ts. there (here one))
sign_is signs.Eq = (signs.Eq, refl, λ p ts. there (there (here one)))
sign_is signs.Ne = (signs.Ne, refl, λ p ts. there (there (there (here one))))
sign_is signs.Ge = (signs.Ge, refl, λ p ts. there (there (there (there (here one)))))
sign_is signs.Gt = (signs.Gt, refl, λ p ts. there (there (there (there (there (here one))))))
sign_is signs.And = (signs.And, refl, λ p ts. here one)
sign_is signs.AndThen = (signs.AndThen, refl, λ p ts. there (here one))
sign_is signs.Or = (signs.Or, refl, λ p ts. here one)
sign_is signs.OrElse = (signs.OrElse, refl, λ p ts. there (here one))
sign_is signs.AddAssign = (signs.AddAssign, refl, λ p ts. there (here one))
sign_is signs.SubAssign = (signs.SubAssign, refl, λ p ts. there (there (here one)))
sign_is signs.MulAssign = (signs.MulAssign, refl, λ p ts. there (there (there (here one))))
sign_is signs.DivAssign = (signs.DivAssign, refl, λ p ts. there (there (there (there (here one)))))
sign_is signs.PowerAssign = (signs.PowerAssign, refl, λ p ts. there (there (there (there (there (here one))))))
sign_is signs.AndAssign = (signs.AndAssign, refl, λ p ts. there (there (there (there (there (there (here one)))))))
sign_is signs.OrAssign = (signs.OrAssign, refl, λ p ts. there (there (there (there (there (there (there (here one))))))))
sign_is signs.AndThenAssign = (signs.AndThenAssign, refl, λ p ts. there (there (there (there (there (there (there (there (here one)))))))))
sign_is signs.OrElseAssign = (signs.OrElseAssign, refl, λ p ts. there (there (there (there (there (there (there (there (there (here one))))))))))
sign_is signs.Increment = inl refl
sign_is signs.Decrement = inr refl
sign_is _ = tt

kind_is : (k : TokenKind) → Is (kind_terminal k) k
kind_is (kinds.Word w) = seen_word_is (terminal_in reserved w) w refl (word_is Is reserved each_word w)
kind_is (kinds.Number z) = (z, refl)
kind_is (kinds.Quoted w) = text_is w
kind_is (kinds.Sign s) = sign_is s
kind_is kinds.LineEnd = refl
kind_is kinds.Semicolon = refl
kind_is kinds.TextEnd = refl

pub seen_is : (y : Token) → Is (seen y) y.kind
seen_is y = kind_is y.kind

-- the table sees a reserved word as its terminal
pub word_seen_as : (x : Text) (k : Terminal) (w : Text) → capitals w ≡ x → terminal_of reserved x ≡ Some k → word_terminal w ≡ k
word_seen_as x k w h e = ap (λ o. word_seen o w) (terminal_by reserved x w h e)
