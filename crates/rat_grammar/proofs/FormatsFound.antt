-- The table derives each format of the published grammar.
use Rattle.std.proofs.Common.{◌≡◌, ◌∙◌, ℕ, Bool, true, false, if◌then◌else◌, None, [], ◌∷◌, refl, ap, sym}
use Rattle.ground.specs.declared.place.Place.{Place}
use Rattle.ground.specs.declared.token.Token.{Token}
use Rattle.ground.specs.declared.token.TokenKind.{TokenKind}
use Rattle.ground.specs.declared.token.TokenKind.TheVariants as kinds
use Rattle.ground.specs.declared.token.Sign.TheVariants as signs
use Rattle.f66_tree.specs.Fields as f66
use Rattle.f66_tree.specs.Syntax.{Text}
use Rattle.rat_parse_table.specs.declared.table.Terminal.TheVariants as t
use Rattle.rat_parse_table.specs.declared.table.Nonterminal.TheVariants as n
use Rattle.rat_parse_table.specs.declared.table.Production.TheVariants as p
use Rattle.rat_parse_table.specs.Words.{reserved, terminal_in, word_seen, word_terminal, is_field_word}
use Rattle.rat_parse_values.specs.Values.{field, fields}
use Rattle.rat_grammar.specs.Tokens.{Tokens, token, one, Sign}
use Rattle.rat_grammar.specs.Formats as f
use Rattle.rat_grammar.specs.Laws.{IsSome}
use Rattle.rat_grammar.proofs.LineLemmas.{kind_at}
use Rattle.rat_grammar.proofs.ReservedWords.{untrue}
use Rattle.rat_grammar.proofs.Steps.{FoundPart, make, found_token, found_empty}
use Rattle.rat_grammar.proofs.ExpressionsFound.{found_number}

-- no slash stands here
abbrev NoSlash : Tokens → Type 0
NoSlash a = (b : Tokens) → Sign signs.Slash a b → ⊥

abbrev is_slash : TokenKind → Bool
is_slash (kinds.Sign signs.Slash) = true
is_slash _ = false

no_slash_at : (y : Token) (ts : Tokens) → is_slash y.kind ≡ false → NoSlash (y ∷ ts)
no_slash_at y ts h b l = untrue (sym h ∙ ap is_slash (kind_at l))

-- a field is an edit or a slash
data FoundField : Tokens → Tokens → (f66.Fields → f66.Fields) → Type 0 where
  edit : {a b : Tokens} {x : f66.Fields → f66.Fields} → FoundPart n.Edit a b (field x) → NoSlash a → FoundField a b x
  slash : {q : Place} {b : Tokens} → FoundField (token (kinds.Sign signs.Slash) q ∷ b) b (f66.Single 1 f66.Slash)

-- several fields begin with an edit or a slash
data FoundSome : Tokens → Tokens → f66.Fields → Type 0 where
  edit : {a m b : Tokens} {x : f66.Fields → f66.Fields} {fs : f66.Fields} → FoundPart n.Edit a m (field x) → NoSlash a → FoundPart n.AfterEdit m b (fields fs) → FoundSome a b (x fs)
  slash : {q : Place} {a b : Tokens} {fs : f66.Fields} → FoundPart n.AfterSlash a b (fields fs) → FoundSome (token (kinds.Sign signs.Slash) q ∷ a) b (f66.Single 1 f66.Slash fs)

whole : {a b : Tokens} {fs : f66.Fields} → FoundSome a b fs → FoundPart n.Fields a b (fields fs)
whole (FoundSome.edit x g k) = make p.EditFirst tt _ _ _ x _ _ k
whole (FoundSome.slash k) = make p.SlashFirst tt _ _ _ (found_token t.Slash _ _ refl) _ _ k

next : {a b : Tokens} {fs : f66.Fields} → FoundSome a b fs → FoundPart n.NextField a b (fields fs)
next (FoundSome.edit x g k) = make p.NextEdit tt _ _ _ x _ _ k
next (FoundSome.slash k) = make p.NextSlash tt _ _ _ (found_token t.Slash _ _ refl) _ _ k

after_slash : {a b : Tokens} {fs : f66.Fields} → FoundSome a b fs → FoundPart n.AfterSlash a b (fields fs)
after_slash (FoundSome.edit x g k) = make p.SlashEdit tt _ _ _ x _ _ k
after_slash (FoundSome.slash k) = make p.SlashSlash tt _ _ _ (found_token t.Slash _ _ refl) _ _ k

-- behind an edit with no comma there is a slash
after_edit : {a c b : Tokens} {fs : f66.Fields} → FoundSome a b fs → Sign signs.Slash a c → FoundPart n.AfterEdit a b (fields fs)
after_edit {c = c} (FoundSome.edit x g k) s = absurd (g c s)
after_edit (FoundSome.slash k) s = make p.EditSlash tt _ _ _ (found_token t.Slash _ _ refl) _ _ k

last : {a b : Tokens} {x : f66.Fields → f66.Fields} → FoundField a b x → IsSome b → FoundSome a b (x f66.NoField)
last (FoundField.edit x g) s = FoundSome.edit x g (found_empty p.EditDone refl (λ k. refl) s)
last FoundField.slash s = FoundSome.slash (found_empty p.SlashDone refl (λ k. refl) s)

comma : {a b c : Tokens} {q : Place} {x : f66.Fields → f66.Fields} {fs : f66.Fields} → FoundField a (token (kinds.Sign signs.Comma) q ∷ b) x → FoundSome b c fs → FoundSome a c (x fs)
comma (FoundField.edit x g) k = FoundSome.edit x g (make p.EditComma tt _ _ _ (found_token t.Comma _ _ refl) _ _ (next k))
comma FoundField.slash k = FoundSome.slash (make p.SlashComma tt _ _ _ (found_token t.Comma _ _ refl) _ _ (next k))

before_slash : {a b c d : Tokens} {x : f66.Fields → f66.Fields} {fs : f66.Fields} → FoundField a b x → Sign signs.Slash b d → FoundSome b c fs → FoundSome a c (x fs)
before_slash (FoundField.edit x g) s k = FoundSome.edit x g (after_edit k s)
before_slash FoundField.slash s k = FoundSome.slash (after_slash k)

field_word_seen : (w : Text) → terminal_in reserved w ≡ None → is_field_word w ≡ true → word_terminal w ≡ t.FieldWord
field_word_seen w h g = ap (λ o. word_seen o w) h ∙ ap (λ b. if b then t.FieldWord else t.Name) g

text_edit : (c : ℕ) (cs : Text) {q : Place} {ts : Tokens} → FoundPart n.Edit (token (kinds.Quoted (c ∷ cs)) q ∷ ts) ts (field (f66.Single 1 (f66.Chars (c ∷ cs))))
text_edit c [] = make p.LetterEdit tt _ _ _ (found_token t.Letter _ _ refl)
text_edit c (d ∷ ds) = make p.CharsEdit tt _ _ _ (found_token t.Chars _ _ refl)

mutual
  pub found_fields : {a b : Tokens} {fs : f66.Fields} → f.Fields a b fs → IsSome b → FoundPart n.Fields a b (fields fs)
  found_fields f.none s = found_empty p.NoFields refl (λ k. refl) s
  found_fields (f.some q) s = whole (found_some q s)

  found_some : {a b : Tokens} {fs : f66.Fields} → f.SomeFields a b fs → IsSome b → FoundSome a b fs
  found_some (f.last x) s = last (found_field x s) s
  found_some (f.comma x one k) s = comma (found_field x tt) (found_some k s)
  found_some (f.behind_slash one k) s = FoundSome.slash (after_slash (found_some k s))
  found_some (f.before_slash x one k) s = before_slash (found_field x tt) one (found_some k s)

  found_field : {a b : Tokens} {x : f66.Fields → f66.Fields} → f.Field a b x → IsSome b → FoundField a b x
  found_field (f.Field.word (f.FieldWord.word {w = w} h g)) s =
      FoundField.edit (make p.WordEdit tt _ _ _ (found_token t.FieldWord _ _ (field_word_seen w h g))) (no_slash_at _ _ refl)
  found_field (f.counted_word (f.count one) (f.FieldWord.word {w = w} h g)) s =
      FoundField.edit (make p.CountedEdit tt _ _ _ (found_number _ _ _) _ _ (make p.CountedWord tt _ _ _ (found_token t.FieldWord _ _ (field_word_seen w h g)))) (no_slash_at _ _ refl)
  found_field (f.group one k one) s =
      FoundField.edit (make p.GroupEdit tt _ _ _ (found_token t.Open _ _ refl) _ _ (found_fields k tt) _ _ (found_token t.Close _ _ refl)) (no_slash_at _ _ refl)
  found_field (f.counted_group (f.count one) one k one) s =
      FoundField.edit (make p.CountedEdit tt _ _ _ (found_number _ _ _) _ _
      (make p.CountedGroup tt _ _ _ (found_token t.Open _ _ refl) _ _ (found_fields k tt) _ _ (found_token t.Close _ _ refl))) (no_slash_at _ _ refl)
  found_field (f.text {c = c} {cs = cs} one) s = FoundField.edit (text_edit c cs) (no_slash_at _ _ refl)
  found_field (f.slash one) s = FoundField.slash
