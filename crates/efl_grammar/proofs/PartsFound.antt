-- The table derives the parts of leaving, of records and of clauses of the published grammar.
use Rattle.std.proofs.Common.{◌≡◌, ◌∙◌, ◌==◌, ◌||◌, ℕ, ℤ, Option, None, Some, List, [], ◌∷◌, refl, ap, if◌then◌else◌}
use Rattle.std.specs.Prelude.{codes}
use Rattle.ground.specs.declared.place.Place.{Place}
use Rattle.ground.specs.declared.token.TokenKind.TheVariants as kinds
use Rattle.ground.specs.declared.token.Sign.TheVariants as signs
use Rattle.efl_tree.specs.declared.statement.LoopKind.{LoopKind}
use Rattle.efl_tree.specs.declared.statement.EflEdit.{EflEdit}
use Rattle.efl_tree.specs.declared.statement.EflEdit.TheVariants as edits
use Rattle.efl_tree.specs.Syntax as efl
use Rattle.efl_tree.specs.Syntax.{Text}
use Rattle.efl_parse_table.specs.declared.table.Terminal.{Terminal}
use Rattle.efl_parse_table.specs.declared.table.Terminal.TheVariants as t
use Rattle.efl_parse_table.specs.declared.table.Nonterminal.TheVariants as n
use Rattle.efl_parse_table.specs.declared.table.Production.TheVariants as p
use Rattle.efl_parse_table.specs.Words.{reserved, word_seen, word_terminal}
use Rattle.efl_parse_values.specs.Values.{Val, tok, nothing}
use Rattle.efl_parse_values.specs.Values as val
use Rattle.efl_parse_values.specs.Parts.{first_letter}
use Rattle.efl_parse_statements.specs.Statements.{loop_of}
use Rattle.rat_grammar.specs.Tokens.{Perhaps, Tokens, token, one, capitals, word, Listed, Several}
use Rattle.rat_grammar.specs.Laws.{IsSome}
use Rattle.rat_grammar.proofs.ReservedWords.{untrue, is_other, terminal_of, terminal_by}
use Rattle.efl_grammar.specs.Tokens.{natural, Whole}
use Rattle.efl_grammar.specs.Statements as s
use Rattle.efl_grammar.proofs.StatementsRead.{loop_is}
use Rattle.rat_grammar.proofs.Derivations.{given}
use Rattle.efl_grammar.proofs.Steps.{FoundToken, FoundPart, FoundAs, built, make, found_token, found_empty}
use Rattle.efl_grammar.proofs.ExpressionsFound.{the_word, found_expr, found_place, place_part}
use Rattle.efl_grammar.proofs.DeclarationsFound.{found_integral}
use Rattle.efl_grammar.proofs.OuterFound.{is_one}
use Rattle.efl_grammar.proofs.ActsFound.{FoundSo}
use Rattle.rat_grammar.proofs.ListsFound.{FoundList, found_list}

-- ---- leaving a loop ----

found_kind : {a b : Tokens} {k : LoopKind} → s.Kind a b k → FoundSo n.Kind loop_of a b (Some k)
unfolding built
found_kind (s.Kind.while (word {w = w} {p = q} h)) =
    record { value = _; found = make p.WhileKind tt _ _ _ (the_word (codes "WHILE") t.While refl h); is = ap (λ z. Some z) (loop_is w (codes "WHILE") q h) }
found_kind (s.Kind.for (word {w = w} {p = q} h)) =
    record { value = _; found = make p.ForKind tt _ _ _ (the_word (codes "FOR") t.For refl h); is = ap (λ z. Some z) (loop_is w (codes "FOR") q h) }
found_kind (s.Kind.repeat (word {w = w} {p = q} h)) =
    record { value = _; found = make p.RepeatKind tt _ _ _ (the_word (codes "REPEAT") t.Repeat refl h); is = ap (λ z. Some z) (loop_is w (codes "REPEAT") q h) }
found_kind (s.Kind.do_ (word {w = w} {p = q} h)) =
    record { value = _; found = make p.DoKind tt _ _ _ (the_word (codes "DO") t.Do refl h); is = ap (λ z. Some z) (loop_is w (codes "DO") q h) }
found_kind (s.Kind.switch (word {w = w} {p = q} h)) =
    record { value = _; found = make p.SwitchKind tt _ _ _ (the_word (codes "SWITCH") t.Switch refl h); is = ap (λ z. Some z) (loop_is w (codes "SWITCH") q h) }

found_kind_part : {a b : Tokens} {k : Option LoopKind} → Perhaps s.Kind a b k → IsSome b → FoundSo n.KindPart loop_of a b k
unfolding built
found_kind_part Perhaps.none g = record { value = nothing; found = found_empty p.NoKind refl (λ k. refl) g; is = refl }
found_kind_part (Perhaps.some q) g =
    let r : FoundSo n.Kind loop_of _ _ _ = found_kind q in record { value = r.value; found = make p.SomeKind tt _ _ _ r.found; is = r.is }

pub found_leaving : {a b : Tokens} {m : ℕ} {k : Option LoopKind} → s.Leaving a b m k → IsSome b → FoundPart n.Leaving a b (val.leaving m k)
unfolding built
found_leaving s.bare g = found_empty p.BareLeaving refl (λ k. refl) g
found_leaving (s.Leaving.number {n = m} (natural one) q) g =
    let r : FoundSo n.KindPart loop_of _ _ _ = found_kind_part q g in
    given (ap (λ z. val.leaving m z) r.is) (make p.CountFirst tt _ _ _ (found_token t.Number _ _ refl) _ _ r.found)
found_leaving (s.Leaving.kind q) g =
    let r : FoundSo n.Kind loop_of _ _ _ = found_kind q in
    given (ap (λ z. val.leaving 1 z) r.is) (make p.KindFirst tt _ _ _ r.found _ _ (found_empty p.NoCount refl (λ k. refl) g))
found_leaving (s.kind_number {n = m} q (natural one)) g =
    let r : FoundSo n.Kind loop_of _ _ _ = found_kind q in
    given (ap (λ z. val.leaving m z) r.is) (make p.KindFirst tt _ _ _ r.found _ _ (make p.SomeCount tt _ _ _ (found_token t.Number _ _ refl)))

-- ---- separators ----

pub record FoundSep (a b : Tokens) : Type 0 where
  pub value : Val
  pub found : FoundPart n.Separator a b value

pub found_sep : {a b : Tokens} → s.Sep a b → FoundSep a b
found_sep (s.Sep.comma one) = record { value = _; found = make p.CommaSeparator tt _ _ _ (found_token t.Comma _ _ refl) }
found_sep (s.Sep.semicolon one) = record { value = _; found = make p.SignSeparator tt _ _ _ (found_token t.Semicolon _ _ refl) }

pub sep_is_some : {a b : Tokens} → s.Sep a b → IsSome a
sep_is_some (s.Sep.comma one) = tt
sep_is_some (s.Sep.semicolon one) = tt

-- ---- the letters of edits ----

-- what is seen of a word of this one letter in capitals
abbrev letter_seen : ℕ → Terminal
letter_seen x = if x == 73 || x == 76 then t.WidthLetter else (if x == 67 then t.CharLetter else (if x == 88 then t.SkipLetter else t.Letter))

one_letter_seen : (w : Text) (x : ℕ) → capitals w ≡ x ∷ [] → terminal_of reserved (x ∷ []) ≡ None → word_terminal w ≡ letter_seen x
one_letter_seen [] x h e = absurd (untrue (ap is_one h))
one_letter_seen (c ∷ []) x h e = ap (λ o. word_seen o (c ∷ [])) (terminal_by reserved (x ∷ []) (c ∷ []) h e) ∙ ap (λ z. letter_seen z) (ap first_letter h)
one_letter_seen (c ∷ d ∷ ds) x h e = absurd (untrue (ap is_one h))

the_letter : (x : ℕ) (k : Terminal) → terminal_of reserved (x ∷ []) ≡ None → letter_seen x ≡ k → {w : Text} {q : Place} {ts : Tokens} → capitals w ≡ x ∷ [] →
    FoundToken k (token (kinds.Word w) q ∷ ts) ts (tok (token (kinds.Word w) q))
the_letter x k e g {w} h = found_token k _ _ (one_letter_seen w x h e ∙ g)

-- ---- records ----

found_edit : {a b : Tokens} {k : EflEdit} → s.Edit a b k → FoundPart n.Edit a b (val.edit k)
unfolding built
found_edit (s.Edit.whole {z = z} (word {w = w} h) one one one) =
    given (ap (λ v. val.edit (if v then edits.Whole z else edits.Truth z)) (is_other (codes "I") (codes "I") w h))
    (make p.WidthEdit tt _ _ _ (the_letter 73 t.WidthLetter refl refl h) _ _ (found_token t.Open _ _ refl) _ _ (found_token t.Number _ _ refl) _ _ (found_token t.Close _ _ refl))
found_edit (s.Edit.truth {z = z} (word {w = w} h) one one one) =
    given (ap (λ v. val.edit (if v then edits.Whole z else edits.Truth z)) (is_other (codes "I") (codes "L") w h))
    (make p.WidthEdit tt _ _ _ (the_letter 76 t.WidthLetter refl refl h) _ _ (found_token t.Open _ _ refl) _ _ (found_token t.Number _ _ refl) _ _ (found_token t.Close _ _ refl))
found_edit (s.Edit.letter (word h)) = make p.CharEdit tt _ _ _ (the_letter 67 t.CharLetter refl refl h)

found_write_item : {a b : Tokens} {x : efl.WriteItem} → s.WriteItem a b x → FoundPart n.WriteItem a b (val.write_item x)
unfolding built
found_write_item (s.value c one k) = make p.ValueItem tt _ _ _ (make p.WholeExpr tt _ _ _ (found_expr c tt)) _ _ (found_token t.Colon _ _ refl) _ _ (found_edit k)
found_write_item (s.WriteItem.skip (s.Skip.skip one (word h) one one one)) =
    make p.SkipWrite tt _ _ _ (found_token t.Colon _ _ refl) _ _ (the_letter 88 t.SkipLetter refl refl h) _ _ (found_token t.Open _ _ refl) _ _
    (found_token t.Number _ _ refl) _ _ (found_token t.Close _ _ refl)
found_write_item (s.chars one) = make p.CharsItem tt _ _ _ (found_token t.Quoted _ _ refl)

pub found_write_items : {a b : Tokens} {xs : List efl.WriteItem} → Several (s.Comma s.WriteItem) a b xs → IsSome b → FoundPart n.WriteItems a b (val.write_items xs)
unfolding built
found_write_items Several.none g = found_empty p.NoMoreWrite refl (λ k. refl) g
found_write_items (Several.more (s.Comma.comma one q) xs) g =
    make p.MoreWrite tt _ _ _ (found_token t.Comma _ _ refl) _ _ (found_write_item q) _ _ (found_write_items xs g)

found_read_item : {a b : Tokens} {x : efl.ReadItem} → s.ReadItem a b x → FoundPart n.ReadItem a b (val.read_item x)
unfolding built
found_read_item (s.take c one k) =
    make p.TakeItem tt _ _ _ (make p.WholePlace tt _ _ _ (place_part (found_place c tt))) _ _ (found_token t.Colon _ _ refl) _ _ (found_edit k)
found_read_item (s.ReadItem.skip (s.Skip.skip one (word h) one one one)) =
    make p.SkipRead tt _ _ _ (found_token t.Colon _ _ refl) _ _ (the_letter 88 t.SkipLetter refl refl h) _ _ (found_token t.Open _ _ refl) _ _
    (found_token t.Number _ _ refl) _ _ (found_token t.Close _ _ refl)

pub found_read_items : {a b : Tokens} {xs : List efl.ReadItem} → Several (s.Comma s.ReadItem) a b xs → IsSome b → FoundPart n.ReadItems a b (val.read_items xs)
unfolding built
found_read_items Several.none g = found_empty p.NoMoreRead refl (λ k. refl) g
found_read_items (Several.more (s.Comma.comma one q) xs) g =
    make p.MoreRead tt _ _ _ (found_token t.Comma _ _ refl) _ _ (found_read_item q) _ _ (found_read_items xs g)

-- ---- the numbers of a case ----

more_integral : (a b c : Tokens) (q : Place) (x : ℤ) (xs : List ℤ) → FoundPart n.Integral a b (val.integer x) → FoundPart n.IntegralMore b c (val.integers xs) →
    FoundPart n.IntegralMore (token (kinds.Sign signs.Comma) q ∷ a) c (val.integers (x ∷ xs))
unfolding built
more_integral a b c q x xs y k = make p.MoreIntegral tt _ _ _ (found_token t.Comma _ _ refl) _ _ y _ _ k

no_more_integral : (a : Tokens) → IsSome a → FoundPart n.IntegralMore a a (val.integers [])
unfolding built
no_more_integral a g = found_empty p.NoMoreIntegral refl (λ k. refl) g

pub found_integrals : {a b : Tokens} {zs : List ℤ} → Listed Whole a b zs → IsSome b →
    FoundList (FoundAs n.Integral (λ y. val.integer y)) (FoundAs n.IntegralMore (λ y. val.integers y)) a b zs
found_integrals = found_list (λ a b x q g. found_integral q) more_integral no_more_integral
