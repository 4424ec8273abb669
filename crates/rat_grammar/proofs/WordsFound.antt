-- The table takes the words, names and numbers of the published grammar.
use Rattle.std.proofs.Common.{◌≡◌, ℕ, Some, List, [], ◌∷◌, refl, ap}
use Rattle.ground.specs.declared.place.Place.{Place}
use Rattle.ground.specs.declared.token.Token.{Token}
use Rattle.ground.specs.declared.token.TokenKind.TheVariants as kinds
use Rattle.ground.specs.declared.token.Sign.TheVariants as signs
use Rattle.f66_tree.specs.Syntax.{Text}
use Rattle.rat_parse_table.specs.declared.table.Terminal.{Terminal}
use Rattle.rat_parse_table.specs.declared.table.Terminal.TheVariants as t
use Rattle.rat_parse_table.specs.declared.table.Nonterminal.TheVariants as n
use Rattle.rat_parse_table.specs.declared.table.Production.TheVariants as p
use Rattle.rat_parse_table.specs.Words.{reserved}
use Rattle.rat_parse_values.specs.Values.{tok, numbers, names}
use Rattle.rat_parse_values.specs.Parts.{name_in, number_in}
use Rattle.rat_grammar.specs.Tokens.{Tokens, token, one, capitals, Name, name, place_at, Listed}
use Rattle.rat_grammar.specs.Declarations.{Natural, natural}
use Rattle.rat_grammar.specs.Laws.{IsSome}
use Rattle.rat_grammar.proofs.ReservedWords.{terminal_of}
use Rattle.rat_grammar.proofs.TokenLemmas.{word_seen_as}
use Rattle.rat_grammar.proofs.Derivations.{given}
use Rattle.rat_grammar.proofs.Steps.{FoundToken, FoundPart, FoundAs, make, found_token, found_empty}
use Rattle.rat_grammar.proofs.ExpressionsFound.{found_name, found_number}
use Rattle.rat_grammar.proofs.ListsFound.{FoundList, found_list}

-- a reserved word, where it stands
pub the_word : (x : Text) (k : Terminal) → terminal_of reserved x ≡ Some k → {w : Text} {q : Place} {ts : Tokens} → capitals w ≡ x →
    FoundToken k (token (kinds.Word w) q ∷ ts) ts (tok (token (kinds.Word w) q))
the_word x k e {w} h = found_token k _ _ (word_seen_as x k w h e)

-- a name
pub record FoundName (a b : Tokens) (x : Text) : Type 0 where
  pub token : Token
  pub found : FoundPart n.AnyName a b (tok token)
  pub is : name_in (tok token) ≡ x
  pub place : token.place ≡ place_at a

pub a_name : {a b : Tokens} {x : Text} → Name a b x → FoundName a b x
a_name (name h) = record { token = _; found = found_name _ _ _ h; is = refl; place = refl }

no_more_formal : {a : Tokens} → IsSome a → FoundPart n.FormalMore a a (names [])
no_more_formal s = found_empty p.NoMoreFormal refl (λ k. refl) s

more_formal : {a b c : Tokens} {q : Place} {x : Text} {xs : List Text} → FoundName a b x → FoundPart n.FormalMore b c (names xs) →
    FoundPart n.FormalMore (token (kinds.Sign signs.Comma) q ∷ a) c (names (x ∷ xs))
more_formal {xs = xs} c k = given (ap (λ z. names (z ∷ xs)) c.is) (make p.MoreFormal tt _ _ _ (found_token t.Comma _ _ refl) _ _ c.found _ _ k)

pub found_names : {a b : Tokens} {xs : List Text} → Listed Name a b xs → IsSome b → FoundList FoundName (FoundAs n.FormalMore (λ y. names y)) a b xs
found_names = found_list (λ a b x c s. a_name c) (λ a b c q x xs y k. more_formal y k) (λ a s. no_more_formal s)

-- a number that is kept as a natural one
pub record FoundNatural (a b : Tokens) (k : ℕ) : Type 0 where
  pub token : Token
  pub found : FoundPart n.AnyNumber a b (tok token)
  pub is : number_in (tok token) ≡ k
  pub place : token.place ≡ place_at a

pub a_natural : {a b : Tokens} {k : ℕ} → Natural a b k → FoundNatural a b k
a_natural (natural one) = record { token = _; found = found_number _ _ _; is = refl; place = refl }

no_more_number : {a : Tokens} → IsSome a → FoundPart n.NumberMore a a (numbers [])
no_more_number s = found_empty p.NoMoreNumber refl (λ k. refl) s

more_number : {a b c : Tokens} {q : Place} {x : ℕ} {xs : List ℕ} → FoundNatural a b x → FoundPart n.NumberMore b c (numbers xs) →
    FoundPart n.NumberMore (token (kinds.Sign signs.Comma) q ∷ a) c (numbers (x ∷ xs))
more_number {xs = xs} c k = given (ap (λ z. numbers (z ∷ xs)) c.is) (make p.MoreNumber tt _ _ _ (found_token t.Comma _ _ refl) _ _ c.found _ _ k)

pub found_numbers : {a b : Tokens} {xs : List ℕ} → Listed Natural a b xs → IsSome b → FoundList FoundNatural (FoundAs n.NumberMore (λ y. numbers y)) a b xs
found_numbers = found_list (λ a b x c s. a_natural c) (λ a b c q x xs y k. more_number y k) (λ a s. no_more_number s)
