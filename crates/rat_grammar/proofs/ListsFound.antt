-- A list of the published grammar is a first item and a tail of the table, for every language.
use Rattle.std.proofs.Common.{◌≡◌, List, [], ◌∷◌, refl, ap}
use Rattle.ground.specs.declared.place.Place.{Place}
use Rattle.ground.specs.declared.token.TokenKind.TheVariants as kinds
use Rattle.ground.specs.declared.token.Sign.TheVariants as signs
use Rattle.rat_grammar.specs.Tokens.{Tokens, token, one, Listed}
use Rattle.rat_grammar.specs.Laws.{IsSome}
use Rattle.rat_grammar.proofs.Parts.{Part}

pub record FoundList {A : Type 0} (Item : Part A) (More : Part (List A)) (a b : Tokens) (xs : List A) : Type 0 where
  pub first : A
  pub others : List A
  pub behind : Tokens
  pub is : first ∷ others ≡ xs
  pub found : Item a behind first
  pub more : More behind b others

module _ {A : Type 0} {Item Found : Part A} {More : Part (List A)} (found : (a b : Tokens) (x : A) → Item a b x → IsSome b → Found a b x)
    (longer : (a b c : Tokens) (q : Place) (x : A) (xs : List A) → Found a b x → More b c xs → More (token (kinds.Sign signs.Comma) q ∷ a) c (x ∷ xs))
    (done : (a : Tokens) → IsSome a → More a a []) where
  pub found_list : {a b : Tokens} {xs : List A} → Listed Item a b xs → IsSome b → FoundList Found More a b xs
  found_list (Listed.last q) s = record { first = _; others = []; behind = _; is = refl; found = found _ _ _ q s; more = done _ s }
  found_list (Listed.comma {x = x} q one k) s =
      let r : FoundList Found More _ _ _ = found_list k s in
      record { first = x; others = r.first ∷ r.others; behind = _; is = ap (λ z. x ∷ z) r.is; found = found _ _ _ q tt; more = longer _ _ _ _ _ _ r.found r.more }
