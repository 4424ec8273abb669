-- The table derives each expression of the published grammar. A level takes what stands behind it, so that operators on the left become a list.
use Rattle.std.proofs.Common.{◌≡◌, ◌∙◌, Bool, true, false, if◌then◌else◌, ℤ, List, [], ◌∷◌, None, refl, ap}
use Rattle.ground.specs.declared.place.Place.{Place}
use Rattle.ground.specs.declared.token.TokenKind.TheVariants as kinds
use Rattle.ground.specs.declared.token.Sign.{Sign as ASign}
use Rattle.ground.specs.declared.token.Sign.TheVariants as signs
use Rattle.f66_tree.specs.declared.expression.Operator.{Operator}
use Rattle.f66_tree.specs.declared.expression.Operator.TheVariants as operators
use Rattle.f66_tree.specs.Syntax as f66
use Rattle.f66_tree.specs.Syntax.{Text, Formula, Int, Pair, Group, Not, Formulas, AndFormula}
use Rattle.f66_tree.specs.Views.{chained}
use Rattle.rat_parse_table.specs.declared.table.Terminal.TheVariants as t
use Rattle.rat_parse_table.specs.declared.table.Nonterminal.TheVariants as n
use Rattle.rat_parse_table.specs.declared.table.Production.TheVariants as p
use Rattle.rat_parse_table.specs.Words.{reserved, terminal_in, word_seen, is_field_word, is_octal, sign_terminal}
use Rattle.rat_parse_values.specs.Values.{Val, nothing, tok, formula, located, formulas, joins}
use Rattle.rat_parse_values.specs.Parts.{as_formula, operator_of}
use Rattle.rat_parse_values.specs.Phrases.{joined}
use Rattle.rat_grammar.specs.Tokens.{Tokens, token, one, capitals, name, place_at}
use Rattle.rat_grammar.specs.Expressions as e
use Rattle.rat_grammar.specs.Laws.{IsSome}
use Rattle.rat_grammar.proofs.Standing.{SignHere, stands, sign_here}
use Rattle.rat_grammar.proofs.Derivations.{is_some, given}
use Rattle.rat_grammar.proofs.Steps.{FoundPart, make, found_token, found_empty}

-- ---- names and numbers ----

name_by : (b : Bool) (w : Text) (q : Place) (ts : Tokens) → is_field_word w ≡ b → terminal_in reserved w ≡ None →
    FoundPart n.AnyName (token (kinds.Word w) q ∷ ts) ts (tok (token (kinds.Word w) q))
name_by true w q ts h g = make p.FieldName tt _ _ _ (found_token t.FieldWord _ _ (ap (λ o. word_seen o w) g ∙ ap (λ b. if b then t.FieldWord else t.Name) h))
name_by false w q ts h g = make p.PlainName tt _ _ _ (found_token t.Name _ _ (ap (λ o. word_seen o w) g ∙ ap (λ b. if b then t.FieldWord else t.Name) h))

pub found_name : (w : Text) (q : Place) (ts : Tokens) → terminal_in reserved w ≡ None → FoundPart n.AnyName (token (kinds.Word w) q ∷ ts) ts (tok (token (kinds.Word w) q))
found_name w q ts g = name_by (is_field_word w) w q ts refl g

number_by : (b : Bool) (z : ℤ) (q : Place) (ts : Tokens) → is_octal z ≡ b → FoundPart n.AnyNumber (token (kinds.Number z) q ∷ ts) ts (tok (token (kinds.Number z) q))
number_by true z q ts h = make p.OctalNumber tt _ _ _ (found_token t.Octal _ _ (ap (λ b. if b then t.Octal else t.Number) h))
number_by false z q ts h = make p.DecimalNumber tt _ _ _ (found_token t.Number _ _ (ap (λ b. if b then t.Octal else t.Number) h))

pub found_number : (z : ℤ) (q : Place) (ts : Tokens) → FoundPart n.AnyNumber (token (kinds.Number z) q ∷ ts) ts (tok (token (kinds.Number z) q))
found_number z q ts = number_by (is_octal z) z q ts refl

-- ---- tails that are empty ----

pub or_done : {a : Tokens} → IsSome a → FoundPart n.OrTail a a (joins [])
or_done h = found_empty p.OrDone refl (λ k. refl) h

and_done : {a : Tokens} → IsSome a → FoundPart n.AndTail a a (joins [])
and_done h = found_empty p.AndDone refl (λ k. refl) h

not_compared : {a : Tokens} → IsSome a → FoundPart n.RelationTail a a (joins [])
not_compared h = found_empty p.NotCompared refl (λ k. refl) h

sum_done : {a : Tokens} → IsSome a → FoundPart n.SumTail a a (joins [])
sum_done h = found_empty p.SumDone refl (λ k. refl) h

term_done : {a : Tokens} → IsSome a → FoundPart n.TermTail a a (joins [])
term_done h = found_empty p.TermDone refl (λ k. refl) h

not_raised : {a : Tokens} → IsSome a → FoundPart n.PowerTail a a (joins [])
not_raised h = found_empty p.NotRaised refl (λ k. refl) h

no_arguments : {a : Tokens} → IsSome a → FoundPart n.Arguments a a nothing
no_arguments h = found_empty p.NoArguments refl (λ k. refl) h

no_more_expr : {a : Tokens} → IsSome a → FoundPart n.ExprMore a a (formulas [])
no_more_expr h = found_empty p.NoMoreExpr refl (λ k. refl) h

-- ---- relations ----

abbrev IsRelated : ASign → Operator → Type 0
IsRelated s o = (sign_terminal s ≡ t.Relation) × (operator_of s ≡ o)

compared_by : {b c d : Tokens} {o : Operator} {g : Formula} → SignHere IsRelated b c o → FoundPart n.Sum c d (formula g) → FoundPart n.RelationTail b d (joins ((o, g) ∷ []))
compared_by {g = g} (stands one h) c = given (ap (λ z. joins ((z, g) ∷ [])) h.1) (make p.Compared tt _ _ _ (found_token t.Relation _ _ h.0) _ _ c)

compared_tail : {b c d : Tokens} {o : Operator} {g : Formula} → e.Relation b c o → FoundPart n.Sum c d (formula g) → FoundPart n.RelationTail b d (joins ((o, g) ∷ []))
compared_tail r c = compared_by (sign_here IsRelated r ((refl, refl), ((refl, refl), ((refl, refl), ((refl, refl), ((refl, refl), ((refl, refl), tt))))))) c

-- ---- a prime, as a formula with its place or without ----

pub record FoundPrime (a b : Tokens) (f : Formula) : Type 0 where
  pub value : Val
  pub found : FoundPart n.Prime a b value
  pub gives : as_formula value ≡ f

unraised : {a b : Tokens} {f : Formula} → FoundPrime a b f → IsSome b → FoundPart n.Factor a b (formula f)
unraised q h = given (ap (λ f. formula f) q.gives) (make p.Factor tt _ _ _ q.found _ _ (not_raised h))

raised : {a b c : Tokens} {f g : Formula} {q : Place} → FoundPrime a (token (kinds.Sign signs.Power) q ∷ b) f → FoundPrime b c g →
    FoundPart n.Factor a c (formula (Pair operators.Power f g))
raised {f = f} q r = given (ap (λ x. formula (Pair operators.Power x (as_formula r.value))) q.gives ∙ ap (λ x. formula (Pair operators.Power f x)) r.gives)
    (make p.Factor tt _ _ _ q.found _ _ (make p.Raised tt _ _ _ (found_token t.Power _ _ refl) _ _ r.found))

-- ---- several expressions ----

pub record FoundExprs (a b : Tokens) (fs : Formulas) : Type 0 where
  pub first : Formula
  pub others : List Formula
  pub behind : Tokens
  pub is : chained (first ∷ others) ≡ fs
  pub found : FoundPart n.Expr a behind (formula first)
  pub more : FoundPart n.ExprMore behind b (formulas others)

pub found_subscripts : {a b : Tokens} {q r : Place} {fs : Formulas} (c : FoundExprs a (token (kinds.Sign signs.Close) r ∷ b) fs) →
    FoundPart n.Subscripts (token (kinds.Sign signs.Open) q ∷ a) b (formulas (c.first ∷ c.others))
found_subscripts c = make p.Subscripts tt _ _ _ (found_token t.Open _ _ refl) _ _ c.found _ _ c.more _ _ (found_token t.Close _ _ refl)

mutual
  pub found_expr : {a b c : Tokens} {f : Formula} {js : List (Operator × Formula)} → e.Expr a b f → FoundPart n.OrTail b c (joins js) →
      FoundPart n.Expr a c (formula (joined f js))
  found_expr (e.conj h) more = make p.Expr tt _ _ _ (found_conj h (and_done (is_some more))) _ _ more
  found_expr (e.or h one k) more =
      found_expr h (make p.OrMore tt _ _ _ (found_token t.Or _ _ refl) _ _ (found_conj k (and_done (is_some more))) _ _ more)

  found_conj : {a b c : Tokens} {f : Formula} {js : List (Operator × Formula)} → e.Conj a b f → FoundPart n.AndTail b c (joins js) →
      FoundPart n.Conjunction a c (formula (joined f js))
  found_conj (e.neg h) more = make p.Conjunction tt _ _ _ (found_neg h (is_some more)) _ _ more
  found_conj (e.and h one k) more =
      found_conj h (make p.AndMore tt _ _ _ (found_token t.And _ _ refl) _ _ (found_neg k (is_some more)) _ _ more)

  found_neg : {a b : Tokens} {f : Formula} → e.Neg a b f → IsSome b → FoundPart n.Negation a b (formula f)
  found_neg (e.rel h) s = make p.Affirmed tt _ _ _ (found_rel h s)
  found_neg (e.not one h) s = make p.Negated tt _ _ _ (found_token t.Not _ _ refl) _ _ (found_rel h s)

  found_rel : {a b : Tokens} {f : Formula} → e.Rel a b f → IsSome b → FoundPart n.Relational a b (formula f)
  found_rel (e.sum h) s = make p.Relational tt _ _ _ (found_sum h (sum_done s)) _ _ (not_compared s)
  found_rel (e.compared h o k) s =
      let right : _ = compared_tail o (found_sum k (sum_done s)) in
      make p.Relational tt _ _ _ (found_sum h (sum_done (is_some right))) _ _ right

  found_sum : {a b c : Tokens} {f : Formula} {js : List (Operator × Formula)} → e.Sum a b f → FoundPart n.SumTail b c (joins js) →
      FoundPart n.Sum a c (formula (joined f js))
  found_sum (e.term h) more = make p.Sum tt _ _ _ (make p.UnsignedTerm tt _ _ _ (found_term h (term_done (is_some more)))) _ _ more
  found_sum (e.plus one h) more =
      make p.Sum tt _ _ _ (make p.SignedTerm tt _ _ _ (found_token t.Adding _ _ refl) _ _ (found_term h (term_done (is_some more)))) _ _ more
  found_sum (e.minus one h) more =
      make p.Sum tt _ _ _ (make p.SignedTerm tt _ _ _ (found_token t.Adding _ _ refl) _ _ (found_term h (term_done (is_some more)))) _ _ more
  found_sum (e.added h one k) more =
      found_sum h (make p.SumMore tt _ _ _ (found_token t.Adding _ _ refl) _ _ (found_term k (term_done (is_some more))) _ _ more)
  found_sum (e.subtracted h one k) more =
      found_sum h (make p.SumMore tt _ _ _ (found_token t.Adding _ _ refl) _ _ (found_term k (term_done (is_some more))) _ _ more)

  found_term : {a b c : Tokens} {f : Formula} {js : List (Operator × Formula)} → e.Term a b f → FoundPart n.TermTail b c (joins js) →
      FoundPart n.Term a c (formula (joined f js))
  found_term (e.factor h) more = make p.Term tt _ _ _ (found_factor h (is_some more)) _ _ more
  found_term (e.times h one k) more =
      found_term h (make p.TimesMore tt _ _ _ (found_token t.Star _ _ refl) _ _ (found_factor k (is_some more)) _ _ more)
  found_term (e.over h one k) more =
      found_term h (make p.OverMore tt _ _ _ (found_token t.Slash _ _ refl) _ _ (found_factor k (is_some more)) _ _ more)

  found_factor : {a b : Tokens} {f : Formula} → e.Factor a b f → IsSome b → FoundPart n.Factor a b (formula f)
  found_factor (e.prime h) s = unraised (found_prime h s) s
  found_factor (e.power h one k) s = raised (found_prime h tt) (found_prime k s)

  found_prime : {a b : Tokens} {f : Formula} → e.Prime a b f → IsSome b → FoundPrime a b f
  found_prime (e.number one) s = record { value = _; found = make p.NumberPrime tt _ _ _ (found_number _ _ _); gives = refl }
  found_prime (e.truth one) s = record { value = _; found = make p.TruthPrime tt _ _ _ (found_token t.Truth _ _ refl); gives = refl }
  found_prime (e.falsehood one) s = record { value = _; found = make p.TruthPrime tt _ _ _ (found_token t.Truth _ _ refl); gives = refl }
  found_prime (e.ref h) s = record { value = _; found = make p.RefPrime tt _ _ _ (found_ref h s); gives = refl }
  found_prime (e.group one h one) s = record {
    value = _;
    found = make p.GroupPrime tt _ _ _ (found_token t.Open _ _ refl) _ _ (found_expr h (or_done tt)) _ _ (found_token t.Close _ _ refl);
    gives = refl;
  }

  pub found_ref : {a b : Tokens} {f : Formula} → e.Ref a b f → IsSome b → FoundPart n.Ref a b (located (place_at a) f)
  found_ref (e.name (name h)) s = make p.Ref tt _ _ _ (found_name _ _ _ h) _ _ (no_arguments s)
  found_ref (e.applied (name {w = w} {p = q} h) one k one) s =
      let all : _ = found_exprs k tt in
      given (ap (λ z. located q (f66.Item (capitals w) z)) all.is)
      (make p.Ref tt _ _ _ (found_name _ _ _ h) _ _ (make p.SomeArguments tt _ _ _ (found_subscripts all)))

  pub found_exprs : {a b : Tokens} {fs : Formulas} → e.Exprs a b fs → IsSome b → FoundExprs a b fs
  found_exprs (e.last h) s =
      record { first = _; others = []; behind = _; is = refl; found = found_expr h (or_done s); more = no_more_expr s }
  found_exprs (e.comma {f = f} h one k) s =
      let all : _ = found_exprs k s in
      record {
        first = f;
        others = all.first ∷ all.others;
        behind = _;
        is = ap (AndFormula f) all.is;
        found = found_expr h (or_done tt);
        more = make p.MoreExpr tt _ _ _ (found_token t.Comma _ _ refl) _ _ all.found _ _ all.more;
      }
