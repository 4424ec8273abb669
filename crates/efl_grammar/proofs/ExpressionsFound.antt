-- The table derives each expression of the published grammar. A level takes what stands behind it, so that operators on the left become a list.
use Rattle.std.proofs.Common.{◌≡◌, ◌∙◌, ◌++◌, Bool, true, false, ℕ, [], ◌∷◌, Option, None, Some, refl, sym, ap}
use Rattle.std.specs.Prelude.{codes}
use Rattle.ground.specs.declared.place.Place.{Place}
use Rattle.ground.specs.declared.token.Token.{Token}
use Rattle.ground.specs.declared.token.TokenKind.TheVariants as kinds
use Rattle.ground.specs.declared.token.Sign.{Sign as ASign}
use Rattle.ground.specs.declared.token.Sign.TheVariants as signs
use Rattle.efl_tree.specs.declared.expression.EflOperator.{EflOperator}
use Rattle.efl_tree.specs.declared.expression.EflOperator.TheVariants as operators
use Rattle.efl_tree.specs.Syntax.{Text, EflExpr, Truth, At, Call, Pair, Assign, EflExprs, NoExpr, AndExpr, EflPlace, Path, EflSteps, NoStep}
use Rattle.efl_parse_table.specs.declared.table.Terminal.{Terminal}
use Rattle.efl_parse_table.specs.declared.table.Terminal.TheVariants as t
use Rattle.efl_parse_table.specs.declared.table.Nonterminal.TheVariants as n
use Rattle.efl_parse_table.specs.declared.table.Production.TheVariants as p
use Rattle.efl_parse_table.specs.Words.{reserved, terminal_in, is_spelled, is_letter, word_seen, seen, sign_terminal}
use Rattle.efl_parse_values.specs.Kinds.{Joins, Tail, Reached, Stored}
use Rattle.efl_parse_values.specs.Values.{Val, tok, expr, exprs, joins, rest, path, steps}
use Rattle.efl_parse_values.specs.Parts.{sign_in, operator_of, bare}
use Rattle.efl_parse_expressions.specs.Phrases.{joined, ended}
use Rattle.rat_grammar.specs.Tokens.{Tokens, token, one, capitals, word, here, there}
use Rattle.rat_grammar.specs.Laws.{IsSome}
use Rattle.rat_grammar.proofs.Parts.{Part}
use Rattle.rat_grammar.proofs.Standing.{SignHere, stands, sign_here}
use Rattle.rat_grammar.proofs.ReservedWords.{terminal_of}
use Rattle.efl_grammar.specs.Tokens.{name}
use Rattle.efl_grammar.specs.Expressions as e
use Rattle.efl_grammar.proofs.TokenLemmas.{letter_by, word_seen_as}
use Rattle.rat_grammar.proofs.Derivations.{is_some, given}
use Rattle.efl_grammar.proofs.Steps.{FoundToken, FoundPart, built, make, found_token, found_empty}
use Rattle.efl_grammar.proofs.ExpressionsRead.{joined_append, joined_all, truth_is}

-- ---- names and words ----

found_letter_by : (i l x y : Bool) (w : Text) (q : Place) (ts : Tokens) → seen (token (kinds.Word w) q) ≡ letter_by i l x y →
    FoundPart n.AnyLetter (token (kinds.Word w) q ∷ ts) ts (tok (token (kinds.Word w) q))
unfolding built
found_letter_by true l x y w q ts h = make p.WidthLetter tt _ _ _ (found_token t.WidthLetter _ _ h)
found_letter_by false true x y w q ts h = make p.WidthLetter tt _ _ _ (found_token t.WidthLetter _ _ h)
found_letter_by false false true y w q ts h = make p.CharLetter tt _ _ _ (found_token t.CharLetter _ _ h)
found_letter_by false false false true w q ts h = make p.SkipLetter tt _ _ _ (found_token t.SkipLetter _ _ h)
found_letter_by false false false false w q ts h = make p.PlainLetter tt _ _ _ (found_token t.Letter _ _ h)

pub found_letter : (c : ℕ) (q : Place) (ts : Tokens) → terminal_in reserved (c ∷ []) ≡ None →
    FoundPart n.AnyLetter (token (kinds.Word (c ∷ [])) q ∷ ts) ts (tok (token (kinds.Word (c ∷ [])) q))
found_letter c q ts g = found_letter_by (is_letter 73 c) (is_letter 76 c) (is_letter 67 c) (is_letter 88 c) (c ∷ []) q ts (ap (λ o. word_seen o (c ∷ [])) g)

pub found_name : (w : Text) (q : Place) (ts : Tokens) → terminal_in reserved w ≡ None → FoundPart n.AnyName (token (kinds.Word w) q ∷ ts) ts (tok (token (kinds.Word w) q))
unfolding built
found_name [] q ts g = make p.LongName tt _ _ _ (found_token t.Name _ _ (ap (λ o. word_seen o []) g))
found_name (c ∷ []) q ts g = make p.LetterName tt _ _ _ (found_letter c q ts g)
found_name (c ∷ d ∷ ds) q ts g = make p.LongName tt _ _ _ (found_token t.Name _ _ (ap (λ o. word_seen o (c ∷ d ∷ ds)) g))

-- a reserved word, where it stands
pub the_word : (x : Text) (k : Terminal) → terminal_of reserved x ≡ Some k → {w : Text} {q : Place} {ts : Tokens} → capitals w ≡ x →
    FoundToken k (token (kinds.Word w) q ∷ ts) ts (tok (token (kinds.Word w) q))
the_word x k e {w} h = found_token k _ _ (word_seen_as x k w h e)

-- ---- tails that are empty ----

or_done : {a : Tokens} → IsSome a → FoundPart n.OrTail a a (joins [])
unfolding built
or_done h = found_empty p.OrDone refl (λ k. refl) h

and_done : {a : Tokens} → IsSome a → FoundPart n.AndTail a a (joins [])
unfolding built
and_done h = found_empty p.AndDone refl (λ k. refl) h

not_compared : {a : Tokens} → IsSome a → FoundPart n.RelationTail a a (joins [])
unfolding built
not_compared h = found_empty p.NotCompared refl (λ k. refl) h

sum_done : {a : Tokens} → IsSome a → FoundPart n.SumTail a a (joins [])
unfolding built
sum_done h = found_empty p.SumDone refl (λ k. refl) h

term_done : {a : Tokens} → IsSome a → FoundPart n.TermTail a a (joins [])
unfolding built
term_done h = found_empty p.TermDone refl (λ k. refl) h

not_raised : {a : Tokens} → IsSome a → FoundPart n.PowerTail a a (joins [])
unfolding built
not_raised h = found_empty p.NotRaised refl (λ k. refl) h

no_more_expr : {a : Tokens} → IsSome a → FoundPart n.ExprMore a a (exprs NoExpr)
unfolding built
no_more_expr h = found_empty p.NoMoreExpr refl (λ k. refl) h

no_subscripts : {a : Tokens} → IsSome a → FoundPart n.Subscripts a a (exprs NoExpr)
unfolding built
no_subscripts h = found_empty p.NoSubscripts refl (λ k. refl) h

no_steps : {a : Tokens} → IsSome a → FoundPart n.Steps a a (steps NoStep)
unfolding built
no_steps h = found_empty p.NoSteps refl (λ k. refl) h

-- ---- operators ----

pub record FoundOperator (Found : Part Val) (a b : Tokens) (o : EflOperator) : Type 0 where
  pub token : Token
  pub found : Found a b (tok token)
  pub is : operator_of (sign_in (tok token)) ≡ o

-- a sign that the table sees as this terminal stands for this operator
abbrev IsFor : Terminal → ASign → EflOperator → Type 0
IsFor k s o = (sign_terminal s ≡ k) × (operator_of s ≡ o)

operator_here : (k : Terminal) {a b : Tokens} {o : EflOperator} → SignHere (IsFor k) a b o → FoundOperator (FoundToken k) a b o
operator_here k (stands one h) = record { token = _; found = found_token k _ _ h.0; is = h.1 }

the_relation : {a b : Tokens} {o : EflOperator} → e.Relation a b o → FoundOperator (FoundToken t.Relation) a b o
the_relation r = operator_here t.Relation (sign_here (IsFor t.Relation) r ((refl, refl), ((refl, refl), ((refl, refl), ((refl, refl), ((refl, refl), ((refl, refl), tt)))))))

the_and : {a b : Tokens} {o : EflOperator} → e.AndSign a b o → FoundOperator (FoundToken t.And) a b o
the_and r = operator_here t.And (sign_here (IsFor t.And) r ((refl, refl), ((refl, refl), tt)))

the_or : {a b : Tokens} {o : EflOperator} → e.OrSign a b o → FoundOperator (FoundToken t.Or) a b o
the_or r = operator_here t.Or (sign_here (IsFor t.Or) r ((refl, refl), ((refl, refl), tt)))

the_adding : {a b : Tokens} {o : EflOperator} → e.AddSign a b o → FoundOperator (FoundPart n.Adding) a b o
unfolding built
the_adding (here one) = record { token = _; found = make p.PlusSign tt _ _ _ (found_token t.Plus _ _ refl); is = refl }
the_adding (there (here one)) = record { token = _; found = make p.MinusSign tt _ _ _ (found_token t.Minus _ _ refl); is = refl }
the_adding (there (there h)) = elim h [ ]

joins_is : {o s : EflOperator} {f g : EflExpr} {js : Joins} → o ≡ s → f ≡ g → joins ((o, f) ∷ js) ≡ joins ((s, g) ∷ js)
joins_is {s = s} {f = f} {js = js} h k = ap (λ z. joins ((z, f) ∷ js)) h ∙ ap (λ z. joins ((s, z) ∷ js)) k

-- ---- places ----

pub data FoundSubs : Tokens → Tokens → EflExprs → Type 0 where
  none : {a : Tokens} → FoundSubs a a NoExpr
  some : {a b : Tokens} {q r : Place} {es : EflExprs} → FoundPart n.Arguments a (token (kinds.Sign signs.Close) r ∷ b) (exprs es) →
      FoundSubs (token (kinds.Sign signs.Open) q ∷ a) b es

pub data FoundPlace : Tokens → Tokens → EflPlace → Type 0 where
  named : {a b c : Tokens} {w : Text} {q : Place} {es : EflExprs} {ss : EflSteps} → terminal_in reserved w ≡ None → FoundSubs a b es → FoundPart n.Steps b c (steps ss) →
      FoundPlace (token (kinds.Word w) q ∷ a) c (Path (capitals w) es ss)

subs_part : {a b : Tokens} {es : EflExprs} → FoundSubs a b es → IsSome b → FoundPart n.Subscripts a b (exprs es)
unfolding built
subs_part none s = no_subscripts s
subs_part (some c) s = make p.SomeSubscripts tt _ _ _ (found_token t.Open _ _ refl) _ _ c _ _ (found_token t.Close _ _ refl)

pub place_part : {a b : Tokens} {s : EflPlace} → FoundPlace a b s → FoundPart n.Place a b (path s)
unfolding built
place_part (named h u c) = make p.Place tt _ _ _ (found_name _ _ _ h) _ _ (subs_part u (is_some c)) _ _ c

place_prime : {a b : Tokens} {s : EflPlace} → FoundPlace a b s → FoundPart n.Prime a b (expr (At s))
unfolding built
place_prime (named h none c) = make p.NamedPrime tt _ _ _ (found_name _ _ _ h) _ _ (make p.PrimePlace tt _ _ _ c)
place_prime (named h (some u) c) =
    make p.NamedPrime tt _ _ _ (found_name _ _ _ h) _ _
    (make p.PrimeOpen tt _ _ _ (found_token t.Open _ _ refl) _ _ (make p.PrimeFull tt _ _ _ u _ _ (found_token t.Close _ _ refl) _ _ c))

abbrev pub tailed : EflPlace → Tail → EflExpr
tailed (Path x es ss) y = ended x es ss y

place_expr : {a b c : Tokens} {s : EflPlace} (y : Tail) → FoundPlace a b s → FoundPart n.ExprTail b c (rest (bare y)) → FoundPart n.Expr a c (expr (tailed s y))
unfolding built
place_expr y (named h none c) more = make p.NamedExpr tt _ _ _ (found_name _ _ _ h) _ _ (make p.ExprPlace tt _ _ _ c _ _ more)
place_expr y (named h (some u) c) more =
    make p.NamedExpr tt _ _ _ (found_name _ _ _ h) _ _
    (make p.ExprOpen tt _ _ _ (found_token t.Open _ _ refl) _ _ (make p.ExprFull tt _ _ _ u _ _ (found_token t.Close _ _ refl) _ _ c _ _ more))

tailed_reached : (s : EflPlace) (js : Joins) → tailed s (Reached js) ≡ joined (At s) js
tailed_reached (Path x es ss) js = refl

tailed_stored : (s : EflPlace) (o : Option EflOperator) (f : EflExpr) → tailed s (Stored o f) ≡ Assign o s f
tailed_stored (Path x es ss) o f = refl

-- ---- operands ----

pub record FoundOperand (a b : Tokens) (x : EflExpr) : Type 0 where
  pub prime : FoundPart n.Prime a b (expr x)
  pub whole : (c d : Tokens) (js ks : Joins) → FoundPart n.PowerTail b c (joins js) → FoundPart n.AfterFactor c d (joins ks) →
      FoundPart n.Expr a d (expr (joined (joined x js) ks))

atom_operand : {a b : Tokens} {x : EflExpr} → FoundPart n.Atom a b (expr x) → FoundOperand a b x
unfolding built
atom_operand c = record { prime = make p.AtomPrime tt _ _ _ c; whole = λ d e js ks m k. make p.AtomExpr tt _ _ _ c _ _ m _ _ k }

place_operand : {a b : Tokens} {s : EflPlace} → FoundPlace a b s → FoundOperand a b (At s)
unfolding built
place_operand {s = s} c = record {
  prime = place_prime c;
  whole = λ d e js ks m k. given (ap (λ z. expr z) (tailed_reached s (js ++ ks) ∙ joined_append (At s) js ks)) (place_expr (Reached (js ++ ks)) c (make p.ExprJoined tt _ _ _ m _ _ k));
}

call_operand : {a : Tokens} {w : Text} {q r s : Place} → terminal_in reserved w ≡ None →
    FoundOperand (token (kinds.Word w) q ∷ token (kinds.Sign signs.Open) r ∷ token (kinds.Sign signs.Close) s ∷ a) a (Call (capitals w) NoExpr)
unfolding built
call_operand {w = w} h = record {
  prime =
      make p.NamedPrime tt _ _ _ (found_name _ _ _ h) _ _
      (make p.PrimeOpen tt _ _ _ (found_token t.Open _ _ refl) _ _ (make p.PrimeEmpty tt _ _ _ (found_token t.Close _ _ refl)));
  whole = λ d e js ks m k. given (ap (λ z. expr z) (joined_append (Call (capitals w) NoExpr) js ks))
      (make p.NamedExpr tt _ _ _ (found_name _ _ _ h) _ _
      (make p.ExprOpen tt _ _ _ (found_token t.Open _ _ refl) _ _ (make p.ExprEmpty tt _ _ _ (found_token t.Close _ _ refl) _ _ m _ _ k)));
}

truth_operand : {a : Tokens} {w : Text} {q : Place} (v : Bool) → FoundToken t.Truth (token (kinds.Word w) q ∷ a) a (tok (token (kinds.Word w) q)) → is_spelled (codes "TRUE") w ≡ v →
    FoundOperand (token (kinds.Word w) q ∷ a) a (Truth v)
unfolding built
truth_operand v c h = atom_operand (given (ap (λ z. expr (Truth z)) h) (make p.TruthAtom tt _ _ _ c))

-- ---- what has been read of each level ----

pub record FoundPower (a b : Tokens) (x : EflExpr) : Type 0 where
  pub first : EflExpr
  pub behind : Tokens
  pub js : Joins
  pub operand : FoundOperand a behind first
  pub tail : FoundPart n.PowerTail behind b (joins js)
  pub is : joined first js ≡ x

pub record FoundUnary (a b : Tokens) (x : EflExpr) : Type 0 where
  pub unary : FoundPart n.Unary a b (expr x)
  pub whole : (c : Tokens) (ks : Joins) → FoundPart n.AfterFactor b c (joins ks) → FoundPart n.Expr a c (expr (joined x ks))

pub record FoundTerm (a b : Tokens) (x : EflExpr) : Type 0 where
  pub first : EflExpr
  pub behind : Tokens
  pub js : Joins
  pub unary : FoundUnary a behind first
  pub tail : FoundPart n.TermTail behind b (joins js)
  pub is : joined first js ≡ x

pub record FoundSum (a b : Tokens) (x : EflExpr) : Type 0 where
  pub first : EflExpr
  pub behind : Tokens
  pub js : Joins
  pub term : FoundTerm a behind first
  pub tail : FoundPart n.SumTail behind b (joins js)
  pub is : joined first js ≡ x

pub record FoundRel (a b : Tokens) (x : EflExpr) : Type 0 where
  pub first : EflExpr
  pub behind : Tokens
  pub js : Joins
  pub sum : FoundSum a behind first
  pub tail : FoundPart n.RelationTail behind b (joins js)
  pub is : joined first js ≡ x

pub data FoundNeg (a b : Tokens) (x : EflExpr) : Type 0 where
  rel : FoundRel a b x → FoundNeg a b x
  negated : FoundPart n.Negated a b (expr x) → FoundNeg a b x

pub record FoundConj (a b : Tokens) (x : EflExpr) : Type 0 where
  pub first : EflExpr
  pub behind : Tokens
  pub js : Joins
  pub neg : FoundNeg a behind first
  pub tail : FoundPart n.AndTail behind b (joins js)
  pub is : joined first js ≡ x

pub record FoundDisj (a b : Tokens) (x : EflExpr) : Type 0 where
  pub first : EflExpr
  pub behind : Tokens
  pub js : Joins
  pub conj : FoundConj a behind first
  pub tail : FoundPart n.OrTail behind b (joins js)
  pub is : joined first js ≡ x

sum_is : {a b : Tokens} {x : EflExpr} (c : FoundSum a b x) → joined (joined c.term.first c.term.js) c.js ≡ x
sum_is c = ap (λ z. joined z c.js) c.term.is ∙ c.is

rel_is : {a b : Tokens} {x : EflExpr} (c : FoundRel a b x) → joined (joined (joined c.sum.term.first c.sum.term.js) c.sum.js) c.js ≡ x
rel_is c = ap (λ z. joined z c.js) (sum_is c.sum) ∙ c.is

neg_part : {a b : Tokens} {x : EflExpr} → FoundNeg a b x → FoundPart n.Negation a b (expr x)
unfolding built
neg_part (rel c) =
    given (ap (λ z. expr z) (rel_is c)) (make p.Affirmed tt _ _ _ c.sum.term.unary.unary _ _ c.sum.term.tail _ _ c.sum.tail _ _ c.tail)
neg_part (negated c) = make p.NegatedNegation tt _ _ _ c

by_neg : {a b c d : Tokens} {x : EflExpr} {js ks : Joins} → FoundNeg a b x → FoundPart n.AndTail b c (joins js) → FoundPart n.OrTail c d (joins ks) →
    FoundPart n.Expr a d (expr (joined (joined x js) ks))
unfolding built
by_neg {js = js} {ks = ks} (rel c) m k =
    given (ap (λ z. expr z) (joined_all c.sum.term.first c.sum.term.js c.sum.js c.js js ks ∙ ap (λ z. joined (joined z js) ks) (rel_is c)))
    (c.sum.term.unary.whole _ _ (make p.AfterFactor tt _ _ _ c.sum.term.tail _ _ c.sum.tail _ _ c.tail _ _ m _ _ k))
by_neg (negated c) m k = make p.NegatedExpr tt _ _ _ c _ _ m _ _ k

disj_expr : {a b : Tokens} {x : EflExpr} → FoundDisj a b x → FoundPart n.Expr a b (expr x)
disj_expr c = given (ap (λ z. expr z) (ap (λ z. joined z c.js) c.conj.is ∙ c.is)) (by_neg c.conj.neg c.conj.tail c.tail)

-- ---- tails ----

times_tail : {a b c d : Tokens} {o : EflOperator} {x : EflExpr} {js : Joins} → e.TimesSign a b o → FoundPower b c x → FoundPart n.TermTail c d (joins js) →
    FoundPart n.TermTail a d (joins ((o, x) ∷ js))
unfolding built
times_tail {js = js} (here one) c k = given (ap (λ z. joins ((operators.Mul, z) ∷ js)) c.is) (make p.TimesMore tt _ _ _ (found_token t.Star _ _ refl) _ _ c.operand.prime _ _ c.tail _ _ k)
times_tail {js = js} (there (here one)) c k = given (ap (λ z. joins ((operators.Div, z) ∷ js)) c.is) (make p.OverMore tt _ _ _ (found_token t.Slash _ _ refl) _ _ c.operand.prime _ _ c.tail _ _ k)
times_tail (there (there h)) c k = elim h [ ]

sum_tail : {a b c d : Tokens} {o : EflOperator} {x : EflExpr} {js : Joins} → FoundOperator (FoundPart n.Adding) a b o → FoundTerm b c x → FoundPart n.SumTail c d (joins js) →
    FoundPart n.SumTail a d (joins ((o, x) ∷ js))
unfolding built
sum_tail s c k = given (joins_is s.is c.is) (make p.SumMore tt _ _ _ s.found _ _ c.unary.unary _ _ c.tail _ _ k)

compared_tail : {a b c : Tokens} {o : EflOperator} {x : EflExpr} → FoundOperator (FoundToken t.Relation) a b o → FoundSum b c x → FoundPart n.RelationTail a c (joins ((o, x) ∷ []))
unfolding built
compared_tail s c = given (joins_is s.is (sum_is c)) (make p.Compared tt _ _ _ s.found _ _ c.term.unary.unary _ _ c.term.tail _ _ c.tail)

and_tail : {a b c d : Tokens} {o : EflOperator} {x : EflExpr} {js : Joins} → FoundOperator (FoundToken t.And) a b o → FoundNeg b c x → FoundPart n.AndTail c d (joins js) →
    FoundPart n.AndTail a d (joins ((o, x) ∷ js))
unfolding built
and_tail {x = x} {js = js} s c k = given (joins_is s.is refl) (make p.AndMore tt _ _ _ s.found _ _ (neg_part c) _ _ k)

or_tail : {a b c d : Tokens} {o : EflOperator} {x : EflExpr} {js : Joins} → FoundOperator (FoundToken t.Or) a b o → FoundConj b c x → FoundPart n.OrTail c d (joins js) →
    FoundPart n.OrTail a d (joins ((o, x) ∷ js))
unfolding built
or_tail s c k = given (joins_is s.is c.is) (make p.OrMore tt _ _ _ s.found _ _ (neg_part c.neg) _ _ c.tail _ _ k)

-- a sign of an assignment with this operator
abbrev IsStored : ASign → Option EflOperator → Type 0
IsStored s o = (sign_terminal s ≡ t.OperatorAssign) × (Some (operator_of s) ≡ o)

storing_by : {a b c : Tokens} {o : Option EflOperator} {x : EflExpr} → SignHere IsStored a b o → FoundPart n.Expr b c (expr x) → FoundPart n.Storing a c (rest (bare (Stored o x)))
unfolding built
storing_by {x = x} (stands one h) c =
    given (ap (λ z. rest (bare (Stored z x))) h.1) (make p.OperatorStoring tt _ _ _ (found_token t.OperatorAssign _ _ h.0) _ _ c)

pub storing : {a b c : Tokens} {o : Option EflOperator} {x : EflExpr} → e.Assign a b o → FoundPart n.Expr b c (expr x) → FoundPart n.Storing a c (rest (bare (Stored o x)))
unfolding built
storing (here one) c = make p.PlainStoring tt _ _ _ (found_token t.Assign _ _ refl) _ _ c
storing (there r) c = storing_by (sign_here IsStored r ((refl, refl), ((refl, refl), ((refl, refl), ((refl, refl), ((refl, refl), ((refl, refl), ((refl, refl), ((refl, refl), ((refl, refl), tt)))))))))) c

prefixed : {a b : Tokens} {x : EflExpr} → FoundPart n.Prefixed a b (expr x) → FoundUnary a b x
unfolding built
prefixed c = record { unary = make p.PrefixedUnary tt _ _ _ c; whole = λ d ks k. make p.PrefixedExpr tt _ _ _ c _ _ k }

power_unary : {a b : Tokens} {x : EflExpr} → FoundPower a b x → FoundUnary a b x
unfolding built
power_unary c = record {
  unary = given (ap (λ z. expr z) c.is) (make p.PrimeUnary tt _ _ _ c.operand.prime _ _ c.tail);
  whole = λ d ks k. given (ap (λ z. expr (joined z ks)) c.is) (c.operand.whole _ _ _ _ c.tail k);
}

-- ---- several expressions ----

pub record FoundExprs (a b : Tokens) (es : EflExprs) : Type 0 where
  pub first : EflExpr
  pub others : EflExprs
  pub behind : Tokens
  pub is : AndExpr first others ≡ es
  pub found : FoundPart n.Expr a behind (expr first)
  pub more : FoundPart n.ExprMore behind b (exprs others)

pub arguments : {a b : Tokens} {es : EflExprs} → FoundExprs a b es → FoundPart n.Arguments a b (exprs es)
unfolding built
arguments c = given (ap (λ z. exprs z) c.is) (make p.Arguments tt _ _ _ c.found _ _ c.more)

more_expr : {a b : Tokens} {q : Place} {es : EflExprs} → FoundExprs a b es → FoundPart n.ExprMore (token (kinds.Sign signs.Comma) q ∷ a) b (exprs es)
unfolding built
more_expr c = given (ap (λ z. exprs z) c.is) (make p.MoreExpr tt _ _ _ (found_token t.Comma _ _ refl) _ _ c.found _ _ c.more)

-- ---- all levels ----

mutual
  unfolding built

  pub found_expr : {a b : Tokens} {x : EflExpr} → e.Expr a b x → IsSome b → FoundPart n.Expr a b (expr x)
  found_expr (e.disj h) s = disj_expr (found_disj h (or_done s))
  found_expr (e.assignment {s = u} {o = o} {e = f} h k l) s =
      let right : _ = storing k (found_expr l s) in
      given (ap (λ z. expr z) (tailed_stored u o f)) (place_expr (Stored o f) (found_place h (is_some right)) (make p.ExprStored tt _ _ _ right))

  found_disj : {a b c : Tokens} {x : EflExpr} {js : Joins} → e.Disj a b x → FoundPart n.OrTail b c (joins js) → FoundDisj a c (joined x js)
  found_disj {js = js} (e.conj {e = x} h) more =
      record { first = x; behind = _; js = js; conj = found_conj h (and_done (is_some more)); tail = more; is = refl }
  found_disj (e.or h o k) more = found_disj h (or_tail (the_or o) (found_conj k (and_done (is_some more))) more)

  found_conj : {a b c : Tokens} {x : EflExpr} {js : Joins} → e.Conj a b x → FoundPart n.AndTail b c (joins js) → FoundConj a c (joined x js)
  found_conj {js = js} (e.neg {e = x} h) more = record { first = x; behind = _; js = js; neg = found_neg h (is_some more); tail = more; is = refl }
  found_conj (e.and h o k) more = found_conj h (and_tail (the_and o) (found_neg k (is_some more)) more)

  found_neg : {a b : Tokens} {x : EflExpr} → e.Neg a b x → IsSome b → FoundNeg a b x
  found_neg (e.rel h) s = rel (found_rel h s)
  found_neg (e.not one h) s = negated (make p.Negated tt _ _ _ (found_token t.Not _ _ refl) _ _ (neg_part (found_neg h s)))

  found_rel : {a b : Tokens} {x : EflExpr} → e.Rel a b x → IsSome b → FoundRel a b x
  found_rel (e.sum {e = x} h) s = record { first = x; behind = _; js = []; sum = found_sum h (sum_done s); tail = not_compared s; is = refl }
  found_rel (e.compared {o = o} {e = x} {f = y} h k l) s =
      let right : _ = compared_tail (the_relation k) (found_sum l (sum_done s)) in
      record { first = x; behind = _; js = (o, y) ∷ []; sum = found_sum h (sum_done (is_some right)); tail = right; is = refl }

  found_sum : {a b c : Tokens} {x : EflExpr} {js : Joins} → e.Sum a b x → FoundPart n.SumTail b c (joins js) → FoundSum a c (joined x js)
  found_sum {js = js} (e.term {e = x} h) more = record { first = x; behind = _; js = js; term = found_term h (term_done (is_some more)); tail = more; is = refl }
  found_sum (e.added h o k) more = found_sum h (sum_tail (the_adding o) (found_term k (term_done (is_some more))) more)

  found_term : {a b c : Tokens} {x : EflExpr} {js : Joins} → e.Term a b x → FoundPart n.TermTail b c (joins js) → FoundTerm a c (joined x js)
  found_term {js = js} (e.unary {e = x} h) more = record { first = x; behind = _; js = js; unary = found_unary h (is_some more); tail = more; is = refl }
  found_term (e.times h o k) more = found_term h (times_tail o (found_power k (is_some more)) more)

  found_unary : {a b : Tokens} {x : EflExpr} → e.Unary a b x → IsSome b → FoundUnary a b x
  found_unary (e.power h) s = power_unary (found_power h s)
  found_unary (e.plus one h) s = prefixed (make p.Signed tt _ _ _ (make p.PlusSign tt _ _ _ (found_token t.Plus _ _ refl)) _ _ (found_unary h s).unary)
  found_unary (e.minus one h) s = prefixed (make p.Signed tt _ _ _ (make p.MinusSign tt _ _ _ (found_token t.Minus _ _ refl)) _ _ (found_unary h s).unary)
  found_unary (e.step h) s = prefixed (found_step h s)

  found_step : {a b : Tokens} {x : EflExpr} → e.Step a b x → IsSome b → FoundPart n.Prefixed a b (expr x)
  found_step (e.up one h) s = make p.Stepped tt _ _ _ (found_token t.Stepper _ _ refl) _ _ (place_part (found_place h s))
  found_step (e.down one h) s = make p.Stepped tt _ _ _ (found_token t.Stepper _ _ refl) _ _ (place_part (found_place h s))

  found_power : {a b : Tokens} {x : EflExpr} → e.Power a b x → IsSome b → FoundPower a b x
  found_power (e.operand {e = x} h) s = record { first = x; behind = _; js = []; operand = found_operand h s; tail = not_raised s; is = refl }
  found_power (e.raised {e = x} h one k) s =
      let right : _ = found_power k s in
      record {
        first = x;
        behind = _;
        js = (operators.Power, joined right.first right.js) ∷ [];
        operand = found_operand h tt;
        tail = make p.Raised tt _ _ _ (found_token t.Power _ _ refl) _ _ right.operand.prime _ _ right.tail;
        is = ap (λ z. Pair operators.Power x z) right.is;
      }

  found_operand : {a b : Tokens} {x : EflExpr} → e.Operand a b x → IsSome b → FoundOperand a b x
  found_operand (e.place h) s = place_operand (found_place h s)
  found_operand (e.call (name h) one one) s = call_operand h
  found_operand (e.number one) s = atom_operand (make p.NumberAtom tt _ _ _ (found_token t.Number _ _ refl))
  found_operand (e.truth (word {w = w} h)) s = truth_operand true (the_word (codes "TRUE") t.Truth refl h) (sym (truth_is w (codes "TRUE") h))
  found_operand (e.falsehood (word {w = w} h)) s = truth_operand false (the_word (codes "FALSE") t.Truth refl h) (sym (truth_is w (codes "FALSE") h))
  found_operand (e.group one h one) s = atom_operand (make p.GroupAtom tt _ _ _ (found_token t.Open _ _ refl) _ _ (found_expr h tt) _ _ (found_token t.Close _ _ refl))

  pub found_place : {a b : Tokens} {s : EflPlace} → e.Place a b s → IsSome b → FoundPlace a b s
  found_place (e.path (name h) k l) s = let behind : _ = found_steps l s in named h (found_subs k (is_some behind)) behind

  found_steps : {a b : Tokens} {ss : EflSteps} → e.Steps a b ss → IsSome b → FoundPart n.Steps a b (steps ss)
  found_steps e.no_step s = no_steps s
  found_steps (e.member one (name h) k l) s =
      let behind : _ = found_steps l s in
      make p.MemberStep tt _ _ _ (found_token t.Point _ _ refl) _ _ (found_name _ _ _ h) _ _ (subs_part (found_subs k (is_some behind)) (is_some behind)) _ _ behind
  found_steps (e.overlay one (name h) l) s = make p.OverlayStep tt _ _ _ (found_token t.Arrow _ _ refl) _ _ (found_name _ _ _ h) _ _ (found_steps l s)

  found_subs : {a b : Tokens} {es : EflExprs} → e.AnySubs a b es → IsSome b → FoundSubs a b es
  found_subs e.no_subs s = none
  found_subs (e.some_subs (e.subs one h one)) s = some (arguments (found_exprs h tt))

  pub found_exprs : {a b : Tokens} {es : EflExprs} → e.Exprs a b es → IsSome b → FoundExprs a b es
  found_exprs (e.last {e = x} h) s = record { first = x; others = NoExpr; behind = _; is = refl; found = found_expr h s; more = no_more_expr s }
  found_exprs (e.comma {e = x} {es = xs} h one k) s =
      record { first = x; others = xs; behind = _; is = refl; found = found_expr h tt; more = more_expr (found_exprs k s) }
