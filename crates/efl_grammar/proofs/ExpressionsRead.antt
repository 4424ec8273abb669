-- What the table reads as an expression is one of the published grammar.
use Rattle.std.proofs.Common.{◌≡◌, ◌∙◌, ◌++◌, List, [], ◌∷◌, None, Some, refl, sym, subst, ap}
use Rattle.std.specs.Prelude.{ℕ, codes}
use Rattle.ground.specs.declared.token.Token.{Token}
use Rattle.ground.specs.declared.token.TokenKind.TheVariants as kinds
use Rattle.ground.specs.declared.token.Sign.TheVariants as signs
use Rattle.efl_tree.specs.Syntax.{EflExpr, Int, Truth, At, Call, Group, Not, Pair, NoExpr, AndExpr, EflPlace, Path, NoStep, Member, Overlay}
use Rattle.efl_parse_table.specs.declared.table.Production.TheVariants as p
use Rattle.efl_parse_table.specs.Words.{is_spelled}
use Rattle.efl_parse_values.specs.Kinds.{Joins, Called, Reached, Stored}
use Rattle.efl_parse_values.specs.Values.{tok}
use Rattle.efl_parse_values.specs.Parts.{name_in, integer_in, sign_in, is_true, operator_of, bare}
use Rattle.efl_parse_expressions.specs.Phrases.{joined, joint, with_steps, with_arguments, completed, signed_expr, stepped}
use Rattle.rat_grammar.specs.Tokens.{Tokens, token, one, capitals, word, here, there}
use Rattle.rat_grammar.proofs.Standing.{place_of, Exact, exact, exactly, sole, Either, first, second, either, spelled, Choice, this, that, choice}
use Rattle.rat_grammar.proofs.ReservedWords.{same, is_other}
use Rattle.efl_grammar.specs.Expressions as e
use Rattle.efl_grammar.proofs.TokenLemmas.{AnAssign}
use Rattle.efl_grammar.proofs.Taken as taken
use Rattle.efl_grammar.proofs.Steps.{Step, built}

pub joined_append : (x : EflExpr) (js ks : Joins) → joined x (js ++ ks) ≡ joined (joined x js) ks
joined_append x [] ks = refl
joined_append x (j ∷ js) ks = joined_append (Pair j.0 x j.1) js ks

pub joined_all : (x : EflExpr) (js ks ls ms ns : Joins) → joined x (js ++ ks ++ ls ++ ms ++ ns) ≡ joined (joined (joined (joined (joined x js) ks) ls) ms) ns
joined_all x js ks ls ms ns =
    joined_append x (js ++ ks ++ ls ++ ms) ns
    ∙ ap (λ z. joined z ns) (joined_append x (js ++ ks ++ ls) ms ∙ ap (λ z. joined z ms) (joined_append x (js ++ ks) ls ∙ ap (λ z. joined z ls) (joined_append x js ks)))

add_sign : {a b : Tokens} {y : Token} → Either (kinds.Sign signs.Plus) (kinds.Sign signs.Minus) a b y → e.AddSign a b (operator_of (sign_in (tok y)))
add_sign (first exact) = here one
add_sign (second exact) = there (here one)

star : {a b : Tokens} {y : Token} → Exact (kinds.Sign signs.Star) a b y → e.TimesSign a b (operator_of (sign_in (tok y)))
star exact = here one

slash : {a b : Tokens} {y : Token} → Exact (kinds.Sign signs.Slash) a b y → e.TimesSign a b (operator_of (sign_in (tok y)))
slash exact = there (here one)

power_with : {a m k b : Tokens} {y : Token} {f g : EflExpr} → e.Operand a m f → Exact (kinds.Sign signs.Power) m k y → e.Power k b g →
    e.Power a b (Pair (operator_of (sign_in (tok y))) f g)
power_with q exact c = e.raised q one c

signed_unary : {a m b : Tokens} {y : Token} {f : EflExpr} → Either (kinds.Sign signs.Plus) (kinds.Sign signs.Minus) a m y → e.Unary m b f → e.Unary a b (signed_expr (tok y) f)
signed_unary (first exact) c = e.plus one c
signed_unary (second exact) c = e.minus one c

pub a_step : {a m b : Tokens} {y : Token} {s : EflPlace} → Either (kinds.Sign signs.Increment) (kinds.Sign signs.Decrement) a m y → e.Place m b s → e.Step a b (stepped (tok y) s)
a_step (first exact) c = e.up one c
a_step (second exact) c = e.down one c

-- whether a word is `true`
pub truth_is : (w : List ℕ) (x : List ℕ) → capitals w ≡ x → same (codes "TRUE") x ≡ is_spelled (codes "TRUE") w
truth_is w x h = sym (is_other (codes "TRUE") x w h)

a_truth : {a b : Tokens} {y : Token} → Choice (codes "TRUE") (codes "FALSE") a b y → e.Operand a b (Truth (is_true (tok y)))
a_truth (this (spelled {w = w} {p = q} {ts = ts} h)) = subst (λ v. e.Operand (token (kinds.Word w) q ∷ ts) ts (Truth v)) (truth_is w (codes "TRUE") h) (e.truth (word h))
a_truth (that (spelled {w = w} {p = q} {ts = ts} h)) = subst (λ v. e.Operand (token (kinds.Word w) q ∷ ts) ts (Truth v)) (truth_is w (codes "FALSE") h) (e.falsehood (word h))

pub expr_named : Step p.NamedExpr
unfolding built
expr_named a h = λ y m r q b t. (completed (name_in (tok y)) q, refl, t a (name_in (tok y)) r.1)

pub whole : Step p.WholeExpr
unfolding built
whole a h = λ f b c. (f, refl, c)

pub spot : Step p.WholePlace
unfolding built
spot a h = λ s b c. (s, refl, c)

pub atom_expr : Step p.AtomExpr
unfolding built
atom_expr a h = λ f m c js k t ks b u. (joined (joined f js) ks, refl, e.disj (u a (joined f js) (e.power (t a f c))))

pub prefixed_expr : Step p.PrefixedExpr
unfolding built
prefixed_expr a h = λ f m c ks b u. (joined f ks, refl, e.disj (u a f c))

pub negated_expr : Step p.NegatedExpr
unfolding built
negated_expr a h = λ f m c js k t ks b u. (joined (joined f js) ks, refl, e.disj (u a (joined f js) (e.conj (t a f (e.neg c)))))

pub expr_open : Step p.ExprOpen
unfolding built
expr_open a h = λ y m r q b t. (q, refl, λ g x k. t g a x k (sole r))

pub expr_place : Step p.ExprPlace
unfolding built
expr_place a h = λ ss m c y b t. (with_steps ss (bare y), refl, λ g x k. t g x NoExpr ss (e.path k e.no_subs c))

pub expr_empty : Step p.ExprEmpty
unfolding built
expr_empty a h = λ y m r js k t ks b u. (
  bare (Called (js ++ ks)),
  refl,
  λ g h x q o. subst (λ f. e.Expr g b f) (sym (joined_append (Call x NoExpr) js ks))
      (e.disj (u g (joined (Call x NoExpr) js) (e.power (t g (Call x NoExpr) (e.call q o (sole r)))))),
)

pub expr_full : Step p.ExprFull
unfolding built
expr_full a h = λ es m c y k r ss j d z b t. (with_arguments es (with_steps ss (bare z)), refl, λ g h x q o. t g x es ss (e.path q (e.some_subs (e.subs o c (sole r))) d))

pub expr_stored : Step p.ExprStored
unfolding built
expr_stored a h = λ y b s. (Stored y.0 y.1, refl, λ g x es ss q. e.assignment q s.1 s.2)

pub expr_joined : Step p.ExprJoined
unfolding built
expr_joined a h = λ js m t ks b u. (
  Reached (js ++ ks),
  refl,
  λ g x es ss q. subst (λ f. e.Expr g b f) (sym (joined_append (At (Path x es ss)) js ks))
      (e.disj (u g (joined (At (Path x es ss)) js) (e.power (t g (At (Path x es ss)) (e.place q))))),
)

pub after_factor : Step p.AfterFactor
unfolding built
after_factor a h = λ js i t ks j s ls k r ms m c ns b o. (
  js ++ ks ++ ls ++ ms ++ ns,
  refl,
  λ g x u. subst (λ f. e.Disj g b f) (sym (joined_all x js ks ls ms ns))
      (o g (joined (joined (joined (joined x js) ks) ls) ms) (e.conj (c g (joined (joined (joined x js) ks) ls)
      (e.neg (e.rel (r g (joined (joined x js) ks) (s g (joined x js) (e.term (t g x (e.unary u)))))))))),
)

pub or_more : Step p.OrMore
unfolding built
or_more a h = λ y m r f k c js l t ks b u. (joint (tok y) (joined f js) ∷ ks, refl, λ s x q. u s (Pair (operator_of (sign_in (tok y))) x (joined f js)) (e.or q (taken.operator e.OrSign r) (t m f (e.neg c))))

pub or_done : Step p.OrDone
unfolding built
or_done a h = ([], refl, λ s x g. g)

pub and_more : Step p.AndMore
unfolding built
and_more a h = λ y m r f k c js b t. (joint (tok y) f ∷ js, refl, λ s x q. t s (Pair (operator_of (sign_in (tok y))) x f) (e.and q (taken.operator e.AndSign r) c))

pub and_done : Step p.AndDone
unfolding built
and_done a h = ([], refl, λ s x g. g)

pub negated_negation : Step p.NegatedNegation
unfolding built
negated_negation a h = λ f b c. (f, refl, c)

pub affirmed : Step p.Affirmed
unfolding built
affirmed a h = λ f m c js k t ks l s ls b r. (joined (joined (joined f js) ks) ls, refl, e.rel (r a (joined (joined f js) ks) (s a (joined f js) (e.term (t a f (e.unary c))))))

pub negated : Step p.Negated
unfolding built
negated a h = λ y m r f b c. (Not f, refl, e.not (sole r) c)

pub compared : Step p.Compared
unfolding built
compared a h = λ y m r f k c js l t ks b s. (joint (tok y) (joined (joined f js) ks) ∷ [], refl, λ g x q. e.compared q (taken.operator e.Relation r) (s m (joined f js) (e.term (t m f (e.unary c)))))

pub not_compared : Step p.NotCompared
unfolding built
not_compared a h = ([], refl, λ s x g. e.sum g)

pub sum_more : Step p.SumMore
unfolding built
sum_more a h = λ y m r f k c js l t ks b s. (joint (tok y) (joined f js) ∷ ks, refl, λ g x q. s g (Pair (operator_of (sign_in (tok y))) x (joined f js)) (e.added q (add_sign r) (t m f (e.unary c))))

pub sum_done : Step p.SumDone
unfolding built
sum_done a h = ([], refl, λ s x g. g)

pub times_more : Step p.TimesMore
unfolding built
times_more a h = λ y m r f k c js l t ks b s. (joint (tok y) (joined f js) ∷ ks, refl, λ g x q. s g (Pair (operator_of (sign_in (tok y))) x (joined f js)) (e.times q (star (exactly r)) (t m f c)))

pub over_more : Step p.OverMore
unfolding built
over_more a h = λ y m r f k c js l t ks b s. (joint (tok y) (joined f js) ∷ ks, refl, λ g x q. s g (Pair (operator_of (sign_in (tok y))) x (joined f js)) (e.times q (slash (exactly r)) (t m f c)))

pub term_done : Step p.TermDone
unfolding built
term_done a h = ([], refl, λ s x g. g)

pub raised : Step p.Raised
unfolding built
raised a h = λ y m r f k c js b t. (joint (tok y) (joined f js) ∷ [], refl, λ g x q. power_with q (exactly r) (t m f c))

pub not_raised : Step p.NotRaised
unfolding built
not_raised a h = ([], refl, λ s x g. e.operand g)

pub prefixed_unary : Step p.PrefixedUnary
unfolding built
prefixed_unary a h = λ f b c. (f, refl, c)

pub prime_unary : Step p.PrimeUnary
unfolding built
prime_unary a h = λ f m c js b t. (joined f js, refl, e.power (t a f c))

pub signed : Step p.Signed
unfolding built
signed a h = λ y m r f b c. (signed_expr (tok y) f, refl, signed_unary r c)

pub stepped_place : Step p.Stepped
unfolding built
stepped_place a h = λ y m r s b c. (stepped (tok y) s, refl, e.step (a_step (either r) c))

pub atom_prime : Step p.AtomPrime
unfolding built
atom_prime a h = λ f b c. (f, refl, c)

pub named_prime : Step p.NamedPrime
unfolding built
named_prime a h = λ y m r q b t. (completed (name_in (tok y)) q, refl, t a (name_in (tok y)) r.1)

pub number_atom : Step p.NumberAtom
unfolding built
number_atom a h = λ y b r. (Int (integer_in (tok y)), refl, e.number (taken.number r))

pub truth_atom : Step p.TruthAtom
unfolding built
truth_atom a h = λ y b r. (Truth (is_true (tok y)), refl, a_truth (choice r))

pub group_atom : Step p.GroupAtom
unfolding built
group_atom a h = λ y m r f k c z b s. (Group f, refl, e.group (sole r) c (sole s))

pub prime_open : Step p.PrimeOpen
unfolding built
prime_open a h = λ y m r q b t. (q, refl, λ g x k. t g a x k (sole r))

pub prime_place : Step p.PrimePlace
unfolding built
prime_place a h = λ ss b c. (with_steps ss (bare (Reached [])), refl, λ g x q. e.place (e.path q e.no_subs c))

pub prime_empty : Step p.PrimeEmpty
unfolding built
prime_empty a h = λ y b r. (bare (Called []), refl, λ g h x q o. e.call q o (sole r))

pub prime_full : Step p.PrimeFull
unfolding built
prime_full a h = λ es m c y k r ss b d. (with_arguments es (with_steps ss (bare (Reached []))), refl, λ g h x q o. e.place (e.path q (e.some_subs (e.subs o c (sole r))) d))

pub arguments : Step p.Arguments
unfolding built
arguments a h = λ f m c es b t. (AndExpr f es, refl, t a f c)

pub more_expr : Step p.MoreExpr
unfolding built
more_expr a h = λ y m r f k c es b t. (AndExpr f es, refl, λ g x q. e.comma q (sole r) (t m f c))

pub no_more_expr : Step p.NoMoreExpr
unfolding built
no_more_expr a h = (NoExpr, refl, λ g x q. e.last q)

pub place : Step p.Place
unfolding built
place a h = λ y m r es k s ss b c. (Path (name_in (tok y)) es ss, refl, e.path r.1 s c)

pub some_subscripts : Step p.SomeSubscripts
unfolding built
some_subscripts a h = λ y m r es k c z b s. (es, refl, e.some_subs (e.subs (sole r) c (sole s)))

pub no_subscripts : Step p.NoSubscripts
unfolding built
no_subscripts a h = (NoExpr, refl, e.no_subs)

pub member_step : Step p.MemberStep
unfolding built
member_step a h = λ y m r z k x es j s ss b c. (Member (name_in (tok z)) es ss, refl, e.member (sole r) x.1 s c)

pub overlay_step : Step p.OverlayStep
unfolding built
overlay_step a h = λ y m r z k x ss b c. (Overlay (name_in (tok z)) ss, refl, e.overlay (sole r) x.1 c)

pub no_steps : Step p.NoSteps
unfolding built
no_steps a h = (NoStep, refl, e.no_step)

pub plain_storing : Step p.PlainStoring
unfolding built
plain_storing a h = λ y m r f b c. ((None, f), refl, (m, here (sole r), c))

pub operator_storing : Step p.OperatorStoring
unfolding built
operator_storing a h = λ y m r f b c. ((Some (operator_of (sign_in (tok y))), f), refl, (m, taken.operator AnAssign r, c))

pub plus_sign : Step p.PlusSign
unfolding built
plus_sign a h = λ y b r. (y, refl, first (exactly r))

pub minus_sign : Step p.MinusSign
unfolding built
minus_sign a h = λ y b r. (y, refl, second (exactly r))

pub long_name : Step p.LongName
unfolding built
long_name a h = λ y b r. (y, refl, (place_of r, taken.long_name r))

pub letter_name : Step p.LetterName
unfolding built
letter_name a h = λ y b r. (y, refl, (r.0, r.1.name))

pub plain_letter : Step p.PlainLetter
unfolding built
plain_letter a h = λ y b r. (y, refl, (place_of r, taken.plain_letter r))

pub width_letter : Step p.WidthLetter
unfolding built
width_letter a h = λ y b r. (y, refl, (place_of r, taken.width_letter r))

pub char_letter : Step p.CharLetter
unfolding built
char_letter a h = λ y b r. (y, refl, (place_of r, taken.char_letter r))

pub skip_letter : Step p.SkipLetter
unfolding built
skip_letter a h = λ y b r. (y, refl, (place_of r, taken.skip_letter r))
