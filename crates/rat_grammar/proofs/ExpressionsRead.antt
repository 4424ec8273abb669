-- What the table reads as an expression is one of the published grammar.
use Rattle.std.proofs.Common.{List, [], ◌∷◌, None, Some, refl}
use Rattle.ground.specs.declared.token.Token.{Token}
use Rattle.ground.specs.declared.token.TokenKind.TheVariants as kinds
use Rattle.ground.specs.declared.token.Sign.TheVariants as signs
use Rattle.f66_tree.specs.declared.expression.Operator.{Operator}
use Rattle.f66_tree.specs.declared.expression.Operator.TheVariants as operators
use Rattle.f66_tree.specs.Syntax.{Formula, Int, Pair, Group, Not}
use Rattle.rat_parse_table.specs.declared.table.Production.TheVariants as p
use Rattle.rat_parse_values.specs.Values.{tok, formula, located}
use Rattle.rat_parse_values.specs.Parts.{name_in, integer_in, sign_in, operator_of, as_formula}
use Rattle.rat_parse_values.specs.Phrases.{joined, signed, truth as truth_value}
use Rattle.rat_grammar.specs.Tokens.{Tokens, one}
use Rattle.rat_grammar.specs.Expressions as e
use Rattle.rat_grammar.proofs.Readings.{Joins}
use Rattle.rat_grammar.proofs.Steps.{Step}
use Rattle.rat_grammar.proofs.Taken as taken
use Rattle.rat_grammar.proofs.Standing.{place_of, Exact, exact, exactly, sole, Either, first, second, either}

abbrev More : Token → Formula → List (Operator × Formula) → List (Operator × Formula)
More y g js = (operator_of (sign_in (tok y)), g) ∷ js

or_tail : {a m k b : Tokens} {y : Token} {g : Formula} (js : List (Operator × Formula)) → Exact (kinds.Sign signs.Or) a m y → e.Conj m k g → Joins e.Expr e.Expr k b js →
    Joins e.Expr e.Expr a b (More y g js)
or_tail {g = g} js exact c t s x h = t s (Pair operators.Or x g) (e.or h one c)

and_tail : {a m k b : Tokens} {y : Token} {g : Formula} (js : List (Operator × Formula)) → Exact (kinds.Sign signs.And) a m y → e.Neg m k g → Joins e.Conj e.Conj k b js →
    Joins e.Conj e.Conj a b (More y g js)
and_tail {g = g} js exact c t s x h = t s (Pair operators.And x g) (e.and h one c)

sum_tail : {a m k b : Tokens} {y : Token} {g : Formula} (js : List (Operator × Formula)) → Either (kinds.Sign signs.Plus) (kinds.Sign signs.Minus) a m y → e.Term m k g →
    Joins e.Sum e.Sum k b js → Joins e.Sum e.Sum a b (More y g js)
sum_tail {g = g} js (first exact) c t s x h = t s (Pair operators.Add x g) (e.added h one c)
sum_tail {g = g} js (second exact) c t s x h = t s (Pair operators.Sub x g) (e.subtracted h one c)

times_tail : {a m k b : Tokens} {y : Token} {g : Formula} (js : List (Operator × Formula)) → Exact (kinds.Sign signs.Star) a m y → e.Factor m k g → Joins e.Term e.Term k b js →
    Joins e.Term e.Term a b (More y g js)
times_tail {g = g} js exact c t s x h = t s (Pair operators.Mul x g) (e.times h one c)

over_tail : {a m k b : Tokens} {y : Token} {g : Formula} (js : List (Operator × Formula)) → Exact (kinds.Sign signs.Slash) a m y → e.Factor m k g → Joins e.Term e.Term k b js →
    Joins e.Term e.Term a b (More y g js)
over_tail {g = g} js exact c t s x h = t s (Pair operators.Div x g) (e.over h one c)

power_tail : {a m b : Tokens} {y : Token} {g : Formula} → Exact (kinds.Sign signs.Power) a m y → e.Prime m b g → Joins e.Prime e.Factor a b (More y g [])
power_tail exact c s x h = e.power h one c

signed_sum : {a m b : Tokens} {y : Token} {g : Formula} → Either (kinds.Sign signs.Plus) (kinds.Sign signs.Minus) a m y → e.Term m b g → e.Sum a b (signed (tok y) g)
signed_sum (first exact) c = e.plus one c
signed_sum (second exact) c = e.minus one c

a_truth : {a b : Tokens} {y : Token} → Either (kinds.Sign signs.True) (kinds.Sign signs.False) a b y → e.Prime a b (as_formula (truth_value (tok y)))
a_truth (first exact) = e.truth one
a_truth (second exact) = e.falsehood one

pub expr : Step p.Expr
expr a h = λ f m c js b t. (joined f js, refl, t a f (e.conj c))

pub or_more : Step p.OrMore
or_more a h = λ y m r g k c js b t. (More y g js, refl, or_tail js (exactly r) c t)

pub or_done : Step p.OrDone
or_done a h = ([], refl, λ s x g. g)

pub conjunction : Step p.Conjunction
conjunction a h = λ f m c js b t. (joined f js, refl, t a f (e.neg c))

pub and_more : Step p.AndMore
and_more a h = λ y m r g k c js b t. (More y g js, refl, and_tail js (exactly r) c t)

pub and_done : Step p.AndDone
and_done a h = ([], refl, λ s x g. g)

pub negated : Step p.Negated
negated a h = λ y m r f b c. (Not f, refl, e.not (sole r) c)

pub affirmed : Step p.Affirmed
affirmed a h = λ f b c. (f, refl, e.rel c)

pub relational : Step p.Relational
relational a h = λ f m c js b t. (joined f js, refl, t a f c)

pub compared : Step p.Compared
compared a h = λ y m r g b c. (More y g [], refl, λ s x k. e.compared k (taken.relation r) c)

pub not_compared : Step p.NotCompared
not_compared a h = ([], refl, λ s x g. e.sum g)

pub sum : Step p.Sum
sum a h = λ f m c js b t. (joined f js, refl, t a f c)

pub signed_term : Step p.SignedTerm
signed_term a h = λ y m r g b c. (signed (tok y) g, refl, signed_sum (either r) c)

pub unsigned_term : Step p.UnsignedTerm
unsigned_term a h = λ f b c. (f, refl, e.term c)

pub sum_more : Step p.SumMore
sum_more a h = λ y m r g k c js b t. (More y g js, refl, sum_tail js (either r) c t)

pub sum_done : Step p.SumDone
sum_done a h = ([], refl, λ s x g. g)

pub term : Step p.Term
term a h = λ f m c js b t. (joined f js, refl, t a f (e.factor c))

pub times_more : Step p.TimesMore
times_more a h = λ y m r g k c js b t. (More y g js, refl, times_tail js (exactly r) c t)

pub over_more : Step p.OverMore
over_more a h = λ y m r g k c js b t. (More y g js, refl, over_tail js (exactly r) c t)

pub term_done : Step p.TermDone
term_done a h = ([], refl, λ s x g. g)

pub factor : Step p.Factor
factor a h = λ v m c js b t. (joined (as_formula v) js, refl, t a (as_formula v) c)

pub raised : Step p.Raised
raised a h = λ y m r v b c. (More y (as_formula v) [], refl, power_tail (exactly r) c)

pub not_raised : Step p.NotRaised
not_raised a h = ([], refl, λ s x g. e.prime g)

pub number_prime : Step p.NumberPrime
number_prime a h = λ y b r. (formula (Int (integer_in (tok y))), refl, e.number r.1)

pub truth_prime : Step p.TruthPrime
truth_prime a h = λ y b r. (truth_value (tok y), refl, a_truth (either r))

pub ref_prime : Step p.RefPrime
ref_prime a h = λ y b r. (located y.0 y.1, refl, e.ref r.1)

pub group_prime : Step p.GroupPrime
group_prime a h = λ y m r f k c z b s. (formula (Group f), refl, e.group (sole r) c (sole s))

pub ref : Step p.Ref
ref a h = λ y m r o b q. ((y.place, _), refl, (r.0, q a (name_in (tok y)) r.1))

pub some_arguments : Step p.SomeArguments
some_arguments a h = λ fs b q. (Some fs, refl, λ g x k. e.applied k q.2 q.3 q.4)

pub no_arguments : Step p.NoArguments
no_arguments a h = (None, refl, λ g x k. e.name k)

pub subscripts : Step p.Subscripts
subscripts a h = λ y m r f k c fs j t z b s. (f ∷ fs, refl, (m, j, sole r, t m f c, sole s))

pub more_expr : Step p.MoreExpr
more_expr a h = λ y m r f k c fs b t. (f ∷ fs, refl, λ g x q. e.comma q (sole r) (t m f c))

pub no_more_expr : Step p.NoMoreExpr
no_more_expr a h = ([], refl, λ g x q. e.last q)

pub plain_name : Step p.PlainName
plain_name a h = λ y b r. (y, refl, (place_of r, taken.plain_name r))

pub field_name : Step p.FieldName
field_name a h = λ y b r. (y, refl, (place_of r, taken.field_name r))

pub octal_number : Step p.OctalNumber
octal_number a h = λ y b r. (y, refl, (place_of r, taken.octal_number r))

pub decimal_number : Step p.DecimalNumber
decimal_number a h = λ y b r. (y, refl, (place_of r, taken.decimal_number r))

pub condition : Step p.Condition
condition a h = λ y m r f k c z b s. (f, refl, e.condition (sole r) c (sole s))
