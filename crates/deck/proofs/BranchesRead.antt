-- The texts of GO TO and DO are read as these statements.
use Rattle.std.proofs.Common.{◌≡◌, ℕ, ◌+◌, ◌/◌, ◌%◌, ◌≤◌, ◌<◌, pos, negsuc, Bool, true, false, cond, List, [], ◌∷◌, ◌++◌, Option, Some, None, refl, sym, ap, ◌∙◌, arith, codes}
use Rattle.std.specs.Prelude.{nat_le, ◌==◌, ◌||◌, decimal}
use Rattle.std.specs.List.{list_all}
use Rattle.std.proofs.lemmas.Bool.{le-leb, lt-leb, leb-true, eqb-true, ne_eqb, and_parts, and_from}
use Rattle.std.proofs.lemmas.Fmt.{decimal_by_steps}
use Rattle.f66_tree.specs.Syntax.{Text, Ref, Par, Constant, Named, Act, Assign, Goto, Loop}
use Rattle.stmt_text.specs.Texts.{statement_text, par_text, is_one, step_text, loop_text}
use Rattle.stmt_reader.specs.declared.token.Token.{Token}
use Rattle.stmt_reader.specs.declared.token.Token.TheVariants as t
use Rattle.stmt_reader.specs.declared.lexer.Part.TheVariants.{Clear, InNumber}
use Rattle.stmt_reader.specs.Levels.{is_capital, is_digit, is_name}
use Rattle.stmt_reader.specs.Lexing.{Lexed, behind, at_clear, at, lexed, tokens_of}
use Rattle.stmt_reader.specs.Machine.{State, final}
use Rattle.stmt_reader.specs.Statements.{or_else, then_if, after_word, assignment_of, par_if, loop_of, goto_of, computed_of, statement_of}
use Rattle.stmt_reader.proofs.Sound.{stays_stuck}
use Rattle.deck.specs.Readable.{is_readable_par}
use Rattle.deck.proofs.LexingLemmas.{is_alnum, word_goes_on, IsBreak, name_begins, word_ends, number_begins, number_ends}
use Rattle.deck.proofs.KeywordLemmas.{keyword_taken}

-- ---- digits are letters or digits ----

DigitsAll : ℕ → List ℕ → Type 0
DigitsAll n ds = list_all is_alnum ds ≡ true

digit_alnum : (d : ℕ) → d < 10 → is_alnum (48 + d) ≡ true
digit_alnum d lt =
    let not_low : nat_le 65 (48 + d) ≡ false = lt-leb 65 (48 + d) (omega (arith, lt)) in
    let low : nat_le 48 (48 + d) ≡ true = le-leb 48 (48 + d) (omega arith) in
    let high : nat_le (48 + d) 57 ≡ true = le-leb (48 + d) 57 (omega (arith, lt)) in
    rw (not_low, low, high) refl

digits_one : (n : ℕ) → n < 10 → DigitsAll n ((48 + n) ∷ [])
unfolding DigitsAll
digits_one n lt = and_from (is_alnum (48 + n)) true (digit_alnum n lt) refl

all_append : (xs ys : List ℕ) → list_all is_alnum xs ≡ true → list_all is_alnum ys ≡ true → list_all is_alnum (xs ++ ys) ≡ true
all_append [] ys all more = more
all_append (x ∷ xs) ys all more =
    let p = and_parts (is_alnum x) (list_all is_alnum xs) all in
    and_from (is_alnum x) (list_all is_alnum (xs ++ ys)) p.0 (all_append xs ys p.1 more)

digits_more : (n : ℕ) (ds : List ℕ) → 10 ≤ n → DigitsAll (n / 10) ds → DigitsAll n (ds ++ (48 + n % 10) ∷ [])
unfolding DigitsAll
digits_more n ds ten all = all_append ds ((48 + n % 10) ∷ []) all (and_from (is_alnum (48 + n % 10)) true (digit_alnum (n % 10) (omega arith)) refl)

pub digits_all : (n : ℕ) → n ≤ 2147483647 → list_all is_alnum (decimal n) ≡ true
unfolding DigitsAll
digits_all n small = decimal_by_steps DigitsAll digits_one digits_more n (omega (arith, small))

-- ---- GO TO ----

goto_of_tokens : (w : List ℕ) (l : ℕ) → after_word (codes "GOTO") (t.Word (71 ∷ w) ∷ []) ≡ Some (t.Number l ∷ []) → statement_of (t.Word (71 ∷ w) ∷ []) ≡ Some (Goto l)
goto_of_tokens w l h =
    ap (λ (o : Option (List Token)). or_else (or_else (then_if o (λ rest. or_else (goto_of rest) (computed_of rest))) None) None) h

pub goto_lexed : (l : ℕ) → l ≤ 2147483647 → tokens_of (statement_text (Goto l)) ≡ t.Word (71 ∷ 79 ∷ 84 ∷ 79 ∷ decimal l) ∷ []
goto_lexed l small = word_goes_on (codes "GOTO") (decimal l) [] (digits_all l small)

-- what stands behind the word
pub goto_behind : (l : ℕ) → l ≤ 2147483647 → after_word (codes "GOTO") (t.Word (71 ∷ 79 ∷ 84 ∷ 79 ∷ decimal l) ∷ []) ≡ Some (t.Number l ∷ [])
goto_behind l small =
    ap (after_word (codes "GOTO")) (sym (goto_lexed l small)) ∙ keyword_taken (codes "GOTO") (decimal l ++ []) ∙ ap (λ (x : List Token). Some x) (number_begins false l [] small)

pub goto_read : (l : ℕ) → l ≤ 2147483647 → statement_of (tokens_of (statement_text (Goto l))) ≡ Some (Goto l)
goto_read l small = ap statement_of (goto_lexed l small) ∙ goto_of_tokens (79 ∷ 84 ∷ 79 ∷ decimal l) l (goto_behind l small)

-- ---- DO ----

abbrev pub par_token : Par → Token
par_token (Constant (pos n)) = t.Number n
par_token (Constant (negsuc n)) = t.Strange
par_token (Named x) = t.Word x

abbrev step_tokens : Par → List Token
step_tokens c = cond (is_one c) [] (t.Comma ∷ par_token c ∷ [])

pub par_lexed : (p : Par) (h : Bool) (k : List ℕ) → is_readable_par p ≡ true → IsBreak k → lexed (Clear h) (par_text p k) ≡ par_token p ∷ lexed (Clear false) k
par_lexed (Constant (pos n)) h k is b = number_begins h n k (leb-true n 2147483647 is) ∙ number_ends h n k b
par_lexed (Constant (negsuc n)) h k is b = absurd cc
par_lexed (Named x) h k is b = name_begins h x k is ∙ word_ends x k b

pub step_lexed_by : (c : Par) (b : Bool) → is_readable_par c ≡ true → lexed (Clear false) (cond b [] (44 ∷ par_text c [])) ≡ cond b [] (t.Comma ∷ par_token c ∷ [])
step_lexed_by c true is = refl
step_lexed_by c false is = ap (λ (x : List Token). t.Comma ∷ x) (par_lexed c true [] is tt)

step_breaks_by : (c : Par) (b : Bool) → IsBreak (cond b [] (44 ∷ par_text c []))
step_breaks_by c true = tt
step_breaks_by c false = (refl, refl, refl, refl)

pub par_is : (p : Par) → is_readable_par p ≡ true → par_if (par_token p) ≡ Some p
par_is (Constant (pos n)) is = refl
par_is (Constant (negsuc n)) is = absurd cc
par_is (Named x) is = refl

pub one_is : (c : Par) → is_one c ≡ true → c ≡ Constant (pos 1)
one_is (Constant (pos n)) is = ap (λ (m : ℕ). Constant (pos m)) (eqb-true n 1 is)
one_is (Constant (negsuc n)) is = absurd cc
one_is (Named x) is = absurd cc

loop_taken : (l : ℕ) (x : Text) (a b c : Par) (one : Bool) → is_one c ≡ one → is_readable_par a ≡ true → is_readable_par b ≡ true → is_readable_par c ≡ true
    → loop_of (t.Number l ∷ t.Word x ∷ t.Equals ∷ par_token a ∷ t.Comma ∷ par_token b ∷ cond one [] (t.Comma ∷ par_token c ∷ [])) ≡ Some (Loop l x a b c)
loop_taken l x a b c true is ra rb rc =
    let first = par_is a ra in let second = par_is b rb in
    rw (first, second) (ap (λ (s : Par). Some (Loop l x a b s)) (sym (one_is c is)))
loop_taken l x a b c false is ra rb rc =
    let first = par_is a ra in let second = par_is b rb in let third = par_is c rc in
    rw (first, second, third) refl

-- a DO is no assignment: a comma stands in no parentheses
no_assignment : (w : List ℕ) (p : Par) (ks : List Token) → is_readable_par p ≡ true → assignment_of (t.Word w ∷ t.Equals ∷ par_token p ∷ t.Comma ∷ ks) ≡ None
no_assignment w (Constant (pos n)) ks is = ap (λ (s : State). then_if (final s) (λ e. Some (Assign (Ref w) e))) (stays_stuck ks)
no_assignment w (Constant (negsuc n)) ks is = absurd cc
no_assignment w (Named x) ks is = ap (λ (s : State). then_if (final s) (λ e. Some (Assign (Ref w) e))) (stays_stuck ks)

loop_first : (tokens : List Token) (rest : List Token) (a : Act) → assignment_of tokens ≡ None → after_word (codes "DO") tokens ≡ Some rest → loop_of rest ≡ Some a → statement_of tokens ≡ Some a
loop_first tokens rest a none behind_it is = rw (none, behind_it, is) refl

-- digits before a name
number_then_name : (l : ℕ) (x k : List ℕ) → is_name x ≡ true → lexed (InNumber false l) (x ++ k) ≡ t.Number l ∷ lexed (Clear false) (x ++ k)
number_then_name l [] k is = absurd cc
number_then_name l (c ∷ cs) k is =
    let capital = (and_parts (is_capital c) (list_all is_alnum cs) is).0 in
    let low : 65 ≤ c = leb-true 65 c (and_parts (nat_le 65 c) (nat_le c 90) capital).0 in
    let no_digit : nat_le c 57 ≡ false = lt-leb c 57 (omega (arith, low)) in
    let some : nat_le 48 c ≡ true = le-leb 48 c (omega (arith, low)) in
    let no_blank : (c == 32) ≡ false = ne_eqb c 32 (λ e. omega (arith, e, low)) in
    let here : at (InNumber false l) c ≡ behind (t.Number l) false c = rw (no_blank, some, no_digit) refl in
    let there : at (Clear false) c ≡ at_clear false c = rw no_blank refl in
    ap (λ (y : Lexed). y.tokens ++ lexed y.part (cs ++ k)) here ∙ sym (ap (λ (y : Lexed). t.Number l ∷ (y.tokens ++ lexed y.part (cs ++ k))) there)

pub name_alnum : (x : Text) → is_name x ≡ true → list_all is_alnum x ≡ true
name_alnum [] is = absurd cc
name_alnum (c ∷ cs) is =
    let p = and_parts (is_capital c) (list_all is_alnum cs) is in
    let here : is_alnum c ≡ true = ap (λ (b : Bool). b || is_digit c) p.0 in
    and_from (is_alnum c) (list_all is_alnum cs) here p.1

-- the tokens of a DO, the last of which are those of its parameters
abbrev loop_tokens : Par → Par → Par → List Token
loop_tokens a b c = par_token a ∷ t.Comma ∷ par_token b ∷ step_tokens c

parameters_lexed : (a b c : Par) → is_readable_par a ≡ true → is_readable_par b ≡ true → is_readable_par c ≡ true → lexed (Clear false) (par_text a (44 ∷ par_text b (step_text c []))) ≡ loop_tokens a b c
parameters_lexed a b c ra rb rc =
    par_lexed a false (44 ∷ par_text b (step_text c [])) ra (refl, refl, refl, refl)
    ∙ ap (λ (k : List Token). par_token a ∷ t.Comma ∷ k) (par_lexed b true (step_text c []) rb (step_breaks_by c (is_one c)) ∙ ap (λ (k : List Token). par_token b ∷ k) (step_lexed_by c (is_one c) rc))

pub loop_lexed : (l : ℕ) (x : Text) (a b c : Par) → l ≤ 2147483647 → is_name x ≡ true → is_readable_par a ≡ true → is_readable_par b ≡ true → is_readable_par c ≡ true
    → tokens_of (statement_text (Loop l x a b c)) ≡ t.Word (68 ∷ 79 ∷ (decimal l ++ x)) ∷ t.Equals ∷ par_token a ∷ t.Comma ∷ par_token b ∷ cond (is_one c) [] (t.Comma ∷ par_token c ∷ [])
loop_lexed l x a b c small name ra rb rc =
    word_goes_on (codes "DO") (decimal l) (32 ∷ loop_text x a b c []) (digits_all l small)
    ∙ word_goes_on (codes "DO" ++ decimal l) x (61 ∷ par_text a (44 ∷ par_text b (step_text c []))) (name_alnum x name)
    ∙ word_ends ((codes "DO" ++ decimal l) ++ x) (61 ∷ par_text a (44 ∷ par_text b (step_text c []))) (refl, refl, refl, refl)
    ∙ ap (λ (k : List Token). t.Word ((codes "DO" ++ decimal l) ++ x) ∷ t.Equals ∷ k) (parameters_lexed a b c ra rb rc)

pub loop_read : (l : ℕ) (x : Text) (a b c : Par) → l ≤ 2147483647 → is_name x ≡ true → is_readable_par a ≡ true → is_readable_par b ≡ true → is_readable_par c ≡ true
    → statement_of (tokens_of (statement_text (Loop l x a b c))) ≡ Some (Loop l x a b c)
loop_read l x a b c small name ra rb rc =
    let behind_it : lexed (Clear false) (decimal l ++ 32 ∷ loop_text x a b c []) ≡ t.Number l ∷ t.Word x ∷ t.Equals ∷ loop_tokens a b c =
    number_begins false l (32 ∷ loop_text x a b c []) small
    ∙ number_then_name l x (61 ∷ par_text a (44 ∷ par_text b (step_text c []))) name
    ∙ ap (λ (k : List Token). t.Number l ∷ k) (name_begins false x (61 ∷ par_text a (44 ∷ par_text b (step_text c []))) name ∙ word_ends x (61 ∷ par_text a (44 ∷ par_text b (step_text c []))) (refl, refl, refl, refl))
    ∙ ap (λ (k : List Token). t.Number l ∷ t.Word x ∷ t.Equals ∷ k) (parameters_lexed a b c ra rb rc) in
    ap statement_of (loop_lexed l x a b c small name ra rb rc)
    ∙ loop_first (t.Word (68 ∷ 79 ∷ (decimal l ++ x)) ∷ t.Equals ∷ loop_tokens a b c) (t.Number l ∷ t.Word x ∷ t.Equals ∷ loop_tokens a b c) (Loop l x a b c)
    (no_assignment (68 ∷ 79 ∷ (decimal l ++ x)) a (par_token b ∷ step_tokens c) ra)
    (ap (after_word (codes "DO")) (sym (loop_lexed l x a b c small name ra rb rc)) ∙ keyword_taken (codes "DO") (decimal l ++ 32 ∷ loop_text x a b c []) ∙ ap (λ (k : List Token). Some k) behind_it)
    (loop_taken l x a b c (is_one c) refl ra rb rc)
