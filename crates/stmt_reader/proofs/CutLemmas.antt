-- Tokens of expressions are cut behind the expression.
use Rattle.std.proofs.Common.{◌≡◌, ℕ, zero, suc, ◌+◌, ◌-◌, ◌≤◌, Bool, false, List, [], ◌∷◌, length, get_or, take, drop, Option, Some, None, refl, sym, ap, ◌∙◌, arith, add-one}
use Rattle.std.proofs.lemmas.List.{take_all}
use Rattle.f66_tree.specs.declared.expression.Operator.{Operator}
use Rattle.f66_tree.specs.declared.expression.Operator.TheVariants.{Add, Sub}
use Rattle.f66_tree.specs.Syntax.{Text, Formula, Int, Truth, Letter, Ref, Item, Group, Plus, Minus, Not, Pair, Formulas, NoFormula, AndFormula}
use Rattle.stmt_reader.specs.declared.token.Token.{Token}
use Rattle.stmt_reader.specs.declared.token.Token.TheVariants as t
use Rattle.stmt_reader.specs.Spelling.{spell, spell_list, spell_more}
use Rattle.stmt_reader.specs.Acts.{halves_at}
use Rattle.stmt_reader.specs.Cutting.{depth, is_equals, is_comma, is_close, Halves, fronted, cuts, cut}

-- a cut is made at none of the tokens that expressions have in no parentheses
pub record IsOutside (p : Token → Bool) : Type 0 where
  pub word : (x : Text) → p (t.Word x) ≡ false
  pub number : (n : ℕ) → p (t.Number n) ≡ false
  pub chars : (x : Text) → p (t.Chars x) ≡ false
  pub truth : (b : Bool) → p (t.Truth b) ≡ false
  pub denial : p t.Not ≡ false
  pub joint : (op : Operator) → p (t.Joint op) ≡ false
  pub opening : p t.Open ≡ false

pub equals_outside : IsOutside is_equals
equals_outside = record { word = λ x. refl; number = λ n. refl; chars = λ x. refl; truth = λ b. refl; denial = refl; joint = λ op. refl; opening = refl }

pub close_outside : IsOutside is_close
close_outside = record { word = λ x. refl; number = λ n. refl; chars = λ x. refl; truth = λ b. refl; denial = refl; joint = λ op. refl; opening = refl }

pub comma_outside : IsOutside is_comma
comma_outside = record { word = λ x. refl; number = λ n. refl; chars = λ x. refl; truth = λ b. refl; denial = refl; joint = λ op. refl; opening = refl }

pub fronted_twice : (f g : List Token → List Token) (r : Option Halves) → fronted f (fronted g r) ≡ fronted (λ k. f (g k)) r
fronted_twice f g None = refl
fronted_twice f g (Some h) = refl

never : (p : Token → Bool) (d : ℕ) (token : Token) → p token ≡ false → cuts p d token ≡ false
never p zero token is = is
never p (suc d) token is = refl

-- a token at which no cut is made
passes : (p : Token → Bool) (d : ℕ) (token : Token) (k : List Token) → cuts p d token ≡ false → cut p d (token ∷ k) ≡ fronted (λ front. token ∷ front) (cut p (depth d token) k)
passes p d token k is = rw is refl

-- a token before what is cut further on
pub token_then : (p : Token → Bool) (d : ℕ) (token : Token) (k : List Token) (f : List Token → List Token) (r : Option Halves) → cuts p d token ≡ false → cut p (depth d token) k ≡ fronted f r
    → cut p d (token ∷ k) ≡ fronted (λ x. token ∷ f x) r
token_then p d token k f r is further = passes p d token k is ∙ ap (fronted (λ front. token ∷ front)) further ∙ fronted_twice (λ front. token ∷ front) f r

mutual
  pub cut_spelled : (p : Token → Bool) → IsOutside p → (e : Formula) (d : ℕ) (k : List Token) → cut p d (spell e k) ≡ fronted (spell e) (cut p d k)
  cut_spelled p o (Int z) d k = passes p d (t.Number _) k (never p d (t.Number _) (o.number _))
  cut_spelled p o (Truth b) d k = passes p d (t.Truth b) k (never p d (t.Truth b) (o.truth b))
  cut_spelled p o (Letter c) d k = passes p d (t.Chars (c ∷ [])) k (never p d (t.Chars (c ∷ [])) (o.chars (c ∷ [])))
  cut_spelled p o (Ref x) d k = passes p d (t.Word x) k (never p d (t.Word x) (o.word x))
  cut_spelled p o (Item x es) d k =
      token_then p d (t.Word x) (t.Open ∷ spell_list es (t.Close ∷ k)) (λ y. t.Open ∷ spell_list es (t.Close ∷ y)) (cut p d k) (never p d (t.Word x) (o.word x))
      (token_then p d t.Open (spell_list es (t.Close ∷ k)) (λ y. spell_list es (t.Close ∷ y)) (cut p d k) (never p d t.Open o.opening)
      (cut_list p o es d (t.Close ∷ k) ∙ ap (fronted (spell_list es)) (passes p (suc d) t.Close k refl) ∙ fronted_twice (spell_list es) (λ y. t.Close ∷ y) (cut p d k)))
  cut_spelled p o (Group a) d k =
      token_then p d t.Open (spell a (t.Close ∷ k)) (λ y. spell a (t.Close ∷ y)) (cut p d k) (never p d t.Open o.opening)
      (cut_spelled p o a (suc d) (t.Close ∷ k) ∙ ap (fronted (spell a)) (passes p (suc d) t.Close k refl) ∙ fronted_twice (spell a) (λ y. t.Close ∷ y) (cut p d k))
  cut_spelled p o (Plus a) d k = token_then p d (t.Joint Add) (spell a k) (spell a) (cut p d k) (never p d (t.Joint Add) (o.joint Add)) (cut_spelled p o a d k)
  cut_spelled p o (Minus a) d k = token_then p d (t.Joint Sub) (spell a k) (spell a) (cut p d k) (never p d (t.Joint Sub) (o.joint Sub)) (cut_spelled p o a d k)
  cut_spelled p o (Not a) d k = token_then p d t.Not (spell a k) (spell a) (cut p d k) (never p d t.Not o.denial) (cut_spelled p o a d k)
  cut_spelled p o (Pair op a b) d k =
      cut_spelled p o a d (t.Joint op ∷ spell b k)
      ∙ ap (fronted (spell a)) (token_then p d (t.Joint op) (spell b k) (spell b) (cut p d k) (never p d (t.Joint op) (o.joint op)) (cut_spelled p o b d k))
      ∙ fronted_twice (spell a) (λ y. t.Joint op ∷ spell b y) (cut p d k)

  -- arguments stand in parentheses
  cut_list : (p : Token → Bool) → IsOutside p → (es : Formulas) (d : ℕ) (k : List Token) → cut p (suc d) (spell_list es k) ≡ fronted (spell_list es) (cut p (suc d) k)
  cut_list p o NoFormula d k = all_of (cut p (suc d) k)
    where
      all_of : (r : Option Halves) → r ≡ fronted (λ y. y) r
      all_of None = refl
      all_of (Some h) = refl
  cut_list p o (AndFormula e es) d k = cut_spelled p o e (suc d) (spell_more es k) ∙ ap (fronted (spell e)) (cut_more p o es d k) ∙ fronted_twice (spell e) (spell_more es) (cut p (suc d) k)

  cut_more : (p : Token → Bool) → IsOutside p → (es : Formulas) (d : ℕ) (k : List Token) → cut p (suc d) (spell_more es k) ≡ fronted (spell_more es) (cut p (suc d) k)
  cut_more p o NoFormula d k = all_of (cut p (suc d) k)
    where
      all_of : (r : Option Halves) → r ≡ fronted (λ y. y) r
      all_of None = refl
      all_of (Some h) = refl
  cut_more p o (AndFormula e es) d k =
      token_then p (suc d) t.Comma (spell e (spell_more es k)) (λ y. spell e (spell_more es y)) (cut p (suc d) k) refl
      (cut_spelled p o e (suc d) (spell_more es k) ∙ ap (fronted (spell e)) (cut_more p o es d k) ∙ fronted_twice (spell e) (spell_more es) (cut p (suc d) k))

-- a cut further on, as the code has it
pub cut_on : (p : Token → Bool) (d : ℕ) (tokens : List Token) (i : ℕ) (token : Token) → token ≡ get_or tokens 0 token → 1 ≤ length tokens → cuts p d token ≡ false
    → halves_at (take (length tokens - 1) (drop 1 tokens)) (Some i) ≡ cut p (depth d token) (take (length tokens - 1) (drop 1 tokens)) → halves_at tokens (Some (i + 1)) ≡ cut p d tokens
cut_on p d [] i token is some passes_by further = absurd (omega (arith, some))
cut_on p d (x ∷ xs) i token is some passes_by further =
    let all : take (length (x ∷ xs) - 1) xs ≡ xs = take_all (length (x ∷ xs) - 1) xs (omega arith) in
    let at : halves_at xs (Some i) ≡ cut p (depth d token) xs = ap (λ (l : List Token). halves_at l (Some i)) (sym all) ∙ further ∙ ap (cut p (depth d token)) all in
    ap (λ (k : ℕ). halves_at (x ∷ xs) (Some k)) (add-one i) ∙ ap (λ (k : ℕ). Some (x ∷ take i xs, drop k (x ∷ xs))) (add-one (suc i))
    ∙ ap (λ (k : ℕ). Some (x ∷ take i xs, drop k xs)) (sym (add-one i))
    ∙ ap (λ (y : Token). fronted (λ front. y ∷ front) (halves_at xs (Some i))) (sym is)
    ∙ ap (fronted (λ front. token ∷ front)) at
    ∙ sym (passes p d token xs passes_by)
    ∙ ap (λ (y : Token). cut p d (y ∷ xs)) is
