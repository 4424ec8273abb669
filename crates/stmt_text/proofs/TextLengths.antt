-- The text of an expression before others is its own text and then these, and a number has at most 64 digits.
use Rattle.std.proofs.Common.{◌≡◌, ℕ, zero, suc, ◌+◌, ◌/◌, ◌%◌, ◌≤◌, Bool, true, false, List, [], ◌∷◌, ◌++◌, length, refl, sym, ap, ◌∙◌, append_assoc, arith}
use Rattle.std.specs.Prelude.{◌==◌, codes, decimal, unsigned_abs, if◌then◌else◌}
use Rattle.std.specs.Fmt.{digits, digits_onto, digit_glyph}
use Rattle.std.proofs.lemmas.List.{length-append}
use Rattle.f66_tree.specs.Syntax.{Formula, Int, Truth, Letter, Ref, Item, Group, Plus, Minus, Not, Pair, Formulas, NoFormula, AndFormula}
use Rattle.stmt_text.specs.Characters.{opening, closing, plus, comma, minus}
use Rattle.stmt_text.specs.Texts.{operator_text, truth_text, formula_text, formulas_text, more_formulas_text}

-- ---- expressions ----

mutual
  pub formula_text-append : (e : Formula) (m k : List ℕ) → formula_text e (m ++ k) ≡ formula_text e m ++ k
  formula_text-append (Int z) m k = sym (append_assoc (decimal (unsigned_abs z)) m k)
  formula_text-append (Truth b) m k = sym (append_assoc (truth_text b) m k)
  formula_text-append (Letter c) m k = refl
  formula_text-append (Ref x) m k = sym (append_assoc x m k)
  formula_text-append (Item x es) m k = ap (λ t. x ++ opening ∷ t) (formulas_text-append es (closing ∷ m) k) ∙ sym (append_assoc x (opening ∷ formulas_text es (closing ∷ m)) k)
  formula_text-append (Group a) m k = ap (λ t. opening ∷ t) (formula_text-append a (closing ∷ m) k)
  formula_text-append (Plus a) m k = ap (λ t. plus ∷ t) (formula_text-append a m k)
  formula_text-append (Minus a) m k = ap (λ t. minus ∷ t) (formula_text-append a m k)
  formula_text-append (Not a) m k = ap (λ t. codes ".NOT." ++ t) (formula_text-append a m k)
  formula_text-append (Pair op a b) m k =
      ap (λ t. formula_text a (operator_text op ++ t)) (formula_text-append b m k)
      ∙ ap (formula_text a) (sym (append_assoc (operator_text op) (formula_text b m) k))
      ∙ formula_text-append a (operator_text op ++ formula_text b m) k

  formulas_text-append : (es : Formulas) (m k : List ℕ) → formulas_text es (m ++ k) ≡ formulas_text es m ++ k
  formulas_text-append NoFormula m k = refl
  formulas_text-append (AndFormula e es) m k = ap (formula_text e) (more_formulas_text-append es m k) ∙ formula_text-append e (more_formulas_text es m) k

  more_formulas_text-append : (es : Formulas) (m k : List ℕ) → more_formulas_text es (m ++ k) ≡ more_formulas_text es m ++ k
  more_formulas_text-append NoFormula m k = refl
  more_formulas_text-append (AndFormula e es) m k =
      ap (λ t. comma ∷ formula_text e t) (more_formulas_text-append es m k) ∙ ap (λ t. comma ∷ t) (formula_text-append e (more_formulas_text es m) k)

pub length-formula_text : (e : Formula) (k : List ℕ) → length (formula_text e k) ≡ length (formula_text e []) + length k
length-formula_text e k = ap length (formula_text-append e [] k) ∙ length-append (formula_text e []) k

-- ---- numbers ----

length-digits_onto : (k base : ℕ) (upper : Bool) (n : ℕ) (text : List ℕ) → length (digits_onto k base upper n text) ≤ k + length text
length-digits_onto zero base upper n text = omega arith
length-digits_onto (suc k) base upper n text = by (n / base == 0) (length-digits_onto k base upper (n / base) (digit_glyph upper (n % base) ∷ text))
  where
    front : List ℕ
    front = digit_glyph upper (n % base) ∷ text

    by : (v : Bool) → length (digits_onto k base upper (n / base) front) ≤ k + suc (length text) → length (if v then front else digits_onto k base upper (n / base) front) ≤ suc k + length text
    by true h = omega arith
    by false h = omega (arith, h)

length-digits : (base : ℕ) (upper : Bool) (n : ℕ) → length (digits base upper n) ≤ 64
unfolding digits
length-digits base upper n = omega (arith, length-digits_onto 64 base upper n [])

-- a number before others
pub length-decimal : (n : ℕ) (k : List ℕ) → length (decimal n ++ k) ≤ 64 + length k
length-decimal n k = omega (arith, length-append (decimal n) k, length-digits 10 false n)
