-- Statements that fit their cards with room for what the compiler puts around their conditions, values and DO words.
use Rattle.std.proofs.Common.{◌≡◌, ℕ, ◌≤◌, List, [], ◌∷◌, ◌++◌, length, refl, ap, arith}
use Rattle.std.specs.Prelude.{codes, ⊤}
use Rattle.std.specs.Fmt.{digits}
use Rattle.std.specs.List.{AllByRecursion}
use Rattle.std.proofs.lemmas.List.{length-append}
use Rattle.f66_tree.specs.Syntax.{Text, Formula, Ref, Par, Act, Assign, Goto, Sign, When, Loop, Continue, Return, Line}
use Rattle.stmt_text.specs.Characters.{closing, equals, opening, blank}
use Rattle.stmt_text.specs.Texts.{formula_text, loop_text, statement_text}
use Rattle.stmt_text.specs.Fitting.{FitsCards}
use Rattle.stmt_text.proofs.TextLengths.{length-formula_text, length-decimal}
use Rattle.rat_lower.specs.Code.{case_test}
use Rattle.rat_lower.proofs.Soundness.Kept.{AllSay, Keeps, KeepsValues}
use Rattle.rat_lower.proofs.Soundness.Redeclared.{declaration}

-- a condition, a value and the words of a DO are short enough for what is put around them
abbrev pub LeavesRoom : Act → Type 0
LeavesRoom (When e Continue) = length (formula_text e []) ≤ 1200
LeavesRoom (Sign e l m n) = length (formula_text e []) ≤ 1200
LeavesRoom (Loop l x a b c) = length (loop_text x a b c []) ≤ 1200
LeavesRoom _ = ⊤

abbrev pub Fits : Act → Type 0
Fits a = (length (statement_text a) ≤ 1320) × LeavesRoom a

-- ---- what the source says ----

pub condition_fits : (e : Formula) → length (formula_text e []) ≤ 1200 → Fits (When e Continue)
condition_fits e h = (omega (arith, length-formula_text e (closing ∷ statement_text Continue), h), h)

pub value_fits : (e : Formula) → length (formula_text e []) ≤ 1200 → Fits (Sign e 0 0 0)
unfolding digits
value_fits e h =
    let text : statement_text (Sign e 0 0 0) ≡ codes "IF(" ++ formula_text e (codes ")0,0,0") = refl in
    (omega (arith, ap length text, length-formula_text e (codes ")0,0,0"), h), h)

-- a value that is put into a name of at most six characters
pub store_fits : (x : Text) (e : Formula) → length x ≤ 6 → length (formula_text e []) ≤ 1200 → Fits (Assign (Ref x) e)
store_fits x e short h = (omega (arith, length-append x (equals ∷ formula_text e []), short, h), tt)

pub return_fits : Fits Return
return_fits = (omega arith, tt)

pub loop_fits : (l : ℕ) (x : Text) (a b c : Par) → length (loop_text x a b c []) ≤ 1200 → Fits (Loop l x a b c)
loop_fits l x a b c h = (omega (arith, length-decimal l (blank ∷ loop_text x a b c []), h), h)

-- ---- what is made of it ----

jump_length : (l : ℕ) → length (statement_text (Goto l)) ≤ 70
jump_length l = omega (arith, length-decimal l [])

pub fits_keep : Keeps Fits
fits_keep = record {
  passes = (omega arith, tt);
  goes = λ l. (omega (arith, jump_length l), tt);
  stops = (omega arith, tt);
  denied = λ e l h. (omega (arith, length-formula_text e (closing ∷ closing ∷ statement_text (Goto l)), h.1, jump_length l), tt);
  counts = λ l x a b c h. loop_fits l x a b c h.1;
}

-- where the spare name has six characters
module _ (spare : Text) (six : length spare ≡ 6) where
  pub fits_values : KeepsValues Fits spare
  fits_values = record {
    compared = λ e l h. (compared e l h.1, tt);
    stored = λ e h. (omega (arith, length-append spare (equals ∷ formula_text e []), six, h.1), tt);
  }
    where
      compared : (e : Formula) (l : ℕ) → length (formula_text e []) ≤ 1200 → length (statement_text (When (case_test spare e) (Goto l))) ≤ 1320
      compared e l h =
          omega (arith, length-append spare (codes ".EQ." ++ opening ∷ formula_text e (closing ∷ closing ∷ statement_text (Goto l))), six, length-formula_text e (closing ∷ closing ∷ statement_text (Goto l)), h, jump_length l)

  pub declaration_fits : length (statement_text (declaration spare)) ≤ 1320
  declaration_fits = omega (arith, length-append spare [], six)

-- ---- the statements of a unit ----

pub fit_cards : (code : List Line) → AllSay Fits code → AllByRecursion FitsCards code
fit_cards [] h = tt
fit_cards (s ∷ rest) h = (h.0.0, fit_cards rest h.1)
