-- The most characters that the operands of plain statements have.
use Rattle.std.proofs.Common.{◌≡◌, ◌≤◌, ◌+◌, ◌*◌, ℕ, suc, true, false, List, ◌∷◌, ◌++◌, length, refl, sym, ◌∙◌, subst, arith, inl, inr}
use Rattle.std.specs.Prelude.{⊤}
use Rattle.ground.specs.declared.value.Kind.{Kind}
use Rattle.ground.specs.declared.value.Kind.TheVariants.{Integer, Logical}
use Rattle.f66_tree.specs.declared.expression.Operator.{Operator}
use Rattle.f66_tree.specs.declared.expression.Operator.TheVariants.{Add, Sub, Mul, Div, Power, Lt, Le, Eq, Ne, Ge, Gt, And, Or}
use Rattle.f66_tree.specs.Evaluation.{Intrinsic, Iabs, Mod, Isign, Idim, Max0, Min0}
use Rattle.f66_tree.specs.Syntax.{Text, Formula, Int, Truth, Ref, Item, Group, Plus, Minus, Not, Pair, Formulas, NoFormula, AndFormula, Par, Constant, Named, One, Entries, NoEntry, AndEntry}
use Rattle.f66_tree.specs.Units.{Context}
use Rattle.f66_names.specs.Kinds.{operand}
use Rattle.f66_names.specs.Uses.{many}
use Rattle.stmt_text.specs.Characters.{opening, closing}
use Rattle.stmt_text.specs.Texts.{operator_text, formula_text, formulas_text, more_formulas_text, arguments_text, par_text, entries_text, more_entries_text}
use Rattle.plain_units.specs.Plain.{name_of, IsSigned, IsLeaf, AreLeaves, IsPassed, ArePassed, IsValue, IsTest, IsUnit, AreListed}
use Rattle.plain_units.specs.Known.{AreKnown}
use Rattle.plain_decks.specs.Few.{width_of, width_of_all, width_of_value, entries_of, AreNames}
use Rattle.plain_decks.proofs.Numbers.{name_length, constant_length}

-- ---- words ----

operator_length : (op : Operator) (t : List ℕ) → length (operator_text op ++ t) ≤ 5 + length t
operator_length Add t = omega arith
operator_length Sub t = omega arith
operator_length Mul t = omega arith
operator_length Div t = omega arith
operator_length Power t = omega arith
operator_length Lt t = omega arith
operator_length Le t = omega arith
operator_length Eq t = omega arith
operator_length Ne t = omega arith
operator_length Ge t = omega arith
operator_length Gt t = omega arith
operator_length And t = omega arith
operator_length Or t = omega arith

intrinsic_length : (g : Intrinsic) (t : List ℕ) → length (name_of g ++ t) ≤ 6 + length t
intrinsic_length Iabs t = omega arith
intrinsic_length Mod t = omega arith
intrinsic_length Isign t = omega arith
intrinsic_length Idim t = omega arith
intrinsic_length Max0 t = omega arith
intrinsic_length Min0 t = omega arith

signed_length : (e : Formula) (t : List ℕ) → IsSigned e → length (formula_text e t) ≤ 11 + length t
signed_length (Int z) t h = omega (arith, constant_length z t h)
signed_length (Minus (Int z)) t h = omega (arith, constant_length z t h)
signed_length e t h = absurd h

-- ---- lists ----

-- an expression has no more characters than its width, a comma with them
abbrev IsNarrow : Formula → Type 0
IsNarrow e = (t : List ℕ) → suc (length (formula_text e t)) ≤ width_of e + length t

abbrev AreNarrow : Formulas → Type 0
AreNarrow NoFormula = ⊤
AreNarrow (AndFormula e es) = IsNarrow e × AreNarrow es

more_length : (es : Formulas) (t : List ℕ) → AreNarrow es → length (more_formulas_text es t) ≤ width_of_all es + length t
more_length NoFormula t h = omega arith
more_length (AndFormula e es) t h = omega (arith, h.0 (more_formulas_text es t), more_length es t h.1)

list_length : (es : Formulas) (t : List ℕ) → AreNarrow es → length (formulas_text es t) ≤ width_of_all es + length t
list_length NoFormula t h = omega arith
list_length (AndFormula e es) t h = omega (arith, h.0 (more_formulas_text es t), more_length es t h.1)

arguments_length : (es : Formulas) (t : List ℕ) → AreNarrow es → length (arguments_text es t) ≤ 2 + width_of_all es + length t
arguments_length NoFormula t h = omega arith
arguments_length (AndFormula e es) t h = omega (arith, list_length (AndFormula e es) (closing ∷ t) h)

-- ---- how many operands are few ----

width_most : (e : Formula) → width_of e ≤ 13
width_most (Ref x) = omega arith
width_most (Int z) = omega arith
width_most e = omega arith

pub widths_most : (es : Formulas) → width_of_all es ≤ 13 * many es
widths_most NoFormula = omega arith
widths_most (AndFormula e es) = omega (arith, width_most e, widths_most es)

pub few_operands : (es : Formulas) → many es ≤ 100 → width_of_all es ≤ 1300
few_operands es h = omega (arith, widths_most es, h)

names_most : (es : Formulas) → AreNames es → width_of_all es ≤ 7 * many es
names_most NoFormula h = omega arith
names_most (AndFormula (Ref x) es) h = omega (arith, names_most es h)
names_most (AndFormula e es) h = absurd h

pub few_variables : (es : Formulas) → AreNames es → many es ≤ 180 → width_of_all es ≤ 1300
few_variables es h few = omega (arith, names_most es h, few)

module _ (V F : Text → Kind → Type 0) (S : Text → Type 0) where
  leaf_most : (e : Formula) (k : Kind) → IsLeaf V F S e k → k ≡ Integer → width_of e ≤ 11
  leaf_most (Ref x) k h i = omega arith
  leaf_most (Int z) k h i = omega arith
  leaf_most (Truth b) k h i = absurd (let e : Integer ≡ Logical = sym i ∙ h in cc)
  leaf_most e k h i = absurd h

  leaves_most : (es : Formulas) → AreLeaves V F S es Integer → width_of_all es ≤ 11 * many es
  leaves_most NoFormula h = omega arith
  leaves_most (AndFormula e es) h = omega (arith, leaf_most e Integer h.0 refl, leaves_most es h.1)

  pub few_leaves : (es : Formulas) → AreLeaves V F S es Integer → many es ≤ 118 → width_of_all es ≤ 1300
  few_leaves es h few = omega (arith, leaves_most es h, few)

-- ---- expressions ----

module _ (V F : Text → Kind → Type 0) (S : Text → Type 0) (c : Context) (known : AreKnown V F S c) where
  variable_length : (x : Text) (k : Kind) (t : List ℕ) → V x k → length (x ++ t) ≤ 6 + length t
  variable_length x k t v = name_length x t (known.variables x k v).0.text.short

  leaf_length : (e : Formula) (k : Kind) (t : List ℕ) → IsLeaf V F S e k → length (formula_text e t) ≤ 10 + length t
  leaf_length (Int z) k t h = constant_length z t h.1
  leaf_length (Truth true) k t h = omega arith
  leaf_length (Truth false) k t h = omega arith
  leaf_length (Ref x) k t h = omega (arith, variable_length x k t h)
  leaf_length e k t h = absurd h

  leaf_narrow : (e : Formula) (k : Kind) → IsLeaf V F S e k → IsNarrow e
  leaf_narrow (Int z) k h t = omega (arith, constant_length z t h.1)
  leaf_narrow (Truth b) k h t = omega (arith, leaf_length (Truth b) k t h)
  leaf_narrow (Ref x) k h t = omega (arith, variable_length x k t h)
  leaf_narrow e k h t = absurd h

  leaves_narrow : (es : Formulas) (k : Kind) → AreLeaves V F S es k → AreNarrow es
  leaves_narrow NoFormula k h = tt
  leaves_narrow (AndFormula e es) k h = (leaf_narrow e k h.0, leaves_narrow es k h.1)

  passed_narrow : (e : Formula) → IsPassed V F S e → IsNarrow e
  passed_narrow (Ref x) h t = omega (arith, variable_length x h.0 t h.1)
  passed_narrow (Int z) h t = omega (arith, constant_length z t h)
  passed_narrow (Group e) h t = omega (arith, leaf_length e h.0 (closing ∷ t) h.1)
  passed_narrow e h t = absurd h

  all_narrow : (es : Formulas) → ArePassed V F S es → AreNarrow es
  all_narrow NoFormula h = tt
  all_narrow (AndFormula e es) h = (passed_narrow e h.0, all_narrow es h.1)

  pub call_length : (es : Formulas) (t : List ℕ) → ArePassed V F S es → length (arguments_text es t) ≤ 2 + width_of_all es + length t
  call_length es t h = arguments_length es t (all_narrow es h)

  pub value_length : (e : Formula) (k : Kind) (t : List ℕ) → IsValue V F S e k → length (formula_text e t) ≤ width_of_value e + length t
  value_length (Plus a) k t h = omega (arith, leaf_length a Integer t h.1)
  value_length (Minus a) k t h = omega (arith, leaf_length a Integer t h.1)
  value_length (Not a) k t h = omega (arith, leaf_length a Logical t h.1)
  value_length (Pair op a b) k t h =
      omega (arith, leaf_length a (operand op) (operator_text op ++ formula_text b t) h.1, operator_length op (formula_text b t), leaf_length b (operand op) t h.2)
  value_length (Item f es) k t h = elim h [
    | inl g ↦ omega (arith, subst (λ y. length (y ++ opening ∷ formulas_text es (closing ∷ t)) ≤ 6 + length (opening ∷ formulas_text es (closing ∷ t))) (sym g.name) (intrinsic_length g.intrinsic (opening ∷ formulas_text es (closing ∷ t))), list_length es (closing ∷ t) (leaves_narrow es Integer g.leaves))
    | inr g ↦ omega (arith, name_length f (opening ∷ formulas_text es (closing ∷ t)) (known.functions f k g.gives).0.text.short, list_length es (closing ∷ t) (all_narrow es g.passed))
  ]
  value_length (Int z) k t h = omega (arith, leaf_length (Int z) k t h)
  value_length (Truth b) k t h = omega (arith, leaf_length (Truth b) k t h)
  value_length (Ref y) k t h = omega (arith, leaf_length (Ref y) k t h)
  value_length e k t h = absurd h

  pub test_length : (e : Formula) (t : List ℕ) → IsTest V F S e → length (formula_text e t) ≤ 26 + length t
  test_length (Truth true) t h = omega arith
  test_length (Truth false) t h = omega arith
  test_length (Ref x) t h = omega (arith, variable_length x Logical t h)
  test_length (Not a) t h = omega (arith, leaf_length a Logical t h)
  test_length (Pair op a b) t h =
      omega (arith, leaf_length a Integer (operator_text op ++ formula_text b t) h.1, operator_length op (formula_text b t), signed_length b t h.2)
  test_length e t h = absurd h

  -- ---- READ and WRITE ----

  pub unit_length : (u : Par) (t : List ℕ) → IsUnit V F S u → length (par_text u t) ≤ 10 + length t
  unit_length (Constant z) t h = constant_length z t h
  unit_length (Named x) t h = omega (arith, variable_length x Integer t h)

  more_listed : (es : Entries) (t : List ℕ) → AreListed V F S es → length (more_entries_text es t) ≤ 7 * entries_of es + length t
  more_listed NoEntry t h = omega arith
  more_listed (AndEntry (One (Ref x)) es) t h = omega (arith, variable_length x h.0.0 (more_entries_text es t) h.0.1, more_listed es t h.1)
  more_listed (AndEntry e es) t h = absurd h

  pub listed_length : (es : Entries) (t : List ℕ) → AreListed V F S es → length (entries_text es t) ≤ 7 * entries_of es + length t
  listed_length NoEntry t h = omega arith
  listed_length (AndEntry (One (Ref x)) es) t h = omega (arith, variable_length x h.0.0 (more_entries_text es t) h.0.1, more_listed es t h.1)
  listed_length (AndEntry e es) t h = absurd h
