-- The tokens that spell an expression, before those that come next.
use Rattle.std.specs.Prelude.{unsigned_abs, List, [], ◌∷◌}
use Rattle.f66_tree.specs.declared.expression.Operator.TheVariants.{Add, Sub}
use Rattle.f66_tree.specs.Syntax.{Formula, Int, Truth, Letter, Ref, Item, Group, Plus, Minus, Not, Pair, Formulas, NoFormula, AndFormula}
use Rattle.stmt_reader.specs.declared.token.Token.{Token}
use Rattle.stmt_reader.specs.declared.token.Token.TheVariants as t

abbrev mutual
  pub spell : Formula → List Token → List Token
  spell (Int z) k = t.Number (unsigned_abs z) ∷ k
  spell (Truth b) k = t.Truth b ∷ k
  spell (Letter c) k = t.Chars (c ∷ []) ∷ k
  spell (Ref x) k = t.Word x ∷ k
  spell (Item x es) k = t.Word x ∷ t.Open ∷ spell_list es (t.Close ∷ k)
  spell (Group a) k = t.Open ∷ spell a (t.Close ∷ k)
  spell (Plus a) k = t.Joint Add ∷ spell a k
  spell (Minus a) k = t.Joint Sub ∷ spell a k
  spell (Not a) k = t.Not ∷ spell a k
  spell (Pair op a b) k = spell a (t.Joint op ∷ spell b k)

  -- expressions with commas between them, and with a comma before each
  pub spell_list : Formulas → List Token → List Token
  spell_list NoFormula k = k
  spell_list (AndFormula e es) k = spell e (spell_more es k)

  pub spell_more : Formulas → List Token → List Token
  spell_more NoFormula k = k
  spell_more (AndFormula e es) k = t.Comma ∷ spell e (spell_more es k)

-- a list by the spelling of its members, with a token before each; a list of one or more begins with a member
abbrev pub spell_others : {A : Type 0} → (A → List Token → List Token) → Token → List A → List Token → List Token
spell_others spelling token [] k = k
spell_others spelling token (a ∷ all) k = token ∷ spelling a (spell_others spelling token all k)

abbrev pub spell_members : {A : Type 0} → (A → List Token → List Token) → Token → A → List A → List Token → List Token
spell_members spelling token a all k = spelling a (spell_others spelling token all k)
