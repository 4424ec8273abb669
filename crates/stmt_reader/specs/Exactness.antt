-- What the exactness of reading speaks of.
use Rattle.std.specs.Prelude.{◌≡◌, ℕ, Bool, true, List, [], ◌∷◌, Some}
use Rattle.std.specs.List.{AllByRecursion}
use Rattle.f66_tree.specs.Syntax.{Text, Formula, Letter, NoFormula, Declared, Act, Assign, Invoke, Computed, Sign}
use Rattle.f66_tree.specs.Views.{chained}
use Rattle.stmt_reader.specs.declared.token.Token.{Token}
use Rattle.stmt_reader.specs.declared.token.Token.TheVariants as t
use Rattle.stmt_reader.specs.Levels.{is_name, stands}
use Rattle.stmt_reader.specs.Spelling.{spell, spell_members}
use Rattle.stmt_reader.specs.Statements.{place_if}
use Rattle.stmt_reader.specs.Spelled.{declared_formula, spell_label}

-- a token that a text may have: each word is a name
abbrev pub IsProper : Token → Type 0
IsProper (t.Word x) = is_name x ≡ true
IsProper _ = Unit {0}

-- an assignment of the grammar, which the tokens spell
pub record SpellsAssignment (tokens : List Token) (a : Act) : Type 0 where
  pub place : Formula
  pub value : Formula
  pub is : a ≡ Assign place value
  pub is_place : place_if place ≡ Some place
  pub place_stands : stands 0 place ≡ true
  pub value_stands : stands 0 value ≡ true
  pub spelled : tokens ≡ spell place (t.Equals ∷ spell value [])

-- what a list spells
pub record SpellsList {A : Type 0} (Good : A → Type 0) (spelling : A → List Token → List Token) (token : Token) (tokens : List Token) (list : List A) : Type 0 where
  pub first : A
  pub others : List A
  pub is : list ≡ first ∷ others
  pub first_good : Good first
  pub others_good : AllByRecursion Good others
  pub spelled : tokens ≡ spell_members spelling token first others []

-- a name with numbers or names in parentheses, or alone
abbrev pub IsDeclared : Declared → Type 0
IsDeclared d = stands 0 (declared_formula d) ≡ true

-- an argument of a CALL
abbrev pub is_argument : Formula → Bool
is_argument (Letter c) = true
is_argument e = stands 0 e

abbrev pub IsArgument : Formula → Type 0
IsArgument e = is_argument e ≡ true

-- what stands behind CALL
pub data SpellsCall : List Token → Act → Type 0 where
  alone : (x : Text) → SpellsCall (t.Word x ∷ []) (Invoke x NoFormula)
  with_arguments : (x : Text) (e : Formula) (es : List Formula) → IsArgument e → AllByRecursion IsArgument es → SpellsCall (t.Word x ∷ t.Open ∷ spell_members spell t.Comma e es (t.Close ∷ [])) (Invoke x (chained (e ∷ es)))

-- what stands behind a computed GO TO
pub data SpellsChoice : List Token → Act → Type 0 where
  labels : (l : ℕ) (ls : List ℕ) (x : Text) → SpellsChoice (t.Open ∷ spell_members spell_label t.Comma l ls (t.Close ∷ t.Comma ∷ t.Word x ∷ [])) (Computed (l ∷ ls) x)

-- the condition in parentheses and what follows it
pub record SpellsCondition (tokens : List Token) (c : Formula × List Token) : Type 0 where
  pub stands : stands 0 c.0 ≡ true
  pub spelled : tokens ≡ t.Open ∷ spell c.0 (t.Close ∷ c.1)

-- what stands behind an arithmetic IF
pub data SpellsSign : List Token → Act → Type 0 where
  signs : (e : Formula) (l m n : ℕ) → stands 0 e ≡ true → SpellsSign (t.Open ∷ spell e (t.Close ∷ spell_members spell_label t.Comma l (m ∷ n ∷ []) [])) (Sign e l m n)
