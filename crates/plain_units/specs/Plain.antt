-- Plain statements of FORTRAN over names that are known: those that lowering by temporaries makes. Their expressions have one operator or
-- one reference each, over constants and variables. V x k says that x is a variable of the type k, F x k that it is a function that
-- gives one, and S x that it is a subroutine.
use Rattle.std.specs.Prelude.{◌≡◌, ◌⊎◌, ◌<◌, true, None, ⊤}
use Rattle.ground.specs.declared.value.Kind.{Kind}
use Rattle.ground.specs.declared.value.Kind.TheVariants.{Integer, Logical}
use Rattle.f66_tree.specs.declared.expression.Operator.TheVariants.{Eq}
use Rattle.f66_tree.specs.Syntax.{Text, Formula, Int, Truth, Ref, Item, Group, Plus, Minus, Not, Pair, Formulas, NoFormula, AndFormula, Par, Constant, Named, One, Entries, NoEntry, AndEntry, Act, Assign, Goto, When, Invoke, Continue, Stop, Return, Read, Write, Format}
use Rattle.f66_tree.specs.Built.{is_constant}
use Rattle.f66_tree.specs.Evaluation.{Intrinsic, Iabs, Mod, Isign, Idim, Max0, Min0}
use Rattle.f66_names.specs.Kinds.{operand, outcome}
use Rattle.f66_names.specs.Shapes.{are_printed}
use Rattle.f66_names.specs.Sorts.{arity, takes_many}
use Rattle.f66_names.specs.StoreRules.{is_sound_format}
use Rattle.f66_names.specs.Uses.{many}
use Rattle.std.specs.Prelude.{codes}

abbrev pub name_of : Intrinsic → Text
name_of Iabs = codes "IABS"
name_of Mod = codes "MOD"
name_of Isign = codes "ISIGN"
name_of Idim = codes "IDIM"
name_of Max0 = codes "MAX0"
name_of Min0 = codes "MIN0"

-- a constant, with a sign or without
abbrev pub IsSigned : Formula → Type 0
IsSigned (Int z) = is_constant z ≡ true
IsSigned (Minus (Int z)) = is_constant z ≡ true
IsSigned e = ⊥

module _ (V F : Text → Kind → Type 0) (S : Text → Type 0) where
  -- a constant or a variable of a type
  abbrev pub IsLeaf : Formula → Kind → Type 0
  IsLeaf (Int z) k = (k ≡ Integer) × (is_constant z ≡ true)
  IsLeaf (Truth b) k = k ≡ Logical
  IsLeaf (Ref x) k = V x k
  IsLeaf e k = ⊥

  abbrev pub AreLeaves : Formulas → Kind → Type 0
  AreLeaves NoFormula k = ⊤
  AreLeaves (AndFormula e es) k = IsLeaf e k × AreLeaves es k

  -- an actual: a variable, a constant, or one of these in parentheses
  abbrev pub IsPassed : Formula → Type 0
  IsPassed (Ref x) = (k : Kind) × V x k
  IsPassed (Int z) = is_constant z ≡ true
  IsPassed (Group e) = (k : Kind) × IsLeaf e k
  IsPassed e = ⊥

  abbrev pub ArePassed : Formulas → Type 0
  ArePassed NoFormula = ⊤
  ArePassed (AndFormula e es) = IsPassed e × ArePassed es

  -- a reference to an intrinsic function, or to another one
  pub record IsIntrinsic (x : Text) (es : Formulas) (k : Kind) : Type 0 where
    pub intrinsic : Intrinsic
    pub name : x ≡ name_of intrinsic
    pub gives : k ≡ Integer
    pub takes : takes_many (arity intrinsic) (many es) ≡ true
    pub leaves : AreLeaves es Integer

  pub record IsFunction (x : Text) (es : Formulas) (k : Kind) : Type 0 where
    pub gives : F x k
    pub some : 0 < many es
    pub passed : ArePassed es

  -- a value of a type, by one operator or reference at most
  abbrev pub IsValue : Formula → Kind → Type 0
  IsValue (Plus a) k = (k ≡ Integer) × IsLeaf a Integer
  IsValue (Minus a) k = (k ≡ Integer) × IsLeaf a Integer
  IsValue (Not a) k = (k ≡ Logical) × IsLeaf a Logical
  IsValue (Pair op a b) k = (k ≡ outcome op) × IsLeaf a (operand op) × IsLeaf b (operand op)
  IsValue (Item x es) k = IsIntrinsic x es k ⊎ IsFunction x es k
  IsValue (Int z) k = IsLeaf (Int z) k
  IsValue (Truth b) k = IsLeaf (Truth b) k
  IsValue (Ref x) k = IsLeaf (Ref x) k
  IsValue e k = ⊥

  -- a condition: a truth value, its opposite, or whether an integer is a constant
  abbrev pub IsTest : Formula → Type 0
  IsTest (Truth b) = ⊤
  IsTest (Ref x) = V x Logical
  IsTest (Not a) = IsLeaf a Logical
  IsTest (Pair op a b) = (op ≡ Eq) × IsLeaf a Integer × IsSigned b
  IsTest e = ⊥

  abbrev pub IsUnit : Par → Type 0
  IsUnit (Constant z) = is_constant z ≡ true
  IsUnit (Named x) = V x Integer

  abbrev pub AreListed : Entries → Type 0
  AreListed NoEntry = ⊤
  AreListed (AndEntry (One (Ref x)) es) = ((k : Kind) × V x k) × AreListed es
  AreListed (AndEntry e es) = ⊥

  -- a plain statement that is executed, or a FORMAT
  abbrev pub IsPlain : Act → Type 0
  IsPlain (Assign (Ref x) e) = (k : Kind) × V x k × IsValue e k
  IsPlain (When e (Goto l)) = IsTest e
  IsPlain (Goto l) = ⊤
  IsPlain Continue = ⊤
  IsPlain Return = ⊤
  IsPlain (Stop n) = n ≡ None
  IsPlain (Invoke x es) = S x × ArePassed es
  IsPlain (Read u l es) = IsUnit u × AreListed es
  IsPlain (Write u l es) = IsUnit u × AreListed es
  IsPlain (Format fs) = (are_printed fs ≡ true) × (is_sound_format fs ≡ true)
  IsPlain a = ⊥
