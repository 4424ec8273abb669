-- Types and declarations.
use Rattle.std.specs.Prelude.{ℕ, ℤ, codes, true, false, None, Some, List, [], ◌∷◌}
use Rattle.ground.specs.declared.token.Sign.TheVariants as signs
use Rattle.efl_tree.specs.declared.declaration.EflBound.{EflBound}
use Rattle.efl_tree.specs.declared.declaration.EflConst.{EflConst}
use Rattle.efl_tree.specs.declared.declaration.EflConst.TheVariants as constants
use Rattle.efl_tree.specs.Syntax.{Text, EflPlace, EflVar, EflType, Integer, Logical, Real, Complex, Named, EflGroups, NoGroup, AndGroup, EflPreset, EflDeclKind, Implicit, Initial, Variables, Area, Structure, EflDecl}
use Rattle.efl_tree.specs.Syntax as efl
use Rattle.rat_grammar.specs.Tokens.{Tokens, Sign, Word, place_at, Listed, Lines, Stop}
use Rattle.efl_grammar.specs.Tokens.{Name, Letter, Natural, Whole, StopIfAny, ShapeStop}
use Rattle.efl_grammar.specs.Expressions.{Place}

-- bound = [ whole ":" ] ( whole | "*" )
pub data Bound : Tokens → Tokens → EflBound → Type 0 where
  whole : {a b : Tokens} {z : ℤ} → Whole a b z → Bound a b (record { low = None; high = Some z })
  star : {a b : Tokens} → Sign signs.Star a b → Bound a b (record { low = None; high = None })
  wholes : {a b c d : Tokens} {y z : ℤ} → Whole a b y → Sign signs.Colon b c → Whole c d z → Bound a d (record { low = Some y; high = Some z })
  whole_star : {a b c d : Tokens} {y : ℤ} → Whole a b y → Sign signs.Colon b c → Sign signs.Star c d → Bound a d (record { low = Some y; high = None })

-- var = name [ "(" bound { "," bound } ")" ]
pub data Var : Tokens → Tokens → EflVar → Type 0 where
  name : {a b : Tokens} {x : Text} → Name a b x → Var a b (record { name = x; bounds = [] })
  bounded : {a b c d e : Tokens} {x : Text} {bs : List EflBound} → Name a b x → Sign signs.Open b c → Listed Bound c d bs → Sign signs.Close d e →
      Var a e (record { name = x; bounds = bs })

-- vars = var { "," var }
abbrev pub Vars : Tokens → Tokens → List EflVar → Type 0
Vars = Listed Var

-- "integer" | "logical" | [ "long" ] ( "real" | "complex" )
pub data BaseType : Tokens → Tokens → EflType → Type 0 where
  integer : {a b : Tokens} → Word (codes "INTEGER") a b → BaseType a b Integer
  logical : {a b : Tokens} → Word (codes "LOGICAL") a b → BaseType a b Logical
  real : {a b : Tokens} → Word (codes "REAL") a b → BaseType a b (Real false)
  complex : {a b : Tokens} → Word (codes "COMPLEX") a b → BaseType a b (Complex false)
  long_real : {a b c : Tokens} → Word (codes "LONG") a b → Word (codes "REAL") b c → BaseType a c (Real true)
  long_complex : {a b c : Tokens} → Word (codes "LONG") a b → Word (codes "COMPLEX") b c → BaseType a c (Complex true)

-- [ "struct" ] name
pub data NamedType : Tokens → Tokens → EflType → Type 0 where
  name : {a b : Tokens} {x : Text} → Name a b x → NamedType a b (Named x)
  struct : {a b c : Tokens} {x : Text} → Word (codes "STRUCT") a b → Name b c x → NamedType a c (Named x)

mutual
  -- type = base type | [ "struct" ] name | "struct" [ name ] shape
  pub data AType : Tokens → Tokens → EflType → Type 0 where
    base : {a b : Tokens} {t : EflType} → BaseType a b t → AType a b t
    named : {a b : Tokens} {t : EflType} → NamedType a b t → AType a b t
    shaped : {a b : Tokens} {t : EflType} → ShapeType a b t → AType a b t

  -- "struct" [ name ] shape
  pub data ShapeType : Tokens → Tokens → EflType → Type 0 where
    nameless : {a b c : Tokens} {gs : EflGroups} → Word (codes "STRUCT") a b → Shape b c gs → ShapeType a c (efl.Shape None gs)
    structured : {a b c d : Tokens} {x : Text} {gs : EflGroups} → Word (codes "STRUCT") a b → Name b c x → Shape c d gs → ShapeType a d (efl.Shape (Some x) gs)

  -- shape = "{" { lines type vars stop } lines "}"
  pub data Shape : Tokens → Tokens → EflGroups → Type 0 where
    shape : {a b c d e : Tokens} {gs : EflGroups} → Sign signs.OpenBrace a b → Groups b c gs → Lines c d → Sign signs.CloseBrace d e → Shape a e gs

  -- { lines type vars stop }
  pub data Groups : Tokens → Tokens → EflGroups → Type 0 where
    no_group : {a : Tokens} → Groups a a NoGroup
    group : {a b c d e g : Tokens} {t : EflType} {vs : List EflVar} {gs : EflGroups} → Lines a b → AType b c t → Vars c d vs → Stop d e → Groups e g gs →
        Groups a g (AndGroup t vs (place_at b) gs)

-- const = whole | "true" | "false"
pub data Const : Tokens → Tokens → EflConst → Type 0 where
  whole : {a b : Tokens} {z : ℤ} → Whole a b z → Const a b (constants.Int z)
  truth : {a b : Tokens} → Word (codes "TRUE") a b → Const a b (constants.Truth true)
  falsehood : {a b : Tokens} → Word (codes "FALSE") a b → Const a b (constants.Truth false)

-- many = [ Number "$" ] const
pub data Many : Tokens → Tokens → ℕ × EflConst → Type 0 where
  once : {a b : Tokens} {c : EflConst} → Const a b c → Many a b (1, c)
  repeated : {a b c d : Tokens} {n : ℕ} {k : EflConst} → Natural a b n → Sign signs.Dollar b c → Const c d k → Many a d (n, k)

-- preset = place "=" ( const | "(" many { "," many } ")" )
pub data Preset : Tokens → Tokens → EflPreset → Type 0 where
  one : {a b c d : Tokens} {s : EflPlace} {k : EflConst} → Place a b s → Sign signs.Assign b c → Const c d k →
      Preset a d (record { place = s; values = (1, k) ∷ []; listed = false })
  several : {a b c d e g : Tokens} {s : EflPlace} {ms : List (ℕ × EflConst)} → Place a b s → Sign signs.Assign b c → Sign signs.Open c d → Listed Many d e ms →
      Sign signs.Close e g → Preset a g (record { place = s; values = ms; listed = true })

-- range = letter [ "-" letter ], where a single letter stands twice
pub data Range : Tokens → Tokens → ℕ × ℕ → Type 0 where
  one : {a b : Tokens} {x : ℕ} → Letter a b x → Range a b (x, x)
  both : {a b c d : Tokens} {x y : ℕ} → Letter a b x → Sign signs.Minus b c → Letter c d y → Range a d (x, y)

-- the declarations of a block
pub data Declaration : Tokens → Tokens → EflDeclKind → Type 0 where
  variables : {a b c d : Tokens} {t : EflType} {vs : List EflVar} → AType a b t → Vars b c vs → Stop c d → Declaration a d (Variables None t vs)
  initial : {a b c d : Tokens} {ps : List EflPreset} → Word (codes "INITIAL") a b → Listed Preset b c ps → Stop c d → Declaration a d (Initial ps)
  structure : {a b c d e : Tokens} {x : Text} {gs : EflGroups} → Word (codes "STRUCT") a b → Name b c x → Shape c d gs → ShapeStop d e → Declaration a e (Structure x gs)

-- "common" "(" name ")"
pub data CommonName : Tokens → Tokens → Text → Type 0 where
  common : {a b c d e : Tokens} {x : Text} → Word (codes "COMMON") a b → Sign signs.Open b c → Name c d x → Sign signs.Close d e → CommonName a e x

-- "implicit" "(" range { "," range } ")"
pub data ImplicitRanges : Tokens → Tokens → List (ℕ × ℕ) → Type 0 where
  implicit : {a b c d e : Tokens} {rs : List (ℕ × ℕ)} → Word (codes "IMPLICIT") a b → Sign signs.Open b c → Listed Range c d rs → Sign signs.Close d e → ImplicitRanges a e rs

-- the declarations of a procedure
pub data OuterDeclaration : Tokens → Tokens → EflDeclKind → Type 0 where
  declaration : {a b : Tokens} {d : EflDeclKind} → Declaration a b d → OuterDeclaration a b d
  implicit : {a b c d : Tokens} {rs : List (ℕ × ℕ)} {t : EflType} → ImplicitRanges a b rs → AType b c t → Stop c d → OuterDeclaration a d (Implicit rs t)
  implicit_shape : {a b c d : Tokens} {rs : List (ℕ × ℕ)} {t : EflType} → ImplicitRanges a b rs → ShapeType b c t → ShapeStop c d → OuterDeclaration a d (Implicit rs t)
  common : {a b c d e : Tokens} {x : Text} {t : EflType} {vs : List EflVar} → CommonName a b x → AType b c t → Vars c d vs → Stop d e →
      OuterDeclaration a e (Variables (Some x) t vs)
  common_list : {a b c d e g h : Tokens} {x : Text} {gs : EflGroups} → CommonName a b x → Sign signs.OpenBrace b c → Groups c d gs → Lines d e → Sign signs.CloseBrace e g →
      StopIfAny g h → OuterDeclaration a h (Area x gs)

-- decl = lines declaration, with the place of its first token
pub data Decl (Kind : Tokens → Tokens → EflDeclKind → Type 0) : Tokens → Tokens → EflDecl → Type 0 where
  decl : {a b c : Tokens} {d : EflDeclKind} → Lines a b → Kind b c d → Decl Kind a c (record { kind = d; place = place_at b })
