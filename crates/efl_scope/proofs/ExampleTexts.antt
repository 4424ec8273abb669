-- Small procedures as trees, each part with the number of its line.
use Rattle.std.specs.Prelude.{ℕ, pos, List, [], ◌∷◌, map, Option, Some, None}
use Rattle.ground.specs.declared.place.Place.{Place}
use Rattle.efl_tree.specs.declared.declaration.EflBound.{EflBound}
use Rattle.efl_tree.specs.Syntax.{Text, EflExpr, Int, Truth, At, Call, EflExprs, NoExpr, AndExpr, EflPlace, Path, EflSteps, NoStep, EflVar, EflType, Integer, Logical, Named, Shape, EflGroups, NoGroup, AndGroup, EflDeclKind, Variables, Area, Structure, EflDecl, EflStmt, Statement, EflKind, Block, Act, EflStmts, NoStmt, AndStmt, EflProcedure, EflProgram}
use Rattle.efl_tree.specs.Syntax as efl

abbrev pub here : ℕ → Place
here n = record { file = 0; line = n }

-- ---- expressions ----

abbrev pub num : ℕ → EflExpr
num n = Int (pos n)

abbrev pub exprs : List EflExpr → EflExprs
exprs [] = NoExpr
exprs (e ∷ es) = AndExpr e (exprs es)

-- x, x(es), and steps from there
abbrev pub at : Text → EflPlace
at x = Path x NoExpr NoStep

abbrev pub item : Text → List EflExpr → EflPlace
item x es = Path x (exprs es) NoStep

abbrev pub from : Text → EflSteps → EflPlace
from x steps = Path x NoExpr steps

abbrev pub member : Text → EflSteps → EflSteps
member x steps = efl.Member x NoExpr steps

-- ---- declarations ----

abbrev pub scalars : List Text → List EflVar
scalars xs = map (λ x. record { name = x; bounds = [] }) xs

abbrev pub up_to : ℕ → EflBound
up_to n = record { low = None; high = Some (pos n) }

abbrev pub between : ℕ → ℕ → EflBound
between m n = record { low = Some (pos m); high = Some (pos n) }

abbrev pub sized : Text → List EflBound → EflVar
sized x bs = record { name = x; bounds = bs }

abbrev pub decl : ℕ → EflDeclKind → EflDecl
decl n k = record { kind = k; place = here n }

abbrev pub declare : ℕ → EflType → List Text → EflDecl
declare n t xs = decl n (Variables None t (scalars xs))

abbrev pub group : ℕ → EflType → List EflVar → EflGroups → EflGroups
group n t vs gs = AndGroup t vs (here n) gs

-- { integer x }
abbrev pub one_member : ℕ → Text → EflGroups
one_member n x = group n Integer (scalars (x ∷ [])) NoGroup

abbrev pub area : ℕ → Text → EflType → List EflVar → EflDecl
area n q t vs = decl n (Variables (Some q) t vs)

-- ---- statements ----

abbrev pub stmt : ℕ → EflKind → EflStmt
stmt n k = Statement [] (here n) k

abbrev pub labelled : ℕ → Text → EflKind → EflStmt
labelled n l k = Statement (l ∷ []) (here n) k

abbrev pub all : List EflStmt → EflStmts
all [] = NoStmt
all (s ∷ ss) = AndStmt s (all ss)

abbrev pub set : ℕ → EflPlace → EflExpr → EflStmt
set n p e = stmt n (Act (efl.Assign None p e))

abbrev pub block : ℕ → List EflDecl → List EflStmt → EflStmt
block n ds ss = stmt n (Block ds (all ss))

-- ---- procedures ----

abbrev pub procedure : ℕ → Option EflType → Option Text → List Text → List EflDecl → List EflStmt → EflProcedure
procedure n t x fs ds ss = record { result = t; name = x; formals = fs; declarations = ds; body = all ss; place = here n; finish = here 99 }

-- the main, on line 1
abbrev pub main : List EflDecl → List EflStmt → EflProcedure
main ds ss = procedure 1 None None [] ds ss

abbrev pub program : List EflProcedure → EflProgram
program us = record { procedures = us; finish = here 100 }
