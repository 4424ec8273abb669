-- The names that a part uses: those of variables, `do` variables and calls, and the structures behind `->` (Feldman: primaries;
-- dynamic structures).
use Rattle.std.specs.Prelude.{List, [], ◌∷◌, ◌++◌, flat_map, Option, Some, None}
use Rattle.efl_tree.specs.Syntax.{Text, EflExpr, Int, Truth, At, Call, Group, Plus, Minus, Not, Up, Down, Pair, Assign, EflExprs, NoExpr, AndExpr, EflPlace, Path, EflSteps, NoStep, Member, Overlay, EflDeclKind, Initial, WriteItem, Value, Chars, ReadItem, Take, EflKind, Act, If, IfElse, While, For, Do, Switch, Return, Write, Read}
use Rattle.efl_tree.specs.Syntax as efl
use Rattle.efl_scope.specs.Parts.{Form, Declares, States, Until}

pub data Use : Type 0 where
  -- a name by itself
  Named : Text → Use
  -- a name before parentheses
  Applied : Text → Use
  -- a name behind `->`
  Laid : Text → Use

abbrev pub named : Text → EflExprs → Use
named x NoExpr = Named x
named x (AndExpr e es) = Applied x

abbrev mutual
  pub uses_of : EflExpr → List Use
  uses_of (Int z) = []
  uses_of (Truth b) = []
  uses_of (At p) = uses_at p
  uses_of (Call x es) = Applied x ∷ uses_of_all es
  uses_of (Group a) = uses_of a
  uses_of (Plus a) = uses_of a
  uses_of (Minus a) = uses_of a
  uses_of (Not a) = uses_of a
  uses_of (Up p) = uses_at p
  uses_of (Down p) = uses_at p
  uses_of (Pair o a b) = uses_of a ++ uses_of b
  uses_of (Assign o p a) = uses_at p ++ uses_of a

  pub uses_of_all : EflExprs → List Use
  uses_of_all NoExpr = []
  uses_of_all (AndExpr e es) = uses_of e ++ uses_of_all es

  pub uses_at : EflPlace → List Use
  uses_at (Path x es steps) = named x es ∷ (uses_of_all es ++ uses_behind steps)

  pub uses_behind : EflSteps → List Use
  uses_behind NoStep = []
  uses_behind (Member x es steps) = uses_of_all es ++ uses_behind steps
  uses_behind (Overlay x steps) = Laid x ∷ uses_behind steps

abbrev pub uses_if : Option EflExpr → List Use
uses_if None = []
uses_if (Some e) = uses_of e

abbrev pub uses_written : WriteItem → List Use
uses_written (Value e f) = uses_of e
uses_written (efl.WriteItem.Skip n) = []
uses_written (Chars x) = []

abbrev pub uses_read : ReadItem → List Use
uses_read (Take p f) = uses_at p
uses_read (efl.ReadItem.Skip n) = []

-- of a statement without those in it
abbrev pub uses_by : EflKind → List Use
uses_by (Act e) = uses_of e
uses_by (If e s) = uses_of e
uses_by (IfElse e s t) = uses_of e
uses_by (While e s) = uses_of e
uses_by (For a e b s) = uses_if a ++ (uses_if e ++ uses_if b)
uses_by (Do x a b c s) = Named x ∷ (uses_of a ++ (uses_of b ++ uses_if c))
uses_by (Switch e cs) = uses_of e
uses_by (Return e) = uses_if e
uses_by (Write e is') = uses_if e ++ flat_map uses_written is'
uses_by (Read e is') = uses_if e ++ flat_map uses_read is'
uses_by _ = []

abbrev pub uses_declared : EflDeclKind → List Use
uses_declared (Initial ps) = flat_map (λ p. uses_at p.place) ps
uses_declared _ = []

abbrev pub uses_in : Form → List Use
uses_in (Declares before k) = uses_declared k
uses_in (States ls k) = uses_by k
uses_in (Until e) = uses_of e
uses_in _ = []
