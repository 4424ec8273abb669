-- What the source and its types give of typed trees, beyond what their lowering asks for: numbers and widths are in their ranges, texts
-- have characters of cards, and each operand has the type that is asked for.
use Rattle.std.specs.Prelude.{◌≡◌, ◌≤◌, ℕ, ℤ, pos, negsuc, int_le, Bool, true, ◌&&◌, List, [], ◌∷◌, length, Option, Some, None, ⊤}
use Rattle.std.specs.List.{list_all, sum_by}
use Rattle.ground.specs.declared.value.Kind.{Kind}
use Rattle.ground.specs.declared.value.Kind.TheVariants.{Integer, Logical}
use Rattle.f66_tree.specs.Built.{is_constant}
use Rattle.f66_names.specs.Kinds.{operand}
use Rattle.f66_names.specs.Shapes.{is_printed}
use Rattle.f66_names.specs.Sorts.{arity, takes_many}
use Rattle.f66_names.specs.StoreRules.{is_between}
use Rattle.efl_program.specs.Typed.{Op, Plain, Expr, Int, Truth, At, Call, Known, Group, Plus, Minus, Not, Up, Down, Pair, Assign, Exprs, NoExpr, AndExpr, Action, Evaluate, Invoke, Edit, AsInteger, AsLogical, AsCharacter, WriteItem, Value, Skip, Chars, ReadItem, Take, Pass, Stmt, Empty, Block, Act, If, IfElse, While, For, Repeat, RepeatUntil, Do, Switch, Break, Next, Return, Goto, Write, Read, Labelled, Stmts, NoStmt, AndStmt, Clauses, NoClause, AndClause}
use Rattle.efl_program.specs.Places.{sort_of, kind_of}
use Rattle.efl_routes.specs.Expressions.{type_of, kind_by, count}

-- ---- expressions ----

-- the type that an operator asks for on both sides
abbrev pub side : Op → Kind
side (Plain op) = operand op
side op = Logical

abbrev mutual
  pub IsWritten : Expr → Type 0
  IsWritten (Int z) = is_constant z ≡ true
  IsWritten (Truth b) = ⊤
  IsWritten (At x) = ⊤
  IsWritten (Call v k es) = AreWritten es
  IsWritten (Known g es) = (takes_many (arity g) (count es) ≡ true) × AreIntegers es × AreWritten es
  IsWritten (Group a) = IsWritten a
  IsWritten (Plus a) = (type_of a ≡ Integer) × IsWritten a
  IsWritten (Minus a) = (type_of a ≡ Integer) × IsWritten a
  IsWritten (Not a) = (type_of a ≡ Logical) × IsWritten a
  IsWritten (Up x) = kind_of (sort_of x) ≡ Integer
  IsWritten (Down x) = kind_of (sort_of x) ≡ Integer
  IsWritten (Pair op a b) = (type_of a ≡ side op) × (type_of b ≡ side op) × IsWritten a × IsWritten b
  IsWritten (Assign None x e) = (type_of e ≡ kind_of (sort_of x)) × IsWritten e
  IsWritten (Assign (Some op) x e) = (kind_of (sort_of x) ≡ side op) × (type_of e ≡ side op) × (kind_by op ≡ kind_of (sort_of x)) × IsWritten e

  pub AreWritten : Exprs → Type 0
  AreWritten NoExpr = ⊤
  AreWritten (AndExpr e es) = IsWritten e × AreWritten es

  pub AreIntegers : Exprs → Type 0
  AreIntegers NoExpr = ⊤
  AreIntegers (AndExpr e es) = (type_of e ≡ Integer) × AreIntegers es

abbrev pub WrittenIfAny : Option Expr → Type 0
WrittenIfAny None = ⊤
WrittenIfAny (Some e) = IsWritten e

-- ---- records ----

abbrev pub EditIsWritten : Edit → Type 0
EditIsWritten (AsInteger w) = is_between 1 132 w ≡ true
EditIsWritten (AsLogical w) = is_between 1 132 w ≡ true
EditIsWritten AsCharacter = ⊤

abbrev pub ItemIsWritten : WriteItem → Type 0
ItemIsWritten (Value e d) = IsWritten e × EditIsWritten d
ItemIsWritten (Skip n) = is_between 1 132 n ≡ true
ItemIsWritten (Chars t) = (is_between 1 132 (length t) ≡ true) × (list_all is_printed t ≡ true)

abbrev pub ItemsAreWritten : List WriteItem → Type 0
ItemsAreWritten [] = ⊤
ItemsAreWritten (x ∷ xs) = ItemIsWritten x × ItemsAreWritten xs

abbrev pub TakenIsWritten : ReadItem → Type 0
TakenIsWritten (Take x d) = EditIsWritten d
TakenIsWritten (Pass n) = is_between 1 132 n ≡ true

abbrev pub TakenAreWritten : List ReadItem → Type 0
TakenAreWritten [] = ⊤
TakenAreWritten (x ∷ xs) = TakenIsWritten x × TakenAreWritten xs

-- the columns of an item
abbrev pub edit_width : Edit → ℕ
edit_width (AsInteger w) = w
edit_width (AsLogical w) = w
edit_width AsCharacter = 1

abbrev pub item_width : WriteItem → ℕ
item_width (Value e d) = edit_width d
item_width (Skip n) = n
item_width (Chars t) = length t

abbrev pub taken_width : ReadItem → ℕ
taken_width (Take x d) = edit_width d
taken_width (Pass n) = n

-- ---- statements ----

-- a constant of a clause, which may have a sign
abbrev pub is_case : ℤ → Bool
is_case z = int_le (negsuc 2147483646) z && int_le z (pos 2147483647)

abbrev pub ActionIsWritten : Action → Type 0
ActionIsWritten (Evaluate e) = IsWritten e
ActionIsWritten (Invoke v es) = AreWritten es

abbrev pub ActionIfAny : Option Action → Type 0
ActionIfAny None = ⊤
ActionIfAny (Some a) = ActionIsWritten a

-- in a procedure that gives a value of the type K, if it gives one
module _ (K : Kind) where
  abbrev mutual
    pub StmtIsWritten : Stmt → Type 0
    StmtIsWritten (Empty p) = ⊤
    StmtIsWritten (Block p ss) = AllWritten ss
    StmtIsWritten (Act p a) = ActionIsWritten a
    StmtIsWritten (If p e s) = IsWritten e × StmtIsWritten s
    StmtIsWritten (IfElse p e s t) = IsWritten e × StmtIsWritten s × StmtIsWritten t
    StmtIsWritten (While p e s) = IsWritten e × StmtIsWritten s
    StmtIsWritten (For p a e b s) = ActionIfAny a × WrittenIfAny e × ActionIfAny b × StmtIsWritten s
    StmtIsWritten (Repeat p s) = StmtIsWritten s
    StmtIsWritten (RepeatUntil p s e q) = StmtIsWritten s × IsWritten e
    StmtIsWritten (Do p v a z d s) = ((type_of a ≡ Integer) × IsWritten a) × IsWritten z × WrittenIfAny d × StmtIsWritten s
    StmtIsWritten (Switch p e cs) = IsWritten e × ClausesAreWritten cs
    StmtIsWritten (Break p i o) = ⊤
    StmtIsWritten (Next p i o) = ⊤
    StmtIsWritten (Return p None) = ⊤
    StmtIsWritten (Return p (Some e)) = (type_of e ≡ K) × IsWritten e
    StmtIsWritten (Goto p l) = ⊤
    StmtIsWritten (Write p u items) = WrittenIfAny u × ItemsAreWritten items × (sum_by item_width items ≤ 132)
    StmtIsWritten (Read p u items) = WrittenIfAny u × TakenAreWritten items × (sum_by taken_width items ≤ 132)
    StmtIsWritten (Labelled l p s) = StmtIsWritten s

    pub AllWritten : Stmts → Type 0
    AllWritten NoStmt = ⊤
    AllWritten (AndStmt s ss) = StmtIsWritten s × AllWritten ss

    pub ClausesAreWritten : Clauses → Type 0
    ClausesAreWritten NoClause = ⊤
    ClausesAreWritten (AndClause es fallback ss p cs) = (list_all is_case es ≡ true) × AllWritten ss × ClausesAreWritten cs
