-- The forms of EFL that are not built yet: all but scalar variables that begin without a value.
use Rattle.std.specs.Prelude.{◌≡◌, ℤ, pos, int_lt, Bool, true, false, not, ◌||◌, List, [], ◌∷◌, find, Option, Some, None, option_map}
use Rattle.std.specs.List.{list_all, list_any}
use Rattle.ground.specs.declared.place.Place.{Place}
use Rattle.efl_tree.specs.declared.statement.EflEdit.{EflEdit}
use Rattle.efl_tree.specs.declared.statement.EflEdit.TheVariants as edits
use Rattle.efl_tree.specs.Syntax.{EflExpr, Int, Truth, At, Call, Group, Plus, Minus, Not, Up, Down, Pair, Assign, EflExprs, NoExpr, AndExpr, EflPlace, Path, EflVar, EflType, Integer, Logical, EflDeclKind, Implicit, Initial, Variables, Area, Structure, WriteItem, Value, Chars, ReadItem, Take, EflKind, Act, If, IfElse, While, For, Do, Switch, Return, Write, Read, EflProgram}
use Rattle.efl_tree.specs.Syntax as efl
use Rattle.efl_scope.specs.Parts.{Form, Header, Declares, Groups, States, Until, Chooses, Part, program_parts}
use Rattle.efl_types.specs.Types.{ends}

-- ---- declarations ----

abbrev pub is_plain : EflType → Bool
is_plain Integer = true
is_plain Logical = true
is_plain t = false

abbrev pub has_bounds : EflVar → Bool
has_bounds v = not (is_nil v.bounds)
  where
    is_nil : {A : Type 0} → List A → Bool
    is_nil [] = true
    is_nil (x ∷ xs) = false

abbrev pub unbuilt_declaration : EflDeclKind → Bool
unbuilt_declaration (Implicit rs t) = not (is_plain t)
unbuilt_declaration (Variables None t vs) = not (is_plain t) || list_any has_bounds vs
unbuilt_declaration _ = true

-- ---- expressions ----

abbrev pub is_bare : EflExprs → Bool
is_bare NoExpr = true
is_bare (AndExpr e es) = false

-- what is stored into must have neither subscripts nor steps
abbrev pub unbuilt_target : EflPlace → Bool
unbuilt_target (Path x es steps) = not (is_bare es) || not (ends steps)

abbrev mutual
  pub unbuilt_expr : EflExpr → Bool
  unbuilt_expr (Int z) = false
  unbuilt_expr (Truth b) = false
  unbuilt_expr (At p) = unbuilt_place p
  unbuilt_expr (Call x es) = unbuilt_exprs es
  unbuilt_expr (Group a) = unbuilt_expr a
  unbuilt_expr (Plus a) = unbuilt_expr a
  unbuilt_expr (Minus a) = unbuilt_expr a
  unbuilt_expr (Not a) = unbuilt_expr a
  unbuilt_expr (Up p) = unbuilt_target p
  unbuilt_expr (Down p) = unbuilt_target p
  unbuilt_expr (Pair o a b) = unbuilt_expr a || unbuilt_expr b
  unbuilt_expr (Assign o p a) = unbuilt_target p || unbuilt_expr a

  pub unbuilt_exprs : EflExprs → Bool
  unbuilt_exprs NoExpr = false
  unbuilt_exprs (AndExpr e es) = unbuilt_expr e || unbuilt_exprs es

  -- what is read: a variable, or a call, in whose parentheses expressions stand
  pub unbuilt_place : EflPlace → Bool
  unbuilt_place (Path x es steps) = unbuilt_exprs es || not (ends steps)

abbrev pub unbuilt_if_any : Option EflExpr → Bool
unbuilt_if_any None = false
unbuilt_if_any (Some e) = unbuilt_expr e

-- ---- statements ----

-- A width below 0 or above 65,535. It is a bad format, which is a fault by itself, so that no text without one meets this.
abbrev pub is_wide : ℤ → Bool
is_wide w = int_lt w (pos 0) || int_lt (pos 65535) w

abbrev pub unbuilt_edit : EflEdit → Bool
unbuilt_edit (edits.Whole w) = is_wide w
unbuilt_edit (edits.Truth w) = is_wide w
unbuilt_edit edits.Letter = false

abbrev pub unbuilt_written : WriteItem → Bool
unbuilt_written (Value e f) = unbuilt_expr e || unbuilt_edit f
unbuilt_written (efl.WriteItem.Skip n) = is_wide n
unbuilt_written (Chars x) = false

abbrev pub unbuilt_read : ReadItem → Bool
unbuilt_read (Take p f) = unbuilt_target p || unbuilt_edit f
unbuilt_read (efl.ReadItem.Skip n) = is_wide n

-- of a statement without those in it
abbrev pub unbuilt_by : EflKind → Bool
unbuilt_by (Act e) = unbuilt_expr e
unbuilt_by (If e s) = unbuilt_expr e
unbuilt_by (IfElse e s t) = unbuilt_expr e
unbuilt_by (While e s) = unbuilt_expr e
unbuilt_by (For a e b s) = unbuilt_if_any a || (unbuilt_if_any e || unbuilt_if_any b)
unbuilt_by (Do x a b c s) = unbuilt_expr a || (unbuilt_expr b || unbuilt_if_any c)
unbuilt_by (Switch e cs) = unbuilt_expr e
unbuilt_by (Return e) = unbuilt_if_any e
unbuilt_by (Write e is') = unbuilt_if_any e || list_any unbuilt_written is'
unbuilt_by (Read e is') = unbuilt_if_any e || list_any unbuilt_read is'
unbuilt_by _ = false

-- ---- parts ----

-- A form of a part. The groups of a shape or of an area are told with their declaration; headers and clauses are always built.
abbrev pub unbuilt_in : Form → Bool
unbuilt_in (Header o xs) = false
unbuilt_in (Declares before k) = unbuilt_declaration k
unbuilt_in (Groups before t vs) = false
unbuilt_in (States ls k) = unbuilt_by k
unbuilt_in (Until e) = unbuilt_expr e
unbuilt_in (Chooses zs fallback before seen) = false

-- where the first part of a program stands that has such a form, in reading order
abbrev pub first_unbuilt : EflProgram → Option Place
first_unbuilt p = option_map (λ v. v.place) (find (λ v. unbuilt_in v.form) (program_parts p))

-- these parts have no such form
abbrev pub are_built : List Part → Bool
are_built vs = list_all (λ v. not (unbuilt_in v.form)) vs

-- a program has no such form
pub record IsBuilt (p : EflProgram) : Type 0 where
  pub built : are_built (program_parts p) ≡ true
