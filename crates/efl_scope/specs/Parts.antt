-- The parts of a program in reading order, each with its place and with what is around it. A part is a header, a declaration, a
-- group of a shape or of a list of common, a statement without those in it, the condition of `until`, or a clause (Feldman: program
-- form; declarations; executable statements).
use Rattle.std.specs.Prelude.{ℕ, ◌+◌, ℤ, Bool, false, ◌||◌, List, [], ◌∷◌, ◌++◌, map, Option, Some, None}
use Rattle.ground.specs.declared.place.Place.{Place}
use Rattle.efl_tree.specs.declared.statement.LoopKind.{LoopKind}
use Rattle.efl_tree.specs.declared.statement.LoopKind.TheVariants as loops
use Rattle.efl_tree.specs.Syntax.{Text, EflExpr, EflVar, EflType, Shape, EflGroups, NoGroup, AndGroup, EflDeclKind, Implicit, Initial, Variables, Area, Structure, EflDecl, EflStmt, Statement, EflKind, Block, If, IfElse, While, For, Repeat, RepeatUntil, Do, Switch, EflStmts, NoStmt, AndStmt, EflCases, NoCase, AndCase, EflProcedure, EflProgram}
use Rattle.efl_scope.specs.Scopes.{Blocks, outer, entering, behind, behind_declaration, behind_all}

-- what a part says
pub data Form : Type 0 where
  Header : Option EflType → List Text → Form
  -- a declaration, with the names of its block before it
  Declares : List Text → EflDeclKind → Form
  -- a group, with the names before it that its own ones must not be
  Groups : List Text → EflType → List EflVar → Form
  -- a statement with its labels
  States : List Text → EflKind → Form
  Until : EflExpr → Form
  -- a clause's constants, whether it is a default, and those of the clauses before it
  Chooses : List ℤ → Bool → List ℤ → Bool → Form

-- What is around a part: the number of its procedure, where it stands there (in each list and each `if .. else` around it, from the
-- inside), the blocks, the names of formals where its block is the outer one, the loops and switches from the inside, and the labels
-- that stand directly in the lists.
pub record Around : Type 0 where
  pub unit : ℕ
  pub position : List ℕ
  pub blocks : Blocks
  pub formals : List Text
  pub loops : List LoopKind
  pub labels : List Text

pub record Part : Type 0 where
  pub around : Around
  pub place : Place
  pub form : Form

abbrev pub part : Around → Place → Form → Part
part a p f = record { around = a; place = p; form = f }

abbrev pub among : Blocks → Around → Around
among bs a = record a { blocks = bs }

abbrev pub into : ℕ → Around → Around
into n a = record a { position = n ∷ a.position }

abbrev pub in_loop : LoopKind → Around → Around
in_loop k a = record a { loops = k ∷ a.loops }

abbrev pub labels_in : EflStmts → List Text
labels_in NoStmt = []
labels_in (AndStmt (Statement ls p k) ss) = ls ++ labels_in ss

abbrev pub in_list : EflStmts → Around → Around
in_list ss a = record a { labels = labels_in ss ++ a.labels }

-- ---- declarations ----

abbrev pub names_of : List EflVar → List Text
names_of vs = map (λ v. v.name) vs

abbrev pub name_if : Option Text → List Text
name_if None = []
name_if (Some x) = x ∷ []

-- the structures that a type names, which are names of the block, each at its `}`
abbrev mutual
  pub shapes_in : EflType → List Text
  shapes_in (Shape o gs) = shapes_of gs ++ name_if o
  shapes_in _ = []

  pub shapes_of : EflGroups → List Text
  shapes_of NoGroup = []
  shapes_of (AndGroup a vs p gs) = shapes_in a ++ shapes_of gs

-- all names of an area's list
abbrev pub listed : EflGroups → List Text
listed NoGroup = []
listed (AndGroup a vs p gs) = shapes_in a ++ names_of vs ++ listed gs

-- the names that a declaration gives its block
abbrev pub names_by : EflDeclKind → List Text
names_by (Implicit rs a) = shapes_in a
names_by (Initial ps) = []
names_by (Variables q a vs) = shapes_in a ++ names_of vs
names_by (Area q gs) = listed gs
names_by (Structure x gs) = shapes_of gs ++ x ∷ []

-- the groups of a shape, and those within their types
abbrev mutual
  pub groups_in : Around → EflType → List Part
  groups_in a (Shape o gs) = members_in a [] gs
  groups_in a _ = []

  pub members_in : Around → List Text → EflGroups → List Part
  members_in a before NoGroup = []
  members_in a before (AndGroup t vs p gs) =
      part a p (Groups before t vs) ∷ (groups_in a t ++ members_in (among (behind a.blocks t) a) (before ++ names_of vs) gs)

-- the groups of an area's list: their variables are names of the block, and no formals
abbrev pub area_groups : Around → List Text → EflGroups → List Part
area_groups a before NoGroup = []
area_groups a before (AndGroup t vs p gs) =
    part a p (Groups (before ++ shapes_in t) t vs) ∷ (groups_in a t ++ area_groups (among (behind a.blocks t) a) (before ++ shapes_in t ++ names_of vs) gs)

abbrev pub groups_by : Around → List Text → EflDeclKind → List Part
groups_by a before (Implicit rs t) = groups_in a t
groups_by a before (Initial ps) = []
groups_by a before (Variables q t vs) = groups_in a t
groups_by a before (Area q gs) = area_groups a (a.formals ++ before) gs
groups_by a before (Structure x gs) = members_in a [] gs

abbrev pub declarations_in : Around → List Text → List EflDecl → List Part
declarations_in a before [] = []
declarations_in a before (d ∷ ds) =
    part a d.place (Declares before d.kind)
    ∷ (groups_by a before d.kind ++ declarations_in (among (behind_declaration a.blocks d.kind) a) (before ++ names_by d.kind) ds)

-- ---- statements ----

-- an inner block: its names hide those around, and no formal is declared there
abbrev pub opening : List EflDecl → Around → Around
opening ds a = record a { blocks = entering a.position ds a.blocks; formals = [] }

abbrev pub opened : List EflDecl → Around → Around
opened ds a = among (behind_all (entering a.position ds a.blocks) ds) a

abbrev mutual
  pub parts_of : Around → EflStmt → List Part
  parts_of a (Statement ls p k) = part a p (States ls k) ∷ parts_within a k

  pub parts_within : Around → EflKind → List Part
  parts_within a (Block ds ss) = declarations_in (opening ds a) [] ds ++ parts_in 0 (in_list ss (opened ds a)) ss
  parts_within a (If e s) = parts_of a s
  parts_within a (IfElse e s t) = parts_of (into 0 a) s ++ parts_of (into 1 a) t
  parts_within a (While e s) = parts_of (in_loop loops.While a) s
  parts_within a (For b e c s) = parts_of (in_loop loops.For a) s
  parts_within a (Repeat s) = parts_of (in_loop loops.Repeat a) s
  parts_within a (RepeatUntil s e p) = parts_of (in_loop loops.Repeat a) s ++ part a p (Until e) ∷ []
  parts_within a (Do x b c d s) = parts_of (in_loop loops.Do a) s
  parts_within a (Switch e cs) = clauses_in 0 (in_loop loops.Switch a) [] false cs
  parts_within a _ = []

  -- from the statement with this number on
  pub parts_in : ℕ → Around → EflStmts → List Part
  parts_in n a NoStmt = []
  parts_in n a (AndStmt s ss) = parts_of (into n a) s ++ parts_in (n + 1) a ss

  -- from this clause on, with the constants before, and whether a default stands before
  pub clauses_in : ℕ → Around → List ℤ → Bool → EflCases → List Part
  clauses_in n a zs seen NoCase = []
  clauses_in n a zs seen (AndCase es fallback ss p cs) =
      part a p (Chooses es fallback zs seen) ∷ (parts_in 0 (in_list ss (into n a)) ss ++ clauses_in (n + 1) a (zs ++ es) (seen || fallback) cs)

-- ---- procedures ----

abbrev pub header_type_groups : Around → Option EflType → List Part
header_type_groups a None = []
header_type_groups a (Some t) = groups_in (among [] a) t

abbrev pub around_unit : ℕ → EflProcedure → Around
around_unit n u = record { unit = n; position = []; blocks = outer u; formals = u.formals; loops = []; labels = labels_in u.body }

abbrev pub parts_by : ℕ → EflProcedure → List Part
parts_by n u = let a = around_unit n u in
    part a u.place (Header u.result u.formals)
    ∷ (header_type_groups a u.result ++ declarations_in a [] u.declarations ++ parts_in 0 (among (behind_all (outer u) u.declarations) a) u.body)

abbrev pub parts_from : ℕ → List EflProcedure → List Part
parts_from n [] = []
parts_from n (u ∷ us) = parts_by n u ++ parts_from (n + 1) us

-- all parts of a program
abbrev pub program_parts : EflProgram → List Part
program_parts p = parts_from 0 p.procedures
