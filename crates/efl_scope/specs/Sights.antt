-- What a walk over a program keeps in mind in place of the parts before and the blocks around: sets of names, and the first fault.
use Rattle.std.specs.Prelude.{Bool, true, false, not, ◌&&◌, ◌||◌, List, [], ◌∷◌, Option, Some, None, if◌then◌else◌}
use Rattle.std.specs.List.{list_any}
use Rattle.std.specs.Option.{option_or}
use Rattle.std.specs.Str.{bytes_eq}
use Rattle.rule_table.specs.Words.{is_some_and}
use Rattle.ground.specs.declared.fault.Fault.{Fault}
use Rattle.ground.specs.declared.place.Place.{Place}
use Rattle.efl_tree.specs.declared.statement.LoopKind.{LoopKind}
use Rattle.efl_tree.specs.declared.statement.LoopKind.TheVariants as loops
use Rattle.efl_tree.specs.Syntax.{Text, EflVar, EflType, Shape, EflGroups, NoGroup, AndGroup, EflDeclKind, Implicit, Initial, Variables, Area, Structure, EflDecl, EflStmt, Statement, EflKind, Block, If, IfElse, While, For, Repeat, RepeatUntil, Do, Switch, EflStmts, NoStmt, AndStmt, EflCases, NoCase, AndCase, EflProcedure}
use Rattle.efl_scope.specs.declared.rule.ScopeRule.{ScopeRule}
use Rattle.efl_scope.specs.declared.rule.ScopeRule.TheVariants.{OutOfProfileType, DuplicateName, BadLabel, BadBreak, CommonMismatch}
use Rattle.efl_scope.specs.Parts.{names_of}
use Rattle.efl_scope.specs.Uses.{Use, uses_of, uses_by, uses_declared}
use Rattle.efl_scope.specs.ScopeRules.{Names, no_name, kind_of, is_out, lays_none, misuses, misses_target, leaves_none, area_of}

-- ---- sets of names ----

abbrev pub with_name : Text → Names → Names
with_name x ns y = bytes_eq y x || ns y

abbrev pub without_name : Text → Names → Names
without_name x ns y = not (bytes_eq y x) && ns y

abbrev pub with_names : List Text → Names → Names
with_names [] ns = ns
with_names (x ∷ xs) ns = with_names xs (with_name x ns)

abbrev pub without_names : List Text → Names → Names
without_names [] ns = ns
without_names (x ∷ xs) ns = without_names xs (without_name x ns)

abbrev pub either : Names → Names → Names
either ms ns y = ms y || ns y

-- the names that a block, a shape or a header declares so far, and whether the latest of them stood there before
pub record Declared : Type 0 where
  pub names : Names
  pub again : Bool

abbrev pub nothing_declared : Declared
nothing_declared = record { names = no_name; again = false }

abbrev pub anew : Declared → Declared
anew d = record d { again = false }

-- a name comes, which is to stand neither there nor among these others
abbrev pub declaring : Names → Text → Declared → Declared
declaring out x d = record { names = with_name x d.names; again = d.again || (d.names x || out x) }

abbrev pub declaring_all : Names → List Text → Declared → Declared
declaring_all out [] d = d
declaring_all out (x ∷ xs) d = declaring_all out xs (declaring out x d)

abbrev pub declaring_if : Names → Option Text → Declared → Declared
declaring_if out None d = d
declaring_if out (Some x) d = declaring out x d

-- names come that are not asked for
abbrev pub adding_all : List Text → Declared → Declared
adding_all xs d = record d { names = with_names xs d.names }

-- the structures of a type, and of groups
abbrev mutual
  pub type_declared : Names → EflType → Declared → Declared
  type_declared out (Shape o gs) d = declaring_if out o (groups_declared out gs d)
  type_declared out _ d = d

  pub groups_declared : Names → EflGroups → Declared → Declared
  groups_declared out NoGroup d = d
  groups_declared out (AndGroup t vs p gs) d = groups_declared out gs (type_declared out t d)

-- an area's list, of which its declaration asks for structures alone
abbrev pub list_declared : Names → EflGroups → Declared → Declared
list_declared out NoGroup d = d
list_declared out (AndGroup t vs p gs) d = list_declared out gs (adding_all (names_of vs) (type_declared out t d))

-- ---- what was seen ----

-- the labels and the areas of the procedure so far, and the first fault
pub record Walk : Type 0 where
  pub labels : Declared
  pub areas : Names
  pub fault : Option Fault

abbrev pub fault_if : Place → Option ScopeRule → Option Fault
fault_if p None = None
fault_if p (Some r) = Some (record { kind = kind_of r; place = p; number = 0 })

-- a part at a place breaks a rule or none
abbrev pub noting : Place → Option ScopeRule → Walk → Walk
noting p o w = record w { fault = option_or w.fault (fault_if p o) }

-- a rule that is broken, where none before it is
abbrev pub or_rule : Option ScopeRule → Bool → ScopeRule → Option ScopeRule
or_rule None broken r = if broken then Some r else None
or_rule (Some q) broken r = Some q

abbrev pub rule_of_uses : Names → List Use → Option ScopeRule
rule_of_uses known us = or_rule (or_rule None (list_any (lays_none known) us) OutOfProfileType) (list_any (misuses known) us) DuplicateName

abbrev pub rule_of_type : Names → EflType → Bool → Option ScopeRule
rule_of_type known t again = or_rule (or_rule None (is_out known t) OutOfProfileType) again DuplicateName

-- ---- types ----

-- the names of structures, and what was seen
pub record Sight : Type 0 where
  pub known : Names
  pub walk : Walk

-- a structure becomes known; one of a header's type does not
abbrev pub knowing_if : Bool → Option Text → Names → Names
knowing_if false o known = known
knowing_if true None known = known
knowing_if true (Some x) known = with_name x known

abbrev pub knowing_in : Bool → Option Text → Sight → Sight
knowing_in kept o s = record s { known = knowing_if kept o s.known }

abbrev pub noting_in : Place → (Names → Option ScopeRule) → Sight → Sight
noting_in p rule s = record s { walk = noting p (rule s.known) s.walk }

-- the groups of a type
abbrev mutual
  pub type_seen : Bool → EflType → Sight → Sight
  type_seen kept (Shape o gs) s = knowing_in kept o (members_seen kept no_name gs s)
  type_seen kept _ s = s

  pub members_seen : Bool → Names → EflGroups → Sight → Sight
  members_seen kept before NoGroup s = s
  members_seen kept before (AndGroup t vs p gs) s =
      let d = declaring_all no_name (names_of vs) (record { names = before; again = false }) in
      members_seen kept d.names gs (type_seen kept t (noting_in p (λ known. rule_of_type known t d.again) s))

-- ---- declarations ----

-- what was seen in a block: its names so far too
pub record Opened : Type 0 where
  pub declared : Declared
  pub sight : Sight

abbrev pub seeing_type : EflType → Opened → Opened
seeing_type t b = record b { sight = type_seen true t b.sight }

abbrev pub seeing_members : EflGroups → Opened → Opened
seeing_members gs b = record b { sight = members_seen true no_name gs b.sight }

abbrev pub seeing_name : Text → Opened → Opened
seeing_name x b = record b { sight = knowing_in true (Some x) b.sight }

-- a part of a block, of which it is known whether it declares a name again
abbrev pub seeing_part : Place → (Names → Bool → Option ScopeRule) → Opened → Opened
seeing_part p rule b = record b { sight = noting_in p (λ known. rule known b.declared.again) b.sight }

-- a group of an area's list, and all groups
abbrev pub listed_seen : Names → EflType → List EflVar → Place → Opened → Opened
listed_seen formals t vs p b =
    let d = declaring_all formals (names_of vs) (anew (type_declared formals t b.declared)) in
    seeing_type t (seeing_part p (λ known again. rule_of_type known t again) (record b { declared = d }))

abbrev pub list_seen : Names → EflGroups → Opened → Opened
list_seen formals NoGroup b = b
list_seen formals (AndGroup t vs p gs) b = list_seen formals gs (listed_seen formals t vs p b)

-- an area's declaration asks for the structures of its list
abbrev pub area_declared : Names → EflGroups → Declared → Declared
area_declared formals gs d = record d { again = d.again || (list_declared (either d.names formals) gs nothing_declared).again }

abbrev pub names_declared : Names → EflDeclKind → Declared → Declared
names_declared formals (Implicit rs t) d = type_declared formals t d
names_declared formals (Initial ps) d = d
names_declared formals (Variables None t vs) d = declaring_all no_name (names_of vs) (type_declared formals t d)
names_declared formals (Variables (Some q) t vs) d = declaring_all formals (names_of vs) (type_declared formals t d)
names_declared formals (Area q gs) d = area_declared formals gs d
names_declared formals (Structure x gs) d = declaring formals x (groups_declared formals gs d)

-- the first declaration of an area whose lists do not agree
abbrev pub clashes : Names → Names → Text → Bool
clashes agreeing areas q = not (areas q) && not (agreeing q)

abbrev pub rule_declared : Names → Names → EflDeclKind → Names → Bool → Option ScopeRule
rule_declared agreeing areas (Implicit rs t) known again = rule_of_type known t again
rule_declared agreeing areas (Initial ps) known again = rule_of_uses known (uses_declared (Initial ps))
rule_declared agreeing areas (Variables None t vs) known again = rule_of_type known t again
rule_declared agreeing areas (Variables (Some q) t vs) known again = or_rule (rule_of_type known t again) (clashes agreeing areas q) CommonMismatch
rule_declared agreeing areas (Area q gs) known again = or_rule (or_rule None again DuplicateName) (clashes agreeing areas q) CommonMismatch
rule_declared agreeing areas (Structure x gs) known again = or_rule None again DuplicateName

abbrev pub with_area : Option Text → Walk → Walk
with_area None w = w
with_area (Some q) w = record w { areas = with_name q w.areas }

abbrev pub walking : (Walk → Walk) → Opened → Opened
walking step b = record b { sight = record b.sight { walk = step b.sight.walk } }

-- a declaration by itself, where structures have these names
abbrev pub declaration_noted : Names → EflDecl → Names → Bool → Walk → Walk
declaration_noted agreeing d known again w = with_area (area_of d.kind) (noting d.place (rule_declared agreeing w.areas d.kind known again) w)

abbrev pub seeing_declaration : Names → EflDecl → Opened → Opened
seeing_declaration agreeing d b = walking (declaration_noted agreeing d b.sight.known b.declared.again) b

abbrev pub groups_seen : Names → EflDeclKind → Opened → Opened
groups_seen formals (Implicit rs t) b = seeing_type t b
groups_seen formals (Initial ps) b = b
groups_seen formals (Variables q t vs) b = seeing_type t b
groups_seen formals (Area q gs) b = list_seen formals gs b
groups_seen formals (Structure x gs) b = seeing_name x (seeing_members gs b)

abbrev pub declaration_seen : Names → Names → EflDecl → Opened → Opened
declaration_seen agreeing formals d b =
    groups_seen formals d.kind (seeing_declaration agreeing d (record b { declared = names_declared formals d.kind (anew b.declared) }))

abbrev pub declarations_seen : Names → Names → List EflDecl → Opened → Opened
declarations_seen agreeing formals [] b = b
declarations_seen agreeing formals (d ∷ ds) b = declarations_seen agreeing formals ds (declaration_seen agreeing formals d b)

-- before the first declaration of a block
abbrev pub opening_seen : Names → Walk → Opened
opening_seen known w = record { declared = nothing_declared; sight = record { known = known; walk = w } }

-- the variables of a block hide structures around
abbrev pub hiding_list : EflGroups → Names → Names
hiding_list NoGroup known = known
hiding_list (AndGroup t vs p gs) known = hiding_list gs (without_names (names_of vs) known)

abbrev pub hiding_by : EflDeclKind → Names → Names
hiding_by (Variables q t vs) known = without_names (names_of vs) known
hiding_by (Area q gs) known = hiding_list gs known
hiding_by _ known = known

abbrev pub hiding : List EflDecl → Names → Names
hiding [] known = known
hiding (d ∷ ds) known = hiding ds (hiding_by d.kind known)

-- ---- statements ----

-- what is around a statement: the names of structures, the labels that it can reach, and the loops and switches
pub record Setting : Type 0 where
  pub known : Names
  pub reach : Names
  pub loops : List LoopKind

abbrev pub in_loop : LoopKind → Setting → Setting
in_loop k a = record a { loops = k ∷ a.loops }

-- the labels that stand directly in a list
abbrev pub labels_of : EflStmts → Names → Names
labels_of NoStmt ns = ns
labels_of (AndStmt (Statement ls p k) ss) ns = labels_of ss (with_names ls ns)

abbrev pub reaching : EflStmts → Setting → Setting
reaching ss a = record a { reach = either (labels_of ss no_name) a.reach }

abbrev pub knowing : Names → Setting → Setting
knowing known a = record a { known = known }

abbrev pub rule_of_statement : Setting → Bool → EflKind → Option ScopeRule
rule_of_statement a again k =
    or_rule (or_rule (rule_of_uses a.known (uses_by k)) (again || misses_target a.reach k) BadLabel) (leaves_none a.loops k) BadBreak

abbrev pub with_labels : List Text → Walk → Walk
with_labels ls w = record w { labels = declaring_all no_name ls (anew w.labels) }

abbrev pub noting_statement : Setting → Place → EflKind → Walk → Walk
noting_statement a p k w = noting p (rule_of_statement a w.labels.again k) w

abbrev mutual
  pub statement_seen : Names → Setting → EflStmt → Walk → Walk
  statement_seen agreeing a (Statement ls p k) w = within_seen agreeing a k (noting_statement a p k (with_labels ls w))

  pub within_seen : Names → Setting → EflKind → Walk → Walk
  within_seen agreeing a (Block ds ss) w =
      let b = declarations_seen agreeing no_name ds (opening_seen (hiding ds a.known) w) in
      statements_seen agreeing (reaching ss (knowing b.sight.known a)) ss b.sight.walk
  within_seen agreeing a (If e s) w = statement_seen agreeing a s w
  within_seen agreeing a (IfElse e s t) w = statement_seen agreeing a t (statement_seen agreeing a s w)
  within_seen agreeing a (While e s) w = statement_seen agreeing (in_loop loops.While a) s w
  within_seen agreeing a (For b e c s) w = statement_seen agreeing (in_loop loops.For a) s w
  within_seen agreeing a (Repeat s) w = statement_seen agreeing (in_loop loops.Repeat a) s w
  within_seen agreeing a (RepeatUntil s e p) w = noting p (rule_of_uses a.known (uses_of e)) (statement_seen agreeing (in_loop loops.Repeat a) s w)
  within_seen agreeing a (Do x b c d s) w = statement_seen agreeing (in_loop loops.Do a) s w
  within_seen agreeing a (Switch e cs) w = clauses_seen agreeing (in_loop loops.Switch a) cs w
  within_seen agreeing a _ w = w

  pub statements_seen : Names → Setting → EflStmts → Walk → Walk
  statements_seen agreeing a NoStmt w = w
  statements_seen agreeing a (AndStmt s ss) w = statements_seen agreeing a ss (statement_seen agreeing a s w)

  pub clauses_seen : Names → Setting → EflCases → Walk → Walk
  clauses_seen agreeing a NoCase w = w
  clauses_seen agreeing a (AndCase es fallback ss p cs) w = clauses_seen agreeing a cs (statements_seen agreeing (reaching ss a) ss w)

-- ---- procedures ----

abbrev pub starting : Walk
starting = record { labels = nothing_declared; areas = no_name; fault = None }

abbrev pub rule_of_header : Option EflType → Bool → Option ScopeRule
rule_of_header o again = or_rule (or_rule None (is_some_and (is_out no_name) o) OutOfProfileType) again DuplicateName

abbrev pub header_type_seen : Option EflType → Walk → Walk
header_type_seen None w = w
header_type_seen (Some t) w = (type_seen false t (record { known = no_name; walk = w })).walk

abbrev pub body_seen : Names → EflStmts → Opened → Walk
body_seen agreeing ss b = statements_seen agreeing (reaching ss (record { known = b.sight.known; reach = no_name; loops = [] })) ss b.sight.walk

abbrev pub procedure_seen : Names → EflProcedure → Walk
procedure_seen agreeing u =
    let formals = declaring_all no_name u.formals nothing_declared in
    let w = header_type_seen u.result (noting u.place (rule_of_header u.result formals.again) starting) in
    body_seen agreeing u.body (declarations_seen agreeing (either formals.names no_name) u.declarations (opening_seen no_name w))
