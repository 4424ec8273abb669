-- The rules of scopes, one row for each fault.
use Rattle.std.specs.Prelude.{ℕ, nat_le, nat_eq, Bool, true, false, not, ◌&&◌, ◌||◌, List, [], ◌∷◌, ◌++◌, map, filter, flat_map, find, length, Option, Some, None}
use Rattle.std.specs.List.{list_any, slice_get}
use Rattle.std.specs.Str.{bytes_eq}
use Rattle.rule_table.specs.Words.{is_some_and}
use Rattle.ground.specs.FaultNames.{fault_number}
use Rattle.ground.specs.declared.fault.FaultKind.{FaultKind}
use Rattle.ground.specs.declared.fault.FaultKind.TheVariants as kinds
use Rattle.efl_tree.specs.declared.statement.LoopKind.{LoopKind}
use Rattle.efl_tree.specs.declared.statement.LoopKind.TheVariants as loops
use Rattle.efl_tree.specs.Syntax.{Text, EflType, Real, Complex, Named, EflGroups, NoGroup, AndGroup, EflDeclKind, Implicit, Initial, Variables, Area, Structure, EflKind, Break, Next, Goto, EflProcedure}
use Rattle.efl_scope.specs.declared.rule.ScopeRule.{ScopeRule}
use Rattle.efl_scope.specs.declared.rule.ScopeRule.TheVariants.{OutOfProfileType, DuplicateName, BadLabel, BadBreak, CommonMismatch}
use Rattle.efl_scope.specs.DataTypes.{DataType, agree}
use Rattle.efl_scope.specs.Scopes.{Blocks, shape_named, own_variables}
use Rattle.efl_scope.specs.Parts.{Form, Header, Declares, Groups, States, Part, Around, names_of, shapes_in, shapes_of}
use Rattle.efl_scope.specs.Uses.{Use, Applied, Laid, uses_in}
use Rattle.efl_scope.specs.Uses as uses

abbrev pub kind_of : ScopeRule → FaultKind
kind_of OutOfProfileType = kinds.OutOfProfileType
kind_of DuplicateName = kinds.DuplicateName
kind_of BadLabel = kinds.BadLabel
kind_of BadBreak = kinds.BadBreak
kind_of CommonMismatch = kinds.CommonMismatch

abbrev pub rule_number : ScopeRule → ℕ
rule_number r = fault_number (kind_of r)

-- all rules in that order
abbrev pub scope_rules : List ScopeRule
scope_rules = OutOfProfileType ∷ DuplicateName ∷ BadLabel ∷ BadBreak ∷ CommonMismatch ∷ []

-- ---- types ----

-- a set of names
abbrev pub Names : Type 0
Names = Text → Bool

abbrev pub no_name : Names
no_name y = false

abbrev pub is_structure : Blocks → Names
is_structure bs x = is_some_and (λ ms. true) (shape_named bs x)

-- Where these names are structures': real, complex, or a name that is none.
abbrev pub is_out : Names → EflType → Bool
is_out known (Real long) = true
is_out known (Complex long) = true
is_out known (Named x) = not (known x)
is_out known _ = false

-- the types that a part names, groups aside; a header stands in no block
abbrev pub names_out : Names → Form → Bool
names_out known (Header o fs) = is_some_and (is_out no_name) o
names_out known (Declares before (Implicit rs t)) = is_out known t
names_out known (Declares before (Variables q t vs)) = is_out known t
names_out known (Groups before t vs) = is_out known t
names_out known _ = false

abbrev pub lays_none : Names → Use → Bool
lays_none known (Laid x) = not (known x)
lays_none known _ = false

abbrev pub has_other_type : Part → Bool
has_other_type v = let known = is_structure v.around.blocks in names_out known v.form || list_any (lays_none known) (uses_in v.form)

-- ---- names ----

abbrev pub holds : List Text → Text → Bool
holds xs x = list_any (bytes_eq x) xs

-- a name stands before, or twice
abbrev pub again : List Text → List Text → Bool
again before [] = false
again before (x ∷ xs) = holds before x || again (x ∷ before) xs

-- a structure's name of an area's list stands before
abbrev pub shapes_again : List Text → EflGroups → Bool
shapes_again before NoGroup = false
shapes_again before (AndGroup t vs p gs) = again before (shapes_in t) || shapes_again (before ++ shapes_in t ++ names_of vs) gs

-- A structure, or a variable of an area, has no formal's name. A fault of an area's list is its group's, but for structures.
abbrev pub declares_again : List Text → List Text → EflDeclKind → Bool
declares_again formals before (Implicit rs t) = again (formals ++ before) (shapes_in t)
declares_again formals before (Initial ps) = false
declares_again formals before (Variables None t vs) = again (formals ++ before) (shapes_in t) || again (before ++ shapes_in t) (names_of vs)
declares_again formals before (Variables (Some q) t vs) = again (formals ++ before) (shapes_in t ++ names_of vs)
declares_again formals before (Area q gs) = shapes_again (formals ++ before) gs
declares_again formals before (Structure x gs) = again (formals ++ before) (shapes_of gs ++ x ∷ [])

abbrev pub names_again : Around → Form → Bool
names_again a (Header o fs) = again [] fs
names_again a (Declares before k) = declares_again a.formals before k
names_again a (Groups before t vs) = again before (names_of vs)
names_again a _ = false

-- a structure's name is used as a variable's, or before parentheses
abbrev pub misuses : Names → Use → Bool
misuses known (uses.Named x) = known x
misuses known (Applied x) = known x
misuses known (Laid x) = false

abbrev pub is_duplicate : Part → Bool
is_duplicate v = names_again v.around v.form || list_any (misuses (is_structure v.around.blocks)) (uses_in v.form)

-- ---- labels, loops and switches ----

abbrev pub labels_of : Form → List Text
labels_of (States ls k) = ls
labels_of _ = []

-- the labels of the same procedure before a part
abbrev pub labels_before : ℕ → List Part → List Text
labels_before n vs = flat_map (λ v. labels_of v.form) (filter (λ v. nat_eq n v.around.unit) vs)

abbrev pub misses_target : Names → EflKind → Bool
misses_target reach (Goto l) = not (reach l)
misses_target reach _ = false

abbrev pub misses_label : List Text → Form → Bool
misses_label ls (States own k) = misses_target (holds ls) k
misses_label ls _ = false

abbrev pub has_bad_label : List Part → Part → Bool
has_bad_label earlier v = again (labels_before v.around.unit earlier) (labels_of v.form) || misses_label v.around.labels v.form

abbrev pub same_loop : LoopKind → LoopKind → Bool
same_loop loops.While loops.While = true
same_loop loops.For loops.For = true
same_loop loops.Repeat loops.Repeat = true
same_loop loops.Do loops.Do = true
same_loop loops.Switch loops.Switch = true
same_loop _ _ = false

-- a `break` counts loops and switches, or those of its kind; a `next` counts loops alone
abbrev pub is_counted : Option LoopKind → LoopKind → Bool
is_counted None k = true
is_counted (Some j) k = same_loop j k

abbrev pub is_turned : Option LoopKind → LoopKind → Bool
is_turned o loops.Switch = false
is_turned o k = is_counted o k

abbrev pub are_around : ℕ → List LoopKind → Bool
are_around n ks = nat_le 1 n && nat_le n (length ks)

abbrev pub leaves_none : List LoopKind → EflKind → Bool
leaves_none ks (Break n o) = not (are_around n (filter (is_counted o) ks))
leaves_none ks (Next n o) = not (are_around n (filter (is_turned o) ks))
leaves_none ks _ = false

abbrev pub misses_loop : List LoopKind → Form → Bool
misses_loop ks (States ls k) = leaves_none ks k
misses_loop ks _ = false

-- ---- areas ----

abbrev pub area_of : EflDeclKind → Option Text
area_of (Variables o t vs) = o
area_of (Area q gs) = Some q
area_of _ = None

abbrev pub is_of : Text → EflDeclKind → Bool
is_of q k = is_some_and (bytes_eq q) (area_of k)

-- a procedure's list of an area: the types of all its declarations of it, joined
abbrev pub area_list : Text → EflProcedure → List DataType
area_list q u = map (λ v. v.kind) (filter (λ v. is_some_and (bytes_eq q) v.area) (own_variables u))

abbrev pub has_area : Text → EflProcedure → Bool
has_area q u = list_any (λ d. is_of q d.kind) u.declarations

-- the procedure's list agrees with that of the first procedure that has the area
abbrev pub lists_agree : List EflProcedure → Text → EflProcedure → Bool
lists_agree us q u = is_some_and (λ first. agree (area_list q first) (area_list q u)) (find (has_area q) us)

abbrev pub area_declared : Form → Option Text
area_declared (Declares before k) = area_of k
area_declared _ = None

-- one of the parts declares the area in this procedure
abbrev pub is_declared : ℕ → Text → List Part → Bool
is_declared n q vs = list_any (λ v. nat_eq n v.around.unit && is_some_and (bytes_eq q) (area_declared v.form)) vs

-- the first declaration of an area in its procedure, whose list is another
abbrev pub mismatches_area : List EflProcedure → List Part → ℕ → Text → Bool
mismatches_area us earlier n q = not (is_declared n q earlier) && not (is_some_and (lists_agree us q) (slice_get us n))

abbrev pub mismatches : List EflProcedure → List Part → Part → Bool
mismatches us earlier v = is_some_and (mismatches_area us earlier v.around.unit) (area_declared v.form)

-- ---- the table ----

abbrev pub breaks : List EflProcedure → List Part → Part → ScopeRule → Bool
breaks us earlier v OutOfProfileType = has_other_type v
breaks us earlier v DuplicateName = is_duplicate v
breaks us earlier v BadLabel = has_bad_label earlier v
breaks us earlier v BadBreak = misses_loop v.around.loops v.form
breaks us earlier v CommonMismatch = mismatches us earlier v
