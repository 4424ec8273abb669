-- The trees in memory that hold others, as a walk sees them.
use Rattle.std.proofs.Common.{◌≡◌, Bool, true, false, ℕ, suc, ◌+◌, ◌<◌, Option, List, [], ◌∷◌, Vec, Global, length, drop, get_or, sym, ap, ◌∙◌, arith}
use Rattle.std.proofs.Math.Seq.{drop-cons}
use Rattle.ground.specs.declared.place.Place.{Place}
use Rattle.efl_tree.specs.declared.expression.EflExpr.{EflExpr}
use Rattle.efl_tree.specs.declared.declaration.EflType.{EflType}
use Rattle.efl_tree.specs.declared.declaration.EflType.TheVariants as types
use Rattle.efl_tree.specs.declared.declaration.EflGroup.{EflGroup}
use Rattle.efl_tree.specs.declared.declaration.EflDecl.{EflDecl}
use Rattle.efl_tree.specs.declared.statement.EflKind.{EflKind}
use Rattle.efl_tree.specs.declared.statement.EflKind.TheVariants as kinds
use Rattle.efl_tree.specs.declared.statement.EflStmt.{EflStmt}
use Rattle.efl_tree.specs.declared.statement.EflCase.{EflCase, out-EflCase, roll-out-EflCase}
use Rattle.efl_tree.specs.Syntax.{Text, EflGroups, AndGroup, EflCases, AndCase}
use Rattle.efl_tree.specs.Syntax as efl
use Rattle.efl_tree.specs.Views.{expr_of, type_of, groups_of, decls_of, kind_of, stmts_of, case_then, cases_of}
use Rattle.efl_tree.proofs.Rows.{shape_type, block_kind, switch_kind, clause_is}
use Rattle.efl_scope.specs.ScopeRules.{Names, no_name}
use Rattle.efl_scope.specs.Parts.{names_of}
use Rattle.efl_scope.specs.Sights.{with_name, either, Declared, nothing_declared, declaring_all, Sight, Walk, Setting, Opened, starting, noting, reaching, rule_of_type, noting_in, type_seen, members_seen, groups_seen, declarations_seen, opening_seen, statements_seen, clauses_seen, rule_of_header, header_type_seen, body_seen, procedure_seen}

-- what was seen in a block
abbrev pub opened_as : Declared → Names → Walk → Opened
opened_as d known w = record { declared = d; sight = record { known = known; walk = w } }

pub shape_is : (t : EflType) (x : Option Text) (list : Vec EflGroup Global) (seen : List EflGroup) → t ≡ types.Shape x list → seen ≡ list.items → efl.Shape x (groups_of seen) ≡ type_of t
shape_is t x list seen is at = ap (λ gs. efl.Shape x (groups_of gs)) at ∙ sym (ap type_of is ∙ shape_type x list)

pub block_is : (k : EflKind) (ds : Vec EflDecl Global) (list : Vec EflStmt Global) (before : List EflDecl) (seen : List EflStmt) → k ≡ kinds.Block ds list → before ≡ ds.items → seen ≡ list.items →
    efl.Block (decls_of before) (stmts_of seen) ≡ kind_of k
block_is k ds list before seen is first at =
    ap (λ xs. efl.Block (decls_of xs) (stmts_of seen)) first ∙ ap (λ xs. efl.Block (decls_of ds.items) (stmts_of xs)) at ∙ sym (ap kind_of is ∙ block_kind ds list)

pub switch_is : (k : EflKind) (e : EflExpr) (list : Vec EflCase Global) (seen : List EflCase) → k ≡ kinds.Switch e list → seen ≡ list.items → efl.Switch (expr_of e) (cases_of seen) ≡ kind_of k
switch_is k e list seen is at = ap (λ cs. efl.Switch (expr_of e) (cases_of cs)) at ∙ sym (ap kind_of is ∙ switch_kind e list)

-- ---- lists ----

pub drop_next : {X : Type 0} (list : List X) (i : ℕ) (x : X) → i < length list → x ≡ get_or list i x → drop i list ≡ x ∷ drop (i + 1) list
drop_next list i x lt is =
    let e : suc i ≡ i + 1 = omega arith in
    drop-cons list i x lt ∙ ap (λ y. y ∷ drop (suc i) list) (sym is) ∙ ap (λ m. x ∷ drop m list) e

-- one group more of a shape
pub group_passed : (kept : Bool) (t : efl.EflType) (vs : List efl.EflVar) (p : Place) (gs : EflGroups) (s0 s1 s2 : Sight) (before : Names) (d : Declared) →
    d ≡ declaring_all no_name (names_of vs) (record { names = before; again = false }) → s1 ≡ noting_in p (λ known. rule_of_type known t d.again) s0 → s2 ≡ type_seen kept t s1 →
    members_seen kept d.names gs s2 ≡ members_seen kept before (AndGroup t vs p gs) s0
group_passed kept t vs p gs s0 s1 s2 before d first second third =
    ap (members_seen kept d.names gs) (third ∙ ap (type_seen kept t) second)
    ∙ ap (λ c. members_seen kept c.names gs (type_seen kept t (noting_in p (λ known. rule_of_type known t c.again) s0))) first

clause_then-is : (c : EflCase) (rest : EflCases) → case_then c rest ≡ AndCase (out-EflCase c).tests.items (out-EflCase c).fallback (stmts_of (out-EflCase c).body.items) (out-EflCase c).place rest
clause_then-is c rest =
    let o = out-EflCase c in
    sym (ap (λ x. case_then x rest) (roll-out-EflCase c)) ∙ ap (λ f. f rest) (clause_is o.tests o.fallback o.body o.place)

-- one clause more of a switch
pub clause_passed : (agreeing : Names) (a : Setting) (list : List EflCase) (i : ℕ) (c : EflCase) (w w1 : Walk) → i < length list → c ≡ get_or list i c →
    w1 ≡ statements_seen agreeing (reaching (stmts_of (out-EflCase c).body.items) a) (stmts_of (out-EflCase c).body.items) w →
    clauses_seen agreeing a (cases_of (drop (i + 1) list)) w1 ≡ clauses_seen agreeing a (cases_of (drop i list)) w
clause_passed agreeing a list i c w w1 lt is seen =
    ap (clauses_seen agreeing a (cases_of (drop (i + 1) list))) seen
    ∙ sym (ap (λ cs. clauses_seen agreeing a (cases_of cs) w) (drop_next list i c lt is) ∙ ap (λ cs. clauses_seen agreeing a cs w) (clause_then-is c (cases_of (drop (i + 1) list))))

-- ---- declarations ----

-- a structure, whose groups come before its name
pub structure_passed : (formals : Names) (b : Opened) (s : Sight) (x y : Text) (known : Names) (gs hs : EflGroups) →
    s ≡ members_seen true no_name gs b.sight → known ≡ with_name y s.known → y ≡ x → gs ≡ hs →
    opened_as b.declared known s.walk ≡ groups_seen formals (efl.Structure x hs) b
structure_passed formals b s x y known gs hs first second at are =
    ap (λ ns. opened_as b.declared ns s.walk) (second ∙ ap (λ z. with_name z s.known) at)
    ∙ ap (λ r. opened_as b.declared (with_name x r.known) r.walk) (first ∙ ap (λ xs. members_seen true no_name xs b.sight) are)

-- ---- procedures ----

-- what is known and what was seen
abbrev pub sight_as : Names → Walk → Sight
sight_as known w = record { known = known; walk = w }

-- what is around the body of a procedure
abbrev pub around_body : Names → Setting
around_body known = record { known = known; reach = no_name; loops = [] }

pub procedure_passed : (agreeing : Names) (u : efl.EflProcedure) (f : Declared) (w1 w2 w3 : Walk) (s : Sight) →
    f ≡ declaring_all no_name u.formals nothing_declared → w1 ≡ noting u.place (rule_of_header u.result f.again) starting → w2 ≡ header_type_seen u.result w1 →
    s ≡ (declarations_seen agreeing (either f.names no_name) u.declarations (opening_seen no_name w2)).sight → w3 ≡ statements_seen agreeing (reaching u.body (around_body s.known)) u.body s.walk →
    w3 ≡ procedure_seen agreeing u
procedure_passed agreeing u f w1 w2 w3 s formals header type declared body =
    body ∙ ap (λ r. statements_seen agreeing (reaching u.body (around_body r.known)) u.body r.walk) declared
    ∙ ap (λ w. body_seen agreeing u.body (declarations_seen agreeing (either f.names no_name) u.declarations (opening_seen no_name w))) (type ∙ ap (header_type_seen u.result) header)
    ∙ ap (λ d. body_seen agreeing u.body (declarations_seen agreeing (either d.names no_name) u.declarations (opening_seen no_name (header_type_seen u.result (noting u.place (rule_of_header u.result d.again) starting))))) formals
