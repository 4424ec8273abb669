-- The parts of a procedure have its number.
use Rattle.std.proofs.Common.{◌≡◌, ◌≤◌, ℕ, ◌+◌, ℤ, Bool, false, nat_eq, ◌&&◌, ◌||◌, List, [], ◌∷◌, ◌++◌, Option, Some, None, filter, flat_map, length, refl, ap, ◌∙◌, arith, if◌then◌else◌}
use Rattle.std.specs.Str.{bytes_eq}
use Rattle.rule_table.specs.Words.{is_some_and}
use Rattle.efl_tree.specs.declared.statement.LoopKind.TheVariants as loops
use Rattle.efl_tree.specs.Syntax.{Text, EflType, Integer, Logical, Real, Complex, Named, Shape, EflGroups, NoGroup, AndGroup, EflDeclKind, Implicit, Initial, Variables, Area, Structure, EflDecl, EflStmt, Statement, EflKind, Empty, Block, Act, If, IfElse, While, For, Repeat, RepeatUntil, Do, Switch, Break, Next, Return, Goto, Write, Read, EflStmts, NoStmt, AndStmt, EflCases, NoCase, AndCase, EflProcedure}
use Rattle.efl_scope.specs.Scopes.{behind, behind_declaration, behind_all, outer}
use Rattle.efl_scope.specs.Parts.{Around, Part, among, into, in_loop, in_list, opening, opened, names_of, shapes_in, names_by, groups_in, members_in, area_groups, groups_by, declarations_in, parts_of, parts_within, parts_in, clauses_in, header_type_groups, around_unit, parts_by, parts_from}
use Rattle.efl_scope.specs.ScopeRules.{labels_of, labels_before, area_declared, is_declared}

-- all parts have this number
abbrev pub InUnit : ℕ → List Part → Type 0
InUnit n [] = Unit {0}
InUnit n (v ∷ vs) = (v.around.unit ≡ n) × InUnit n vs

both : (n : ℕ) (vs ws : List Part) → InUnit n vs → InUnit n ws → InUnit n (vs ++ ws)
both n [] ws one two = two
both n (v ∷ vs) ws one two = (one.0, both n vs ws one.1 two)

mutual
  groups_in-unit : (t : EflType) (n : ℕ) (a : Around) → a.unit ≡ n → InUnit n (groups_in a t)
  groups_in-unit Integer n a is = tt
  groups_in-unit Logical n a is = tt
  groups_in-unit (Real long) n a is = tt
  groups_in-unit (Complex long) n a is = tt
  groups_in-unit (Named x) n a is = tt
  groups_in-unit (Shape o gs) n a is = members_in-unit gs n a [] is

  members_in-unit : (gs : EflGroups) (n : ℕ) (a : Around) (before : List Text) → a.unit ≡ n → InUnit n (members_in a before gs)
  members_in-unit NoGroup n a before is = tt
  members_in-unit (AndGroup t vs p gs) n a before is =
      (is, both n (groups_in a t) _ (groups_in-unit t n a is) (members_in-unit gs n (among (behind a.blocks t) a) (before ++ names_of vs) is))

area_groups-unit : (gs : EflGroups) (n : ℕ) (a : Around) (before : List Text) → a.unit ≡ n → InUnit n (area_groups a before gs)
area_groups-unit NoGroup n a before is = tt
area_groups-unit (AndGroup t vs p gs) n a before is =
    (is, both n (groups_in a t) _ (groups_in-unit t n a is) (area_groups-unit gs n (among (behind a.blocks t) a) (before ++ shapes_in t ++ names_of vs) is))

groups_by-unit : (k : EflDeclKind) (n : ℕ) (a : Around) (before : List Text) → a.unit ≡ n → InUnit n (groups_by a before k)
groups_by-unit (Implicit rs t) n a before is = groups_in-unit t n a is
groups_by-unit (Initial ps) n a before is = tt
groups_by-unit (Variables q t vs) n a before is = groups_in-unit t n a is
groups_by-unit (Area q gs) n a before is = area_groups-unit gs n a (a.formals ++ before) is
groups_by-unit (Structure x gs) n a before is = members_in-unit gs n a [] is

declarations_in-unit : (ds : List EflDecl) (n : ℕ) (a : Around) (before : List Text) → a.unit ≡ n → InUnit n (declarations_in a before ds)
declarations_in-unit [] n a before is = tt
declarations_in-unit (d ∷ ds) n a before is =
    (is, both n (groups_by a before d.kind) _ (groups_by-unit d.kind n a before is) (declarations_in-unit ds n (among (behind_declaration a.blocks d.kind) a) (before ++ names_by d.kind) is))

mutual
  parts_of-unit : (s : EflStmt) (n : ℕ) (a : Around) → a.unit ≡ n → InUnit n (parts_of a s)
  parts_of-unit (Statement ls p k) n a is = (is, parts_within-unit k n a is)

  parts_within-unit : (k : EflKind) (n : ℕ) (a : Around) → a.unit ≡ n → InUnit n (parts_within a k)
  parts_within-unit Empty n a is = tt
  parts_within-unit (Block ds ss) n a is =
      both n (declarations_in (opening ds a) [] ds) _ (declarations_in-unit ds n (opening ds a) [] is) (parts_in-unit ss n 0 (in_list ss (opened ds a)) is)
  parts_within-unit (Act e) n a is = tt
  parts_within-unit (If e s) n a is = parts_of-unit s n a is
  parts_within-unit (IfElse e s t) n a is = both n (parts_of (into 0 a) s) _ (parts_of-unit s n (into 0 a) is) (parts_of-unit t n (into 1 a) is)
  parts_within-unit (While e s) n a is = parts_of-unit s n (in_loop loops.While a) is
  parts_within-unit (For b e c s) n a is = parts_of-unit s n (in_loop loops.For a) is
  parts_within-unit (Repeat s) n a is = parts_of-unit s n (in_loop loops.Repeat a) is
  parts_within-unit (RepeatUntil s e p) n a is = both n (parts_of (in_loop loops.Repeat a) s) _ (parts_of-unit s n (in_loop loops.Repeat a) is) (is, tt)
  parts_within-unit (Do x b c d s) n a is = parts_of-unit s n (in_loop loops.Do a) is
  parts_within-unit (Switch e cs) n a is = clauses_in-unit cs n 0 (in_loop loops.Switch a) [] false is
  parts_within-unit (Break m o) n a is = tt
  parts_within-unit (Next m o) n a is = tt
  parts_within-unit (Return e) n a is = tt
  parts_within-unit (Goto l) n a is = tt
  parts_within-unit (Write e is') n a is = tt
  parts_within-unit (Read e is') n a is = tt

  parts_in-unit : (ss : EflStmts) (n m : ℕ) (a : Around) → a.unit ≡ n → InUnit n (parts_in m a ss)
  parts_in-unit NoStmt n m a is = tt
  parts_in-unit (AndStmt s ss) n m a is = both n (parts_of (into m a) s) _ (parts_of-unit s n (into m a) is) (parts_in-unit ss n (m + 1) a is)

  clauses_in-unit : (cs : EflCases) (n m : ℕ) (a : Around) (zs : List ℤ) (seen : Bool) → a.unit ≡ n → InUnit n (clauses_in m a zs seen cs)
  clauses_in-unit NoCase n m a zs seen is = tt
  clauses_in-unit (AndCase es fallback ss p cs) n m a zs seen is =
      (is, both n (parts_in 0 (in_list ss (into m a)) ss) _ (parts_in-unit ss n 0 (in_list ss (into m a)) is) (clauses_in-unit cs n (m + 1) a (zs ++ es) (seen || fallback) is))

header_type-unit : (o : Option EflType) (n : ℕ) (a : Around) → a.unit ≡ n → InUnit n (header_type_groups a o)
header_type-unit None n a is = tt
header_type-unit (Some t) n a is = groups_in-unit t n (among [] a) is

pub parts_by-unit : (n : ℕ) (u : EflProcedure) → InUnit n (parts_by n u)
parts_by-unit n u =
    let a = around_unit n u in (
      refl,
      both n (header_type_groups a u.result ++ declarations_in a [] u.declarations) _
          (both n (header_type_groups a u.result) _ (header_type-unit u.result n a refl) (declarations_in-unit u.declarations n a [] refl))
          (parts_in-unit u.body n 0 (among (behind_all (outer u) u.declarations) a) refl),
    )

-- ---- the parts of other procedures ----

-- no part has this number
abbrev pub OutOf : ℕ → List Part → Type 0
OutOf n [] = Unit {0}
OutOf n (v ∷ vs) = (nat_eq n v.around.unit ≡ false) × OutOf n vs

pub out-both : (n : ℕ) (vs ws : List Part) → OutOf n vs → OutOf n ws → OutOf n (vs ++ ws)
out-both n [] ws one two = two
out-both n (v ∷ vs) ws one two = (one.0, out-both n vs ws one.1 two)

pub other_unit : (n m : ℕ) (vs : List Part) → nat_eq n m ≡ false → InUnit m vs → OutOf n vs
other_unit n m [] other within = tt
other_unit n m (v ∷ vs) other within = (ap (nat_eq n) within.0 ∙ other, other_unit n m vs other within.1)

-- none of the procedures before one has its number
pub before-out : (us : List EflProcedure) (n m : ℕ) → m + length us ≤ n → OutOf n (parts_from m us)
before-out [] n m within = tt
before-out (u ∷ us) n m within =
    out-both n (parts_by m u) (parts_from (m + 1) us) (other_unit n m (parts_by m u) (grind (arith, within)) (parts_by-unit m u)) (before-out us n (m + 1) (omega (arith, within)))

pub out-labels : (n : ℕ) (vs : List Part) → OutOf n vs → labels_before n vs ≡ []
out-labels n [] out = refl
out-labels n (v ∷ vs) out =
    ap (λ b. flat_map (λ x. labels_of x.form) (if b then v ∷ filter (λ x. nat_eq n x.around.unit) vs else filter (λ x. nat_eq n x.around.unit) vs)) out.0 ∙ out-labels n vs out.1

pub out-areas : (n : ℕ) (q : Text) (vs : List Part) → OutOf n vs → is_declared n q vs ≡ false
out-areas n q [] out = refl
out-areas n q (v ∷ vs) out = ap (λ b. (b && is_some_and (bytes_eq q) (area_declared v.form)) || is_declared n q vs) out.0 ∙ out-areas n q vs out.1
